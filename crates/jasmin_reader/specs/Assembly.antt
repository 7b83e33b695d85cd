-- Classes from the forms of lines. Each form is added to what the forms after it give.
use Rattle.std.specs.Prelude.{ℕ, List, [], ◌∷◌, Option, Some, None}
use Rattle.jasmin_lines.specs.declared.class_text.NameAt.{NameAt}
use Rattle.jasmin_lines.specs.declared.class_text.CatchText.{CatchText}
use Rattle.jasmin_lines.specs.declared.form.Form.{Form}
use Rattle.jasmin_lines.specs.declared.form.Form.TheVariants as form
use Rattle.jasmin_lines.specs.Plain.{PlainLineText, PlainFieldText, PlainMethodText, PlainClassText}
use Rattle.jasmin_lines.specs.Directives.{empty_class}

-- what stands in a method whose first line is still to come
pub record PlainBody : Type 0 where
  pub stack : Option ℕ
  pub locals : Option ℕ
  pub lines : List PlainLineText
  pub end_labels : List (List ℕ)
  pub catches : List CatchText

-- what stands in a class whose first line is still to come
pub record PlainMembers : Type 0 where
  pub super_line : ℕ
  pub super_name : List ℕ
  pub implements : List NameAt
  pub fields : List PlainFieldText
  pub methods : List PlainMethodText

pub record PlainParts : Type 0 where
  pub body : PlainBody
  pub members : PlainMembers
  pub classes : List PlainClassText

abbrev pub no_body : PlainBody
no_body = record {
  stack = None;
  locals = None;
  lines = [];
  end_labels = [];
  catches = [];
}

abbrev pub no_members : PlainMembers
no_members = record {
  super_line = 0;
  super_name = [];
  implements = [];
  fields = [];
  methods = [];
}

abbrev pub no_parts : PlainParts
no_parts = record { body = no_body; members = no_members; classes = [] }

-- ---- a method

abbrev pub with_stack : ℕ → PlainBody → PlainBody
with_stack n b = record { stack = Some n; locals = b.locals; lines = b.lines; end_labels = b.end_labels; catches = b.catches }

abbrev pub with_locals : ℕ → PlainBody → PlainBody
with_locals n b = record { stack = b.stack; locals = Some n; lines = b.lines; end_labels = b.end_labels; catches = b.catches }

abbrev pub with_catch : CatchText → PlainBody → PlainBody
with_catch c b = record { stack = b.stack; locals = b.locals; lines = b.lines; end_labels = b.end_labels; catches = c ∷ b.catches }

abbrev pub with_line : PlainLineText → PlainBody → PlainBody
with_line l b = record { stack = b.stack; locals = b.locals; lines = l ∷ b.lines; end_labels = b.end_labels; catches = b.catches }

abbrev pub labelled_line : List ℕ → PlainLineText → PlainLineText
labelled_line label l = record { line = l.line; labels = label ∷ l.labels; word = l.word; operands = l.operands }

-- a label stands before the next instruction, or at the end
abbrev pub labelled_lines : List ℕ → List PlainLineText → List PlainLineText
labelled_lines label [] = []
labelled_lines label (l ∷ ls) = labelled_line label l ∷ ls

abbrev pub labelled_end : List ℕ → List PlainLineText → List (List ℕ) → List (List ℕ)
labelled_end label [] labels = label ∷ labels
labelled_end label (l ∷ ls) labels = labels

abbrev pub with_label : List ℕ → PlainBody → PlainBody
with_label label b = record {
  stack = b.stack;
  locals = b.locals;
  lines = labelled_lines label b.lines;
  end_labels = labelled_end label b.lines b.end_labels;
  catches = b.catches;
}

abbrev pub method_of : PlainMethodText → PlainBody → PlainMethodText
method_of m b = record {
  line = m.line;
  flags = m.flags;
  name = m.name;
  desc = m.desc;
  stack = b.stack;
  locals = b.locals;
  lines = b.lines;
  end_labels = b.end_labels;
  catches = b.catches;
}

-- ---- a class

abbrev pub with_super : NameAt → PlainMembers → PlainMembers
with_super n m = record { super_line = n.line; super_name = n.name; implements = m.implements; fields = m.fields; methods = m.methods }

abbrev pub with_implements : NameAt → PlainMembers → PlainMembers
with_implements n m = record { super_line = m.super_line; super_name = m.super_name; implements = n ∷ m.implements; fields = m.fields; methods = m.methods }

abbrev pub with_field : PlainFieldText → PlainMembers → PlainMembers
with_field f m = record { super_line = m.super_line; super_name = m.super_name; implements = m.implements; fields = f ∷ m.fields; methods = m.methods }

abbrev pub with_method : PlainMethodText → PlainMembers → PlainMembers
with_method x m = record { super_line = m.super_line; super_name = m.super_name; implements = m.implements; fields = m.fields; methods = x ∷ m.methods }

abbrev pub class_of : PlainClassText → PlainMembers → PlainClassText
class_of c m = record {
  line = c.line;
  flags = c.flags;
  name = c.name;
  super_line = m.super_line;
  super_name = m.super_name;
  implements = m.implements;
  fields = m.fields;
  methods = m.methods;
}

-- ---- a text

abbrev pub in_body : PlainBody → PlainParts → PlainParts
in_body b p = record { body = b; members = p.members; classes = p.classes }

abbrev pub in_members : PlainMembers → PlainParts → PlainParts
in_members m p = record { body = p.body; members = m; classes = p.classes }

abbrev pub with_form : Form → PlainParts → PlainParts
with_form form.Skipped p = p
with_form form.Ignored p = p
with_form form.End p = p
with_form (form.Interface line) p = record { body = p.body; members = p.members; classes = empty_class line [] [] ∷ p.classes }
with_form (form.Class c) p = record { body = no_body; members = no_members; classes = class_of c p.members ∷ p.classes }
with_form (form.Super n) p = in_members (with_super n p.members) p
with_form (form.Implements n) p = in_members (with_implements n p.members) p
with_form (form.Field f) p = in_members (with_field f p.members) p
with_form (form.Method m) p = record { body = no_body; members = with_method (method_of m p.body) p.members; classes = p.classes }
with_form (form.StackLimit n) p = in_body (with_stack n p.body) p
with_form (form.LocalsLimit n) p = in_body (with_locals n p.body) p
with_form (form.Catch c) p = in_body (with_catch c p.body) p
with_form (form.Label label) p = in_body (with_label label p.body) p
with_form (form.Code l) p = in_body (with_line l p.body) p

unfoldable pub parts_of : List Form → PlainParts → PlainParts
parts_of [] p = p
parts_of (f ∷ fs) p = with_form f (parts_of fs p)

-- the classes of these lines
abbrev pub classes_of : List Form → List PlainClassText
classes_of forms = (parts_of forms no_parts).classes
