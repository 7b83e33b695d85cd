-- Which line may follow which: what the lines before a line have begun, and the fault of a line that doesn't fit.
use Rattle.std.specs.Prelude.{ℕ, Bool, true, false, not, ◌&&◌, ◌||◌, if◌then◌else◌, List, [], ◌∷◌, ◌++◌, codes, bytes_eq, Option, Some, None, Result, Ok, Err}
use Rattle.std.specs.List.{list_any}
use Rattle.vm_model.specs.Failures.{◌>>=◌}
use Rattle.jasmin_lines.specs.declared.fault.ReadKind.{ReadKind}
use Rattle.jasmin_lines.specs.declared.fault.ReadKind.TheVariants.{NoClass, OutsideMethod, InMethod, NoSuper, LabelTwice, EndMissing, Repeat}
use Rattle.jasmin_lines.specs.declared.form.Form.{Form}
use Rattle.jasmin_lines.specs.declared.form.Form.TheVariants as form
use Rattle.jasmin_lines.specs.declared.lexeme.Lexeme.{Lexeme}
use Rattle.jasmin_lines.specs.Lexemes.{PlainLine}
use Rattle.jasmin_lines.specs.Words.{is_word}
use Rattle.jasmin_lines.specs.Forms.{form_of}

-- what the lines so far have begun: a class, its super, a method, the limits and the labels of that method
pub record PlainState : Type 0 where
  pub has_class : Bool
  pub has_super : Bool
  pub is_inside : Bool
  pub has_stack : Bool
  pub has_locals : Bool
  pub labels : List (List ℕ)

abbrev pub nothing_begun : PlainState
nothing_begun = record {
  has_class = false;
  has_super = false;
  is_inside = false;
  has_stack = false;
  has_locals = false;
  labels = [];
}

abbrev pub class_begun : PlainState
class_begun = record {
  has_class = true;
  has_super = false;
  is_inside = false;
  has_stack = false;
  has_locals = false;
  labels = [];
}

abbrev pub super_said : PlainState → PlainState
super_said s = record {
  has_class = s.has_class;
  has_super = true;
  is_inside = s.is_inside;
  has_stack = s.has_stack;
  has_locals = s.has_locals;
  labels = s.labels;
}

abbrev pub method_begun : PlainState → PlainState
method_begun s = record {
  has_class = s.has_class;
  has_super = s.has_super;
  is_inside = true;
  has_stack = false;
  has_locals = false;
  labels = [];
}

abbrev pub method_ended : PlainState → PlainState
method_ended s = record {
  has_class = s.has_class;
  has_super = s.has_super;
  is_inside = false;
  has_stack = s.has_stack;
  has_locals = s.has_locals;
  labels = s.labels;
}

abbrev pub stack_said : PlainState → PlainState
stack_said s = record {
  has_class = s.has_class;
  has_super = s.has_super;
  is_inside = s.is_inside;
  has_stack = true;
  has_locals = s.has_locals;
  labels = s.labels;
}

abbrev pub locals_said : PlainState → PlainState
locals_said s = record {
  has_class = s.has_class;
  has_super = s.has_super;
  is_inside = s.is_inside;
  has_stack = s.has_stack;
  has_locals = true;
  labels = s.labels;
}

abbrev pub labelled : List (List ℕ) → PlainState → PlainState
labelled labels s = record {
  has_class = s.has_class;
  has_super = s.has_super;
  is_inside = s.is_inside;
  has_stack = s.has_stack;
  has_locals = s.has_locals;
  labels = s.labels ++ labels;
}

-- what has begun after a line
abbrev pub next_state : Form → PlainState → PlainState
next_state (form.Class c) s = class_begun
next_state (form.Super name) s = super_said s
next_state (form.Method m) s = method_begun s
next_state form.End s = method_ended s
next_state (form.StackLimit n) s = stack_said s
next_state (form.LocalsLimit n) s = locals_said s
next_state (form.Label label) s = labelled (label ∷ []) s
next_state (form.Code l) s = labelled l.labels s
next_state _ s = s

-- ---- faults of a line between others

-- a fault unless a test fails
abbrev pub only_if : ReadKind → Bool → Option ReadKind → Option ReadKind
only_if kind is_fault rest = if is_fault then Some kind else rest

-- a line of a class stands inside a method
abbrev pub outside_methods : PlainState → Option ReadKind → Option ReadKind
outside_methods s rest = only_if InMethod s.is_inside rest

-- a line of a method stands outside methods
abbrev pub inside_method : PlainState → Option ReadKind → Option ReadKind
inside_method s rest = only_if OutsideMethod (not s.is_inside) rest

-- whether a class has begun whose super is still to come
abbrev pub lacks_super : PlainState → Bool
lacks_super s = s.has_class && not s.has_super

abbrev pub has_label : PlainState → List (List ℕ) → Bool
has_label s labels = list_any (λ label. list_any (bytes_eq label) s.labels) labels

-- the least fault of a line that has its form, by what has begun, and by whether a method ends after it
abbrev pub misplaced : Bool → PlainState → Form → Option ReadKind
misplaced ends s form.Skipped = None
misplaced ends s (form.Interface line) = outside_methods s None
misplaced ends s (form.Class c) = outside_methods s (only_if NoSuper (lacks_super s) None)
misplaced ends s (form.Super name) = outside_methods s (only_if Repeat s.has_super None)
misplaced ends s (form.Implements name) = outside_methods s None
misplaced ends s (form.Field f) = outside_methods s (only_if NoSuper (lacks_super s) None)
misplaced ends s (form.Method m) = outside_methods s (only_if NoSuper (lacks_super s) (only_if EndMissing (not ends) None))
misplaced ends s (form.StackLimit n) = inside_method s (only_if Repeat s.has_stack None)
misplaced ends s (form.LocalsLimit n) = inside_method s (only_if Repeat s.has_locals None)
misplaced ends s form.Ignored = inside_method s None
misplaced ends s (form.Catch c) = inside_method s None
misplaced ends s form.End = inside_method s None
misplaced ends s (form.Label label) = inside_method s (only_if LabelTwice (has_label s (label ∷ [])) None)
misplaced ends s (form.Code l) = inside_method s (only_if LabelTwice (has_label s l.labels) None)

-- the lines that may stand before the first class
abbrev pub may_stand_first : List Lexeme → Bool
may_stand_first [] = false
may_stand_first (first ∷ words) =
    is_word (codes ".source") first || is_word (codes ".bytecode") first || is_word (codes ".interface") first || is_word (codes ".class") first

abbrev pub is_end_of : List Lexeme → Bool
is_end_of (a ∷ b ∷ []) = is_word (codes ".end") a && is_word (codes "method") b
is_end_of _ = false

-- `.end method`
abbrev pub is_end : PlainLine → Bool
is_end line = is_end_of line.words

abbrev pub placed : Option ReadKind → Form → Result Form ReadKind
placed None f = Ok f
placed (Some kind) f = Err kind

-- a line among others: its form, or the least of its faults
unfoldable pub form_among : PlainState → PlainLine → List PlainLine → Result Form ReadKind
form_among s line behind =
    if not s.has_class && not (may_stand_first line.words) then Err NoClass else
    (form_of line.number line.words >>= λ f. placed (misplaced (list_any is_end behind) s f) f)
