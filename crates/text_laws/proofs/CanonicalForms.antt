-- The lines of a canonical text: their forms, and the words of each.
use Rattle.std.specs.Prelude.{ℕ, Bool, ◌==◌, if◌then◌else◌, List, [], ◌∷◌, ◌++◌, length, map, codes, ℤ, pos, Option, Some, None}
use Rattle.std.specs.List.{flat_map}
use Rattle.jasmin_lines.specs.declared.class_text.Operand.{Operand}
use Rattle.jasmin_lines.specs.declared.class_text.Operand.TheVariants as operand
use Rattle.jasmin_lines.specs.declared.class_text.NameAt.{NameAt}
use Rattle.jasmin_lines.specs.declared.class_text.CatchText.{CatchText}
use Rattle.jasmin_lines.specs.declared.form.Form.{Form}
use Rattle.jasmin_lines.specs.declared.form.Form.TheVariants as form
use Rattle.jasmin_lines.specs.declared.lexeme.Lexeme.{Lexeme}
use Rattle.jasmin_lines.specs.declared.lexeme.Lexeme.TheVariants as lexeme
use Rattle.jasmin_lines.specs.Directives.{empty_class, empty_method}
use Rattle.jasmin_lines.specs.Plain.{PlainLineText, PlainFieldText, PlainMethodText, PlainClassText}
use Rattle.text_laws.specs.Spelled.{spelled_line}

-- ---- the words of a line

abbrev pub word : List ℕ → Lexeme
word bytes = lexeme.Word bytes

abbrev pub operand_word : Operand → Lexeme
operand_word (operand.Number n) = lexeme.Number n
operand_word (operand.Word bytes) = lexeme.Word bytes
operand_word (operand.Text text) = lexeme.Text text

abbrev pub value_words : Option ℤ → List Lexeme
value_words None = []
value_words (Some n) = lexeme.Word (codes "=") ∷ lexeme.Number n ∷ []

abbrev pub field_words : PlainFieldText → List Lexeme
field_words f = map word f.flags ++ lexeme.Word f.name ∷ lexeme.Word f.desc ∷ value_words f.value

abbrev pub catch_words : CatchText → List Lexeme
catch_words c = lexeme.Word c.class ∷ lexeme.Word (codes "from") ∷ lexeme.Word c.from ∷ lexeme.Word (codes "to") ∷ lexeme.Word c.to ∷ lexeme.Word (codes "using") ∷ lexeme.Word c.using ∷ []

-- a skipped line has none
abbrev pub words_of : Form → List Lexeme
words_of form.Skipped = []
words_of form.Ignored = []
words_of (form.Interface line) = lexeme.Word (codes ".interface") ∷ []
words_of (form.Class c) = lexeme.Word (codes ".class") ∷ (map word c.flags ++ lexeme.Word c.name ∷ [])
words_of (form.Super n) = lexeme.Word (codes ".super") ∷ lexeme.Word n.name ∷ []
words_of (form.Implements n) = lexeme.Word (codes ".implements") ∷ lexeme.Word n.name ∷ []
words_of (form.Field f) = lexeme.Word (codes ".field") ∷ field_words f
words_of (form.Method m) = lexeme.Word (codes ".method") ∷ (map word m.flags ++ lexeme.Word (m.name ++ m.desc) ∷ [])
words_of (form.StackLimit n) = lexeme.Word (codes ".limit") ∷ lexeme.Word (codes "stack") ∷ lexeme.Number (pos n) ∷ []
words_of (form.LocalsLimit n) = lexeme.Word (codes ".limit") ∷ lexeme.Word (codes "locals") ∷ lexeme.Number (pos n) ∷ []
words_of (form.Catch c) = lexeme.Word (codes ".catch") ∷ catch_words c
words_of form.End = lexeme.Word (codes ".end") ∷ lexeme.Word (codes "method") ∷ []
words_of (form.Label label) = lexeme.Word (label ++ 58 ∷ []) ∷ []
words_of (form.Code l) = lexeme.Word l.word ∷ map operand_word l.operands

abbrev pub written : List Form → List ℕ
written forms = flat_map (λ f. spelled_line (words_of f)) forms

-- ---- forms

-- an instruction whose labels stand on lines of their own
abbrev pub unlabelled : PlainLineText → PlainLineText
unlabelled l = record { line = l.line; labels = []; word = l.word; operands = l.operands }

abbrev pub line_forms : PlainLineText → List Form
line_forms l = map (λ label. form.Label label) l.labels ++ form.Code (unlabelled l) ∷ []

abbrev pub stack_forms : Option ℕ → List Form
stack_forms None = []
stack_forms (Some n) = form.StackLimit n ∷ []

abbrev pub locals_forms : Option ℕ → List Form
locals_forms None = []
locals_forms (Some n) = form.LocalsLimit n ∷ []

abbrev pub label_forms : List (List ℕ) → List Form
label_forms labels = map (λ label. form.Label label) labels

abbrev pub catch_forms : List CatchText → List Form
catch_forms catches = map (λ c. form.Catch c) catches

abbrev pub body_forms : PlainMethodText → List Form
body_forms m = flat_map line_forms m.lines ++ label_forms m.end_labels ++ catch_forms m.catches

abbrev pub limit_forms : PlainMethodText → List Form
limit_forms m = stack_forms m.stack ++ locals_forms m.locals

abbrev pub head_form : PlainMethodText → Form
head_form m = form.Method (empty_method m.line m.flags m.name m.desc)

abbrev pub method_forms : PlainMethodText → List Form
method_forms m = (head_form m ∷ []) ++ limit_forms m ++ body_forms m ++ form.End ∷ []

abbrev pub super_of : PlainClassText → NameAt
super_of c = record { line = c.super_line; name = c.super_name }

abbrev pub member_forms : PlainClassText → List Form
member_forms c = map (λ n. form.Implements n) c.implements ++ map (λ f. form.Field f) c.fields ++ flat_map method_forms c.methods

abbrev pub named_forms : PlainClassText → List Form
named_forms c = (form.Class (empty_class c.line c.flags c.name) ∷ form.Super (super_of c) ∷ []) ++ member_forms c

-- a class without a name stands for an interface
abbrev pub named_or : PlainClassText → Bool → List Form
named_or c is_interface = if is_interface then form.Interface c.line ∷ [] else named_forms c

abbrev pub class_forms : PlainClassText → List Form
class_forms c = named_or c (length c.name == 0)

abbrev pub forms_of : List PlainClassText → List Form
forms_of classes = flat_map class_forms classes
