-- The classes that a text's lines make, told from the first line on: what a line begins, and which of those after it belong
-- to that.
use Rattle.std.specs.Prelude.{◌≡◌, ℕ, Bool, if◌then◌else◌, List, [], ◌∷◌, ◌++◌, flat_map, Option, Some, None}
use Rattle.jasmin_lines.specs.declared.class_text.NameAt.{NameAt}
use Rattle.jasmin_lines.specs.declared.class_text.CatchText.{CatchText}
use Rattle.jasmin_lines.specs.declared.form.Form.{Form}
use Rattle.jasmin_lines.specs.declared.form.Form.TheVariants as form
use Rattle.jasmin_lines.specs.Plain.{PlainLineText, PlainFieldText, PlainMethodText, PlainClassText}
use Rattle.text_laws.specs.LineRules.{is_class, begins_anew}
use Rattle.text_laws.specs.WordRules.{bare_class}

-- ---- what one line says

abbrev pub stack_limits : Form → List ℕ
stack_limits (form.StackLimit n) = n ∷ []
stack_limits _ = []

abbrev pub locals_limits : Form → List ℕ
locals_limits (form.LocalsLimit n) = n ∷ []
locals_limits _ = []

abbrev pub catches_said : Form → List CatchText
catches_said (form.Catch c) = c ∷ []
catches_said _ = []

abbrev pub supers_said : Form → List NameAt
supers_said (form.Super n) = n ∷ []
supers_said _ = []

abbrev pub interfaces_said : Form → List NameAt
interfaces_said (form.Implements n) = n ∷ []
interfaces_said _ = []

abbrev pub fields_said : Form → List PlainFieldText
fields_said (form.Field x) = x ∷ []
fields_said _ = []

-- the lines before the first that is such
abbrev pub up_to : (Form → Bool) → List Form → List Form
up_to ends [] = []
up_to ends (f ∷ forms) = if ends f then [] else f ∷ up_to ends forms

-- ---- a method

-- the first of these numbers, where there is one
abbrev pub IsFirstIfAny : List ℕ → Option ℕ → Type 0
IsFirstIfAny [] n = n ≡ None
IsFirstIfAny (m ∷ more) n = n ≡ Some m

-- an instruction with the labels that lines of their own set before it
abbrev pub labelled_by : List (List ℕ) → PlainLineText → PlainLineText
labelled_by set l = record { line = l.line; labels = set ++ l.labels; word = l.word; operands = l.operands }

-- The instructions of these lines, and the labels behind the last one, where these labels have been set before. Each
-- instruction has the labels that were set since the one before it.
abbrev pub AreCoded : List (List ℕ) → List Form → List PlainLineText → List (List ℕ) → Type 0
AreCoded set [] code ends = (code ≡ []) × (ends ≡ set)
AreCoded set (form.Label label ∷ forms) code ends = AreCoded (set ++ label ∷ []) forms code ends
AreCoded set (form.Code l ∷ forms) code ends = (rest : List PlainLineText) × (code ≡ labelled_by set l ∷ rest) × AreCoded [] forms rest ends
AreCoded set (f ∷ forms) code ends = AreCoded set forms code ends

-- A line that begins this method, before these lines of it, makes this one.
pub record IsMethodOf (begun : PlainMethodText) (lines : List Form) (x : PlainMethodText) : Type 0 where
  pub line : x.line ≡ begun.line
  pub flags : x.flags ≡ begun.flags
  pub name : x.name ≡ begun.name
  pub desc : x.desc ≡ begun.desc
  pub stack : IsFirstIfAny (flat_map stack_limits lines) x.stack
  pub locals : IsFirstIfAny (flat_map locals_limits lines) x.locals
  pub code : AreCoded [] lines x.lines x.end_labels
  pub catches : x.catches ≡ flat_map catches_said lines

-- ---- a class

-- the line and the name of a class's super
abbrev pub IsSuper : List NameAt → ℕ → List ℕ → Type 0
IsSuper [] line name = (line ≡ 0) × (name ≡ [])
IsSuper (n ∷ more) line name = (line ≡ n.line) × (name ≡ n.name)

-- The methods that begin before the next class. The lines of a method go up to the next method or class.
abbrev pub AreMethodsOf : List Form → List PlainMethodText → Type 0
AreMethodsOf [] methods = methods ≡ []
AreMethodsOf (form.Class c ∷ forms) methods = methods ≡ []
AreMethodsOf (form.Method m ∷ forms) methods =
    (x : PlainMethodText) × (rest : List PlainMethodText) × (methods ≡ x ∷ rest) × IsMethodOf m (up_to begins_anew forms) x × AreMethodsOf forms rest
AreMethodsOf (f ∷ forms) methods = AreMethodsOf forms methods

-- A line that begins this class, before these lines, makes this one. Its lines go up to the next class.
pub record IsClassOf (begun : PlainClassText) (behind : List Form) (x : PlainClassText) : Type 0 where
  pub line : x.line ≡ begun.line
  pub flags : x.flags ≡ begun.flags
  pub name : x.name ≡ begun.name
  pub extends : IsSuper (flat_map supers_said (up_to is_class behind)) x.super_line x.super_name
  pub implements : x.implements ≡ flat_map interfaces_said (up_to is_class behind)
  pub fields : x.fields ≡ flat_map fields_said (up_to is_class behind)
  pub methods : AreMethodsOf behind x.methods

-- ---- a text

-- These lines make these classes. `.interface` is a class without a name, in its place, and ends none.
abbrev pub AreClassesOf : List Form → List PlainClassText → Type 0
AreClassesOf [] classes = classes ≡ []
AreClassesOf (form.Interface line ∷ forms) classes = (rest : List PlainClassText) × (classes ≡ bare_class line [] [] ∷ rest) × AreClassesOf forms rest
AreClassesOf (form.Class c ∷ forms) classes =
    (x : PlainClassText) × (rest : List PlainClassText) × (classes ≡ x ∷ rest) × IsClassOf c forms x × AreClassesOf forms rest
AreClassesOf (f ∷ forms) classes = AreClassesOf forms classes
