-- Names as the reader lets them through. With a slash in it a method's name could stand for the run of another class.
use Rattle.std.specs.Prelude.{◌≡◌, ℕ, true, ◌||◌, ◌==◌, List, [], ◌∷◌, length, codes, bytes_eq}
use Rattle.std.specs.List.{AllByRecursion, list_any}
use Rattle.jasmin_lines.specs.declared.class_text.Operand.{Operand}
use Rattle.jasmin_lines.specs.declared.class_text.Operand.TheVariants as operand
use Rattle.jasmin_lines.specs.Plain.{PlainClassText, PlainFieldText, PlainLineText, PlainMethodText}
use Rattle.jasmin_lines.specs.Words.{is_class_name, is_method_name, is_name}

-- a method's name has the form of one, and its descriptor begins with a bracket
pub record IsNamedMethod (m : PlainMethodText) : Type 0 where
  pub name : is_method_name m.name ≡ true
  pub rest : List ℕ
  pub desc : m.desc ≡ 40 ∷ rest

-- a class's name has the form of one, unless it stands for an interface
pub record IsNamedClass (c : PlainClassText) : Type 0 where
  pub name : (is_class_name c.name || length c.name == 0) ≡ true
  pub methods : AllByRecursion IsNamedMethod c.methods

-- all classes of a text
abbrev pub AreNamed : List PlainClassText → Type 0
AreNamed classes = AllByRecursion IsNamedClass classes

-- ---- lines with a field

-- the instructions that name a field and its descriptor
abbrev pub accesses : List (List ℕ)
accesses = codes "getstatic" ∷ codes "putstatic" ∷ codes "getfield" ∷ codes "putfield" ∷ []

-- no other instruction has two words
abbrev pub IsWrittenBy : List ℕ → List Operand → Type 0
IsWrittenBy word (operand.Word x ∷ operand.Word desc ∷ []) = list_any (λ other. bytes_eq word other) accesses ≡ true
IsWrittenBy word _ = Unit {0}

abbrev pub IsWrittenLine : PlainLineText → Type 0
IsWrittenLine l = IsWrittenBy l.word l.operands

-- a field's name has the form of one, and each instruction is one of the language
pub record IsWrittenClass (c : PlainClassText) : Type 0 where
  pub fields : AllByRecursion (λ (f : PlainFieldText). is_name f.name ≡ true) c.fields
  pub lines : AllByRecursion (λ (m : PlainMethodText). AllByRecursion IsWrittenLine m.lines) c.methods

abbrev pub AreWritten : List PlainClassText → Type 0
AreWritten classes = AllByRecursion IsWrittenClass classes
