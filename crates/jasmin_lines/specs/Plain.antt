-- Classes as text, as plain records of lists. A name is the list of its bytes.
use Rattle.std.specs.Prelude.{ℕ, ℤ, List, Option}
use Rattle.jasmin_lines.specs.declared.class_text.Operand.{Operand}
use Rattle.jasmin_lines.specs.declared.class_text.NameAt.{NameAt}
use Rattle.jasmin_lines.specs.declared.class_text.CatchText.{CatchText}

pub record PlainLineText : Type 0 where
  pub line : ℕ
  pub labels : List (List ℕ)
  pub word : List ℕ
  pub operands : List Operand

pub record PlainFieldText : Type 0 where
  pub line : ℕ
  pub flags : List (List ℕ)
  pub name : List ℕ
  pub desc : List ℕ
  pub value : Option ℤ

pub record PlainMethodText : Type 0 where
  pub line : ℕ
  pub flags : List (List ℕ)
  pub name : List ℕ
  pub desc : List ℕ
  pub stack : Option ℕ
  pub locals : Option ℕ
  pub lines : List PlainLineText
  pub end_labels : List (List ℕ)
  pub catches : List CatchText

pub record PlainClassText : Type 0 where
  pub line : ℕ
  pub flags : List (List ℕ)
  pub name : List ℕ
  pub super_line : ℕ
  pub super_name : List ℕ
  pub implements : List NameAt
  pub fields : List PlainFieldText
  pub methods : List PlainMethodText
