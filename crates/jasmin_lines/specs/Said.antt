-- An instruction without the line that it stands on.
use Rattle.std.specs.Prelude.{ℕ, List}
use Rattle.jasmin_lines.specs.declared.class_text.Operand.{Operand}

-- a mnemonic with its operands
pub record PlainSaid : Type 0 where
  pub word : List ℕ
  pub operands : List Operand
