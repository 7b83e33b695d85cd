-- The operands of a frame as callers see them.
use Rattle.std.specs.Prelude.{ℕ, List}
use Rattle.vm_model.specs.declared.value.Value.{Value}

-- the operands, the top first, and how many there is room for
pub record StackView : Type 0 where
  pub values : List Value
  pub room : ℕ
