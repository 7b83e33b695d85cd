-- Programs that a machine can run.
use Rattle.std.specs.Prelude.{◌≤◌, length}
use Rattle.vm_model.specs.declared.limits.TheConstants.{MOST_TEXT_BYTES}
use Rattle.vm_model.specs.Program.{PlainProgram, IsSmall}

-- the bounds on a program's numbers that a machine needs
pub record IsWithinBounds (p : PlainProgram) : Type 0 where
  pub small : IsSmall p
  pub few : length p.methods ≤ MOST_TEXT_BYTES
