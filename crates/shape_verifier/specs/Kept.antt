-- What the pass keeps: each shape that it has reached is taken by the one at the same place of any closed table.
use Rattle.std.specs.Prelude.{ℕ, ◌+◌, [], ◌∷◌, Option, Some, None}
use Rattle.vm_model.specs.Program.{PlainProgram}
use Rattle.machine_model.specs.Shapes.{Table, TakesAt, shape_at}
use Rattle.shape_verifier.specs.declared.passing.Reached.{Reached}
use Rattle.shape_verifier.specs.Passing.{PassState}

abbrev pub IsBelowAt : PlainProgram → Table → ℕ → ℕ → Option Reached → Type 0
IsBelowAt p table n place None = Unit {0}
IsBelowAt p table n place (Some r) = TakesAt p r.shape (shape_at table n place)

-- the shapes from a place on are taken by those of the table
abbrev pub IsBelowTable : PlainProgram → Table → ℕ → ℕ → PassState → Type 0
IsBelowTable p table n place [] = Unit {0}
IsBelowTable p table n place (r ∷ rest) = IsBelowAt p table n place r × IsBelowTable p table n (place + 1) rest
