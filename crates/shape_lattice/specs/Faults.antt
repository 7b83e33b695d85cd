-- The numbers of what can be wrong at an instruction.
use Rattle.std.specs.Prelude.{ℕ}
use Rattle.shape_lattice.specs.declared.fault.ShapeKind.{ShapeKind}
use Rattle.shape_lattice.specs.declared.fault.ShapeKind.TheVariants as fault

abbrev pub kind_number : ShapeKind → ℕ
kind_number fault.Depth = 1
kind_number fault.Kind = 2
kind_number fault.Unset = 3
kind_number fault.FallsOff = 4
kind_number fault.Limit = 5
