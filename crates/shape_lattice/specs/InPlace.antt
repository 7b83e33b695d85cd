-- How the code's answers stand for those of merging.
use Rattle.std.specs.Prelude.{◌≡◌, Bool, true, false, List, Option, Some, None, Result, Ok, Err}
use Rattle.vm_model.specs.declared.value.Kind.{Kind}
use Rattle.machine_model.specs.Shapes.{Shape}
use Rattle.shape_lattice.specs.declared.fault.ShapeKind.{ShapeKind}

-- the kinds that were merged in place, where they could be
abbrev pub MergedKindsSo : Bool → List Kind → Option (List Kind) → Type 0
MergedKindsSo true kinds merged = merged ≡ Some kinds
MergedKindsSo false kinds merged = merged ≡ None

-- the shape that was merged in place, where it could be
abbrev pub MergedSo : Result (Unit {0}) ShapeKind → Shape → Result Shape ShapeKind → Type 0
MergedSo (Ok _) s merged = merged ≡ Ok s
MergedSo (Err kind) s merged = merged ≡ Err kind
