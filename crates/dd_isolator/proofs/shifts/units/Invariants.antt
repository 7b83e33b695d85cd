use Rattle.std.proofs.Common.{◌≡◌, ◌≤◌, ◌+◌, ◌*◌, drop}
use Rattle.dd_isolator.specs.Shifts.{units}
use Rattle.dd_isolator.proofs.shifts.units.Given as goal

abbrev pub invariant-loop-i : goal.invariant-loop-i
invariant-loop-i l = record {
  so_far : l.total + units (drop l.i l.xs) (drop l.i l.ys) ≡ units l.xs l.ys;
  small : l.total ≤ l.i * 4294967296;
}
