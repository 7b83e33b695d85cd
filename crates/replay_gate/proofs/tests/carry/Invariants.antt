use Rattle.std.proofs.Common.{◌≡◌}
use Rattle.replay_gate.specs.Gates.{IsSeatOf}
use Rattle.replay_gate.proofs.tests.carry.Given as goal

abbrev pub invariant-loop-at : goal.invariant-loop-at
invariant-loop-at l = record { seat : IsSeatOf l.gate l.seat; lanes : l.seat.view.lanes ≡ l.fn.seat.view.lanes }
