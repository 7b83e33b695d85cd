use Rattle.std.proofs.Common.{◌≡◌}
use Rattle.replay_gate.specs.Gates.{IsSeatOf}
use Rattle.replay_gate.proofs.tests.offer_long.Given as goal

abbrev pub invariant-loop : goal.invariant-loop
invariant-loop l = record { seat : IsSeatOf l.gate l.seat; lanes : l.seat.view.lanes ≡ l.fn.seat.view.lanes }
