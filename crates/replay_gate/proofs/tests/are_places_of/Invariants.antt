use Rattle.std.proofs.Common.{◌≤◌, length}
use Rattle.replay_gate.proofs.tests.are_places_of.Given as goal

abbrev pub invariant-loop-at : goal.invariant-loop-at
invariant-loop-at l = l.seen ≤ length l.clocks
