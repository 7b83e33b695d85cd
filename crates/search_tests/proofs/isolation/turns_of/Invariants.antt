use Rattle.std.proofs.Common.{◌≤◌, ◌+◌}
use Rattle.search_tests.proofs.isolation.turns_of.Given as goal

abbrev pub invariant-loop-time : goal.invariant-loop-time
invariant-loop-time l = l.rounds.resolved + l.rounds.unresolved ≤ l.time-index
