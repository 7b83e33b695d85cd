use Rattle.std.proofs.Common.{◌≡◌, length}
use Rattle.race_report.proofs.Times.{JoinedBelow}
use Rattle.race_report.proofs.vector_clock.VectorClock.join.Given as goal

abbrev pub invariant-loop-t : goal.invariant-loop-t
invariant-loop-t l = record {
  size : length l.self-inside.times ≡ 64;
  other : length l.other-inside.times ≡ 64;
  joined : JoinedBelow l.t l.self-inside.times l.initial.self-inside.times l.other-inside.times;
}
