use Rattle.std.proofs.Common.{length}
use Rattle.paused_run.proofs.Passed.{Passed}
use Rattle.paused_run.proofs.waiting.passed_before.Given as goal

abbrev pub invariant-loop-rest : goal.invariant-loop-rest
invariant-loop-rest l = Passed l.times l.clock l.passed l.rest

abbrev pub decreases-loop-rest : goal.decreases-loop-rest
decreases-loop-rest l = length l.rest
