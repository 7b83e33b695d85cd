use Rattle.std.proofs.Common.{◌≡◌, length}
use Rattle.class_linker.specs.Judging.{methods_judged}
use Rattle.class_linker.proofs.declarations.judge_methods.Given as goal

abbrev pub invariant-loop-rest : goal.invariant-loop-rest
invariant-loop-rest l = methods_judged l.names l.class l.rest l.counts l.found ≡ methods_judged l.names l.class l.methods l.initial.counts l.initial.found

abbrev pub decreases-loop-rest : goal.decreases-loop-rest
decreases-loop-rest l = length l.rest
