use Rattle.std.proofs.Common.{◌≡◌, length}
use Rattle.class_linker.specs.Judging.{implements_judged}
use Rattle.class_linker.proofs.declarations.judge_implements.Given as goal

abbrev pub invariant-loop-rest : goal.invariant-loop-rest
invariant-loop-rest l = implements_judged l.has_run l.rest l.found ≡ implements_judged l.has_run l.implements l.initial.found

abbrev pub decreases-loop-rest : goal.decreases-loop-rest
decreases-loop-rest l = length l.rest
