use Rattle.std.proofs.Common.{◌≡◌, length}
use Rattle.class_linker.specs.Judging.{classes_judged}
use Rattle.class_linker.proofs.declarations.judge_classes.Given as goal

abbrev pub invariant-loop-rest : goal.invariant-loop-rest
invariant-loop-rest l = classes_judged l.names l.rest l.counts l.found ≡ classes_judged l.names l.classes l.initial.counts l.initial.found

abbrev pub decreases-loop-rest : goal.decreases-loop-rest
decreases-loop-rest l = length l.rest
