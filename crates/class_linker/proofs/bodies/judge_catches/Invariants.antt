use Rattle.std.proofs.Common.{◌≡◌, length}
use Rattle.class_linker.specs.Bodies.{catches_judged}
use Rattle.class_linker.proofs.bodies.judge_catches.Given as goal

abbrev pub invariant-loop-rest : goal.invariant-loop-rest
invariant-loop-rest l = catches_judged l.rest l.found ≡ catches_judged l.catches l.initial.found

abbrev pub decreases-loop-rest : goal.decreases-loop-rest
decreases-loop-rest l = length l.rest
