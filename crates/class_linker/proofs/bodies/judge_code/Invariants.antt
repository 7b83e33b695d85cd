use Rattle.std.proofs.Common.{◌≡◌, length}
use Rattle.class_linker.specs.Bodies.{code_judged}
use Rattle.class_linker.proofs.bodies.judge_code.Given as goal

abbrev pub invariant-loop-rest : goal.invariant-loop-rest
invariant-loop-rest l = code_judged l.names l.thread_run l.texts l.labels l.rest l.place l.found ≡ code_judged l.names l.thread_run l.texts l.labels l.lines 0 l.initial.found

abbrev pub decreases-loop-rest : goal.decreases-loop-rest
decreases-loop-rest l = length l.rest
