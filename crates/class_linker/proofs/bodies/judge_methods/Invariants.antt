use Rattle.std.proofs.Common.{◌≡◌, length}
use Rattle.class_linker.specs.Bodies.{methods_judged}
use Rattle.class_linker.proofs.bodies.judge_methods.Given as goal

abbrev pub invariant-loop-rest : goal.invariant-loop-rest
invariant-loop-rest l = methods_judged l.names l.thread_run l.texts l.rest l.found ≡ methods_judged l.names l.thread_run l.texts l.methods l.initial.found

abbrev pub decreases-loop-rest : goal.decreases-loop-rest
decreases-loop-rest l = length l.rest
