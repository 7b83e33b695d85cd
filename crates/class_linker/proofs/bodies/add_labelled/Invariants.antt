use Rattle.std.proofs.Common.{◌≡◌, length}
use Rattle.class_linker.specs.Bodies.{labelled}
use Rattle.class_linker.proofs.bodies.add_labelled.Given as goal

abbrev pub invariant-loop-rest : goal.invariant-loop-rest
invariant-loop-rest l = labelled l.rest l.place l.rows ≡ labelled l.lines 0 l.initial.rows

abbrev pub decreases-loop-rest : goal.decreases-loop-rest
decreases-loop-rest l = length l.rest
