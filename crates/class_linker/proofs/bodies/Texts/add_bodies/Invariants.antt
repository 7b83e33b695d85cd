use Rattle.std.proofs.Common.{◌≡◌, length}
use Rattle.class_linker.specs.Bodies.{with_bodies}
use Rattle.class_linker.proofs.bodies.Texts.add_bodies.Given as goal

abbrev pub invariant-loop-rest : goal.invariant-loop-rest
invariant-loop-rest l = with_bodies l.rest l.self ≡ with_bodies l.methods l.initial.self

abbrev pub decreases-loop-rest : goal.decreases-loop-rest
decreases-loop-rest l = length l.rest
