use Rattle.std.proofs.Common.{◌≡◌, ◌++◌, length, map}
use Rattle.class_linker.specs.Programs.{linked_class}
use Rattle.class_linker.proofs.program.linked_classes.Given as goal

abbrev pub invariant-loop-rest : goal.invariant-loop-rest
invariant-loop-rest l = l.found.items ++ map (linked_class l.names) l.rest ≡ map (linked_class l.names) l.classes

abbrev pub decreases-loop-rest : goal.decreases-loop-rest
decreases-loop-rest l = length l.rest
