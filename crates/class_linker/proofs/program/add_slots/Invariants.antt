use Rattle.std.proofs.Common.{◌≡◌, ◌++◌, length}
use Rattle.class_linker.specs.Programs.{slots_of}
use Rattle.class_linker.proofs.program.add_slots.Given as goal

abbrev pub invariant-loop-rest : goal.invariant-loop-rest
invariant-loop-rest l = l.slots.items ++ slots_of l.names l.number l.rest ≡ l.fn.slots.items ++ slots_of l.names 32 l.classes

abbrev pub decreases-loop-rest : goal.decreases-loop-rest
decreases-loop-rest l = length l.rest
