use Rattle.std.proofs.Common.{◌≡◌, ◌++◌, length}
use Rattle.class_linker.specs.Programs.{fields_of}
use Rattle.class_linker.proofs.program.fields_of.Given as goal

abbrev pub invariant-loop-rest : goal.invariant-loop-rest
invariant-loop-rest l = l.found.items ++ fields_of l.names l.rest ≡ fields_of l.names l.fields

abbrev pub decreases-loop-rest : goal.decreases-loop-rest
decreases-loop-rest l = length l.rest
