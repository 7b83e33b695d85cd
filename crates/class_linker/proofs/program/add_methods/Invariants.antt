use Rattle.std.proofs.Common.{◌≡◌, ◌++◌, length}
use Rattle.class_linker.specs.Programs.{methods_of}
use Rattle.class_linker.proofs.program.add_methods.Given as goal

abbrev pub invariant-loop-rest : goal.invariant-loop-rest
invariant-loop-rest l = l.found.items ++ methods_of l.names l.thread_run l.texts l.number l.rest ≡ l.fn.found.items ++ methods_of l.names l.thread_run l.texts 32 l.classes

abbrev pub decreases-loop-rest : goal.decreases-loop-rest
decreases-loop-rest l = length l.rest
