use Rattle.std.proofs.Common.{◌≡◌, ◌++◌, length}
use Rattle.class_linker.specs.Programs.{methods_in}
use Rattle.class_linker.proofs.program.add_methods_in.Given as goal

abbrev pub invariant-loop-rest : goal.invariant-loop-rest
invariant-loop-rest l = l.found.items ++ methods_in l.names l.thread_run l.texts l.class l.rest ≡ l.fn.found.items ++ methods_in l.names l.thread_run l.texts l.class l.methods

abbrev pub decreases-loop-rest : goal.decreases-loop-rest
decreases-loop-rest l = length l.rest
