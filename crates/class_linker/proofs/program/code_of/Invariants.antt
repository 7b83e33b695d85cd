use Rattle.std.proofs.Common.{◌≡◌, ◌++◌, length}
use Rattle.class_linker.specs.Programs.{code_of}
use Rattle.class_linker.proofs.program.code_of.Given as goal

abbrev pub invariant-loop-rest : goal.invariant-loop-rest
invariant-loop-rest l = l.code.items ++ code_of l.names l.thread_run l.texts l.labels l.rest ≡ code_of l.names l.thread_run l.texts l.labels l.lines

abbrev pub decreases-loop-rest : goal.decreases-loop-rest
decreases-loop-rest l = length l.rest
