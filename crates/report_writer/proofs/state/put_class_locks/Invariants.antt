use Rattle.std.proofs.Common.{◌≡◌, ◌++◌}
use Rattle.report_writer.specs.State.{class_lock_lines}
use Rattle.report_writer.proofs.state.put_class_locks.Given as goal

-- the lines so far come after what was there
abbrev pub invariant-loop-i : goal.invariant-loop-i
invariant-loop-i l = l.out.items ≡ l.initial.out.items ++ class_lock_lines l.program l.world.shared l.i
