use Rattle.std.proofs.Common.{◌≡◌, ◌++◌}
use Rattle.report_writer.specs.State.{object_lock_lines}
use Rattle.report_writer.proofs.state.put_object_locks.Given as goal

-- the lines so far come after what was there
abbrev pub invariant-loop-id : goal.invariant-loop-id
invariant-loop-id l = l.out.items ≡ l.initial.out.items ++ object_lock_lines l.program l.world.shared l.id
