use Rattle.std.proofs.Common.{◌≡◌, ◌++◌}
use Rattle.report_writer.specs.State.{thread_lines}
use Rattle.report_writer.proofs.state.put_threads.Given as goal

-- the lines so far come after what was there
abbrev pub invariant-loop-thread : goal.invariant-loop-thread
invariant-loop-thread l = l.out.items ≡ l.initial.out.items ++ thread_lines l.world.shared l.thread
