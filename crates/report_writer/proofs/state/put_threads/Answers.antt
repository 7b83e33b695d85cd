use Rattle.report_writer.proofs.Lines.{lines_so_far}
use Rattle.report_writer.specs.State.{thread_line}
use Rattle.report_writer.proofs.state.put_threads.Goals as goal

pub loop-thread-preserved : goal.loop-thread-preserved
loop-thread-preserved c = lines_so_far (thread_line c.args.world.now.shared) c.loop-thread.thread c.args.out.now.items c.loop-thread.out.items c.put_thread.new.out.items c.loop-thread.invariant c.in_ok-put_thread.ensures
