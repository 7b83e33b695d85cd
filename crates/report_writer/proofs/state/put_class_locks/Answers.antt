use Rattle.report_writer.proofs.Lines.{lines_so_far}
use Rattle.std.proofs.Common.{◌+◌}
use Rattle.vm_model.specs.declared.value.Lock.TheVariants as lock
use Rattle.report_writer.specs.State.{lock_line}
use Rattle.report_writer.proofs.state.put_class_locks.Goals as goal

pub loop-i-preserved : goal.loop-i-preserved
loop-i-preserved c = lines_so_far (λ i. lock_line c.args.program.now c.args.world.now.shared (lock.Class (32 + i))) c.loop-i.i c.args.out.now.items c.loop-i.out.items c.put_lock.new.out.items c.loop-i.invariant c.in_ok-put_lock.ensures
