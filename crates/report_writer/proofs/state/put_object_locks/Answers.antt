use Rattle.report_writer.proofs.Lines.{lines_so_far}
use Rattle.vm_model.specs.declared.value.Lock.TheVariants as lock
use Rattle.report_writer.specs.State.{lock_line}
use Rattle.report_writer.proofs.state.put_object_locks.Goals as goal

pub loop-id-preserved : goal.loop-id-preserved
loop-id-preserved c = lines_so_far (λ id. lock_line c.args.program.now c.args.world.now.shared (lock.Object id)) c.loop-id.id c.args.out.now.items c.loop-id.out.items c.put_lock.new.out.items c.loop-id.invariant c.in_ok-put_lock.ensures
