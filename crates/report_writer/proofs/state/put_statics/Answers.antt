use Rattle.report_writer.proofs.Lines.{lines_so_far}
use Rattle.report_writer.specs.State.{static_line}
use Rattle.report_writer.proofs.state.put_statics.Goals as goal

pub loop-slot-preserved : goal.loop-slot-preserved
loop-slot-preserved c = lines_so_far (static_line c.args.program.now c.args.world.now.shared) c.loop-slot.slot c.args.out.now.items c.loop-slot.out.items c.put_static.new.out.items c.loop-slot.invariant c.in_ok-put_static.ensures
