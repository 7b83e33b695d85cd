use Rattle.std.proofs.Common.{◌+◌}
use Rattle.report_writer.proofs.Lines.{lines_so_far}
use Rattle.drill_program.specs.Texts.{started_text}
use Rattle.drill_program.proofs.text.put_all_started.Goals as goal

pub loop-i-preserved : goal.loop-i-preserved
loop-i-preserved c = lines_so_far (λ i. started_text (1 + i)) c.loop-i.i c.args.out.now.items c.loop-i.out.items c.put_started.new.out.items c.loop-i.invariant c.in_ok-put_started.ensures
