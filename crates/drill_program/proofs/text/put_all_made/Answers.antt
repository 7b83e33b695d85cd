use Rattle.std.proofs.Common.{◌+◌}
use Rattle.report_writer.proofs.Lines.{lines_so_far}
use Rattle.drill_program.specs.Texts.{made_text}
use Rattle.drill_program.proofs.text.put_all_made.Goals as goal

pub loop-i-preserved : goal.loop-i-preserved
loop-i-preserved c = lines_so_far (λ i. made_text (1 + i)) c.loop-i.i c.args.out.now.items c.loop-i.out.items c.put_made.new.out.items c.loop-i.invariant c.in_ok-put_made.ensures
