use Rattle.std.proofs.Common.{◌+◌}
use Rattle.std.specs.Prelude.{codes}
use Rattle.drill_program.specs.Texts.{body_text, drill_text, end_text, head_text, numbered}
use Rattle.drill_program.proofs.Joining.{joined_if_ok}
use Rattle.drill_program.proofs.text.put_whole.Goals as goal

pub returns : goal.returns
unfolding drill_text
returns c =
    joined_if_ok c.put_end.result c.args.out.now.items head_text (numbered (codes ".limit locals") (c.args.workers + 1)) (body_text c.args.workers) end_text
    c.put_head.new.out.items c.put_numbered.new.out.items c.put_body.new.out.items c.put_end.new.out.items
    c.in_ok-put_head.ensures c.in_ok-put_numbered.ensures c.in_ok-put_body.ensures c.put_end.ensures
