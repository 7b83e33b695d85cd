use Rattle.std.proofs.Common.{◌∙◌}
use Rattle.shape_lattice.proofs.Meeting.{takes_both, takes_not}
use Rattle.shape_lattice.proofs.merging.takes.Goals as goal

pub returns-then-takes_kinds : goal.returns-then-takes_kinds
returns-then-takes_kinds c =
    takes_both c.args.program.now c.args.new.now c.args.old.now c.new.inside.stack.items c.old.inside.stack.items _ _ c.new.inside.locals.items c.old.inside.locals.items _ _ _ c.new.view_is c.old.view_is
    c.deref.ensures.value c.deref-2.ensures.value c.deref-then-takes_kinds.ensures.value c.deref-then-takes_kinds-2.ensures.value c.if-takes_kinds.ensures c.takes_locals.ensures

pub returns-else-takes_kinds : goal.returns-else-takes_kinds
returns-else-takes_kinds c =
    c.if-takes_kinds.false
    ∙ takes_not c.args.program.now c.args.new.now c.args.old.now c.new.inside.stack.items c.old.inside.stack.items _ _ c.new.inside.locals.items c.old.inside.locals.items c.new.view_is c.old.view_is
    c.deref.ensures.value c.deref-2.ensures.value c.if-takes_kinds.ensures
