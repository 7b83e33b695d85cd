use Rattle.std.proofs.Common.{◌≡◌, length, vec_len}
use Rattle.shape_lattice.proofs.Meeting.{merged_in_place, merged_in_order}
use Rattle.shape_lattice.proofs.merging.merge.Goals as goal

pub returns-then-not-merge_kinds : goal.returns-then-not-merge_kinds
returns-then-not-merge_kinds c =
    let long : length c.deref.result.now ≡ length c.deref_mut.result.now = cc (c.deref.ensures.len, c.deref_mut.ensures.len, c.len.ensures, c.len-2.ensures, c.if-len.false) in
    merged_in_order c.args.program.now c.args.new.now c.args.old.now c.new.inside.stack.items c.old.inside.stack.items _ _ c.new.inside.locals.items c.old.inside.locals.items _ c.new.view_is c.old.view_is
    c.deref.ensures.value c.deref_mut.ensures.value long c.if-not-merge_kinds.ensures

pub returns : goal.returns
returns c =
    let long : length c.deref.result.now ≡ length c.deref_mut.result.now = cc (c.deref.ensures.len, c.deref_mut.ensures.len, c.len.ensures, c.len-2.ensures, c.if-len.false) in
    let deep : length c.merge_kinds.new.old ≡ vec_len c.old.inside.stack = cc (c.merge_kinds.auto.old, c.deref_mut.ensures.len) in
    let wide : length c.merge_locals.new.old ≡ vec_len c.old.inside.locals = cc (c.merge_locals.auto.old, c.deref_mut-2.ensures.len) in
    merged_in_place c.args.program.now c.args.new.now c.args.old.now c.new.inside.stack.items c.old.inside.stack.items _ _ _ c.new.inside.locals.items c.old.inside.locals.items _ _ _ c.new.view_is c.old.view_is
    c.deref.ensures.value c.deref_mut.ensures.value c.deref-2.ensures.value c.deref_mut-2.ensures.value long c.if-not-merge_kinds.ensures c.merge_locals.ensures
    (vec_len c.old.inside.stack) (vec_len c.old.inside.locals) c.old.inside.stack.items c.old.inside.locals.items deep wide
