use Rattle.std.proofs.Common.{◌≤◌, List, Option, Some, length, arith, ap, sym, ◌∙◌}
use Rattle.std.specs.Prelude.{slice_set}
use Rattle.lane_driver.specs.Tables.{Kept}
use Rattle.lane_driver.proofs.Placing.{place_more, set_past}
use Rattle.lane_driver.proofs.table.place_parts.Goals as goal

pub loop-part-preserved-then-thread-len : goal.loop-part-preserved-then-thread-len
loop-part-preserved-then-thread-len c =
    let x = c.in-Some.part in
    let past : length c.loop-part.table.items ≤ x.0 = omega (arith, c.if-thread-len.true, c.len.ensures) in
    sym (set_past c.loop-part.table.items x.0 (Some (x.1, x.2)) past) ∙ ap (λ (xs : List (Option Kept)). slice_set xs x.0 (Some (x.1, x.2))) c.loop-part.invariant ∙ sym (place_more c.loop-part.yielded x c.args.table.now.items)

pub loop-part-preserved-else-thread-len : goal.loop-part-preserved-else-thread-len
loop-part-preserved-else-thread-len c =
    let x = c.in-Some.part in
    ap (λ (xs : List (Option Kept)). slice_set xs x.0 (Some (x.1, x.2))) c.loop-part.invariant ∙ sym (place_more c.loop-part.yielded x c.args.table.now.items)

pub loop-part-preserved : goal.loop-part-preserved
loop-part-preserved c =
    let x = c.in-Some.part in
    ap (λ (xs : List (Option Kept)). slice_set xs x.0 (Some (x.1, x.2))) c.loop-part.invariant ∙ sym (place_more c.loop-part.yielded x c.args.table.now.items)
