use Rattle.std.proofs.Common.{ℕ, ◌<◌, List, [], ◌∷◌, ◌++◌, ap, sym, ◌∙◌, subst}
use Rattle.std.specs.Prelude.{All}
use Rattle.schedule_log.specs.declared.interval.Interval.{Interval}
use Rattle.schedule_log.specs.Intervals.{clocks}
use Rattle.gate_core.specs.Gates.{Adds}
use Rattle.lane_core.proofs.Following.{noted_below, only_added, part_added, replied_ready}
use Rattle.lane_core.proofs.part.offer_part.Goals as goal

pub note-requires-clause-rising : goal.note-requires-clause-rising
note-requires-clause-rising g c =
    let old = g.G.Gate.told c.args.seat.now in
    let new = g.G.Gate.told c.offer.new.seat in
    let adds : Adds c.args.lane c.in-Committed.clock c.args.thread c.in-Some.op c.in-Committed.reply old new = subst (λ (n : ℕ). Adds n c.in-Committed.clock c.args.thread c.in-Some.op c.in-Committed.reply old new) c.requires.thread c.in-Committed.ensures.entries in
    let below = noted_below c.args.thread c.in-Committed.clock (old.own c.args.lane) adds.rising in
    subst (λ (is : List Interval). All (λ noted. noted < c.in-Committed.clock) (clocks is)) (sym c.in-Ok.ensures.intervals)
    (subst (λ (ns : List ℕ). All (λ noted. noted < c.in-Committed.clock) ns) (sym c.requires.part.noted) below)

pub returns-in-Ok-advance-clause-only : goal.returns-in-Ok-advance-clause-only
returns-in-Ok-advance-clause-only g c =
    let old = g.G.Gate.told c.args.seat.now in
    let new = g.G.Gate.told c.offer.new.seat in
    let adds : Adds c.args.lane c.in-Committed.clock c.args.thread c.in-Some.op c.in-Committed.reply old new = subst (λ (n : ℕ). Adds n c.in-Committed.clock c.args.thread c.in-Some.op c.in-Committed.reply old new) c.requires.thread c.in-Committed.ensures.entries in
    only_added c.args.thread c.args.lane c.in-Committed.clock c.in-Some.op c.in-Committed.reply old new c.in-Committed.ensures.lanes c.in-Committed.ensures.sees c.in-Committed.ensures.tries adds

pub returns-in-Err-clause-only : goal.returns-in-Err-clause-only
returns-in-Err-clause-only g c =
    let old = g.G.Gate.told c.args.seat.now in
    let new = g.G.Gate.told c.offer.new.seat in
    let adds : Adds c.args.lane c.in-Committed.clock c.args.thread c.in-Some.op c.in-Committed.reply old new = subst (λ (n : ℕ). Adds n c.in-Committed.clock c.args.thread c.in-Some.op c.in-Committed.reply old new) c.requires.thread c.in-Committed.ensures.entries in
    only_added c.args.thread c.args.lane c.in-Committed.clock c.in-Some.op c.in-Committed.reply old new c.in-Committed.ensures.lanes c.in-Committed.ensures.sees c.in-Committed.ensures.tries adds

pub returns-in-Ok-advance-clause-part : goal.returns-in-Ok-advance-clause-part
returns-in-Ok-advance-clause-part g c =
    let old = g.G.Gate.told c.args.seat.now in
    let new = g.G.Gate.told c.offer.new.seat in
    let p = c.args.plain.now in
    let adds : Adds c.args.lane c.in-Committed.clock c.args.thread c.in-Some.op c.in-Committed.reply old new = subst (λ (n : ℕ). Adds n c.in-Committed.clock c.args.thread c.in-Some.op c.in-Committed.reply old new) c.requires.thread c.in-Committed.ensures.entries in
    let asks = sym c.operation.ensures ∙ c.in-Some.is in
    let ready = replied_ready p c.args.part.now.local c.in-Some.op c.in-Committed.reply c.absorb.new.self c.advance.new.self asks c.absorb.ensures c.in-Ok-advance.ensures.ok in
    part_added p old new c.args.lane c.args.thread c.in-Committed.clock c.in-Some.op c.in-Committed.reply c.args.part.now (record { local = c.advance.new.self; folding = c.note.new.self }) c.in-Committed.ensures.sees adds c.requires.part asks
    ready.0 ready.1 (c.note.ensures.thread ∙ c.in-Ok.ensures.thread) c.note.ensures.maximal
    (c.note.ensures.clocks ∙ ap (λ (is : List Interval). clocks is ++ c.in-Committed.clock ∷ []) c.in-Ok.ensures.intervals)
