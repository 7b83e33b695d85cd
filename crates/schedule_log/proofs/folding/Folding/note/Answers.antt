use Rattle.std.proofs.Common.{◌≡◌, refl, ◌+◌, ◌-◌, ◌≤◌, ◌<◌, sym, ap, subst, ◌∙◌, arith}
use Rattle.schedule_log.specs.Foldings.{PlainFolding}
use Rattle.schedule_log.specs.declared.interval.Interval.{Interval}
use Rattle.schedule_log.specs.Ordered.{next_of}
use Rattle.std.specs.Prelude.{All}
use Rattle.schedule_log.specs.Intervals.{clocks}
use Rattle.schedule_log.proofs.Runs.{next_noted, reach_last, room_from, maximal_longer, clocks_longer, room_at_end, room_at_start, same_at, Maximal-push}
use Rattle.schedule_log.proofs.folding.Folding.note.Goals as goal
use Rattle.schedule_log.proofs.folding.Folding.note.Goals.{else-count-gt0-via-then-count-gt0+else-index-clock, else-count-gt0-via-else-count-gt0}

pub overflow_add-index : goal.overflow_add-index
overflow_add-index c =
    let rising : next_of c.self.inside.intervals.items ≤ c.args.clock = next_noted c.self.inside.thread c.args.clock c.self.inside.intervals.items c.self.invariant (subst (λ (f : PlainFolding). All (λ noted. noted < c.args.clock) (clocks f.intervals)) (sym c.self.view_is) c.requires.rising) in
    let last = reach_last 0 c.self.inside.intervals.items (c.len-count.result - 1) c.index.result.now (omega (arith, c.self.inside.intervals.ok.0)) in
    let same = ap (λ (i : Interval). i.last) c.index.ensures in
    omega (arith, last, same, rising, c.ranges.clock.fits)

next_is : (c : goal.After-self-1) → c.index_mut.result.now.last + 1 ≡ c.args.clock
next_is c = ap (λ (i : Interval). i.last + 1) (same_at c.self.inside.intervals.items (c.len-count.result - 1) c.index_mut.result.now c.index.result.now (omega (arith, c.self.inside.intervals.ok.0)) c.index_mut.ensures.value c.index.ensures) ∙ c.if-index-clock.true

pub invariant_of-self : goal.invariant_of-self
invariant_of-self c = maximal_longer c.self.inside.thread (c.len-count.result - 1) c.args.clock c.self.inside.intervals.items c.index_mut.result.now (omega (arith, c.self.inside.intervals.ok.0)) c.index_mut.ensures.value c.self.invariant (next_is c)

pub returns-then-index-clock-clause-clocks : goal.returns-then-index-clock-clause-clocks
returns-then-index-clock-clause-clocks c =
    rw (← c.self.view_is) (clocks_longer c.self.inside.thread (c.len-count.result - 1) c.args.clock c.self.inside.intervals.items c.index_mut.result.now (omega (arith, c.self.inside.intervals.ok.0)) c.index_mut.ensures.value c.self.invariant (next_is c))

pub invariant_of-self-2 : goal.invariant_of-self-2
invariant_of-self-2 c =
    let rising : next_of c.self.inside.intervals.items ≤ c.args.clock = next_noted c.self.inside.thread c.args.clock c.self.inside.intervals.items c.self.invariant (subst (λ (f : PlainFolding). All (λ noted. noted < c.args.clock) (clocks f.intervals)) (sym c.self.view_is) c.requires.rising) in
    let room : room_from 0 c.self.inside.intervals.items ≤ c.args.clock =
    elim c.else-count-gt0.branch [
      | else-count-gt0-via-then-count-gt0+else-index-clock w ↦ room_at_end (c.len-count.result - 1) c.args.clock c.self.inside.intervals.items w.index.result.now (omega (arith, c.self.inside.intervals.ok.0)) w.index.ensures rising w.if-index-clock.false
      | else-count-gt0-via-else-count-gt0 w ↦ room_at_start c.args.clock c.self.inside.intervals.items (omega (arith, c.self.inside.intervals.ok.0, w.if-count-gt0.false))
    ] in
    rw c.push_reserved.ensures.items (Maximal-push c.self.inside.thread 0 c.self.inside.intervals.items _ c.self.invariant refl room (omega arith))

pub returns-then-index-clock-clause-maximal : goal.returns-then-index-clock-clause-maximal
returns-then-index-clock-clause-maximal c = maximal_longer c.self.inside.thread (c.len-count.result - 1) c.args.clock c.self.inside.intervals.items c.index_mut.result.now (omega (arith, c.self.inside.intervals.ok.0)) c.index_mut.ensures.value c.self.invariant (next_is c)

pub returns-clause-maximal : goal.returns-clause-maximal
returns-clause-maximal c =
    let rising : next_of c.self.inside.intervals.items ≤ c.args.clock = next_noted c.self.inside.thread c.args.clock c.self.inside.intervals.items c.self.invariant (subst (λ (f : PlainFolding). All (λ noted. noted < c.args.clock) (clocks f.intervals)) (sym c.self.view_is) c.requires.rising) in
    let room : room_from 0 c.self.inside.intervals.items ≤ c.args.clock =
    elim c.else-count-gt0.branch [
      | else-count-gt0-via-then-count-gt0+else-index-clock w ↦ room_at_end (c.len-count.result - 1) c.args.clock c.self.inside.intervals.items w.index.result.now (omega (arith, c.self.inside.intervals.ok.0)) w.index.ensures rising w.if-index-clock.false
      | else-count-gt0-via-else-count-gt0 w ↦ room_at_start c.args.clock c.self.inside.intervals.items (omega (arith, c.self.inside.intervals.ok.0, w.if-count-gt0.false))
    ] in
    rw c.push_reserved.ensures.items (Maximal-push c.self.inside.thread 0 c.self.inside.intervals.items _ c.self.invariant refl room (omega arith))
