use Rattle.std.proofs.Common.{rules, ◌≡◌, ℕ, ◌+◌, ◌-◌, ◌/◌, ◌<◌, List, Some, length, slice_get, slice_index_or, sym, subst, arith}
use Rattle.schedule_log.specs.declared.interval.Interval.{Interval}
use Rattle.schedule_log.specs.Logs.{expansion}
use Rattle.schedule_log.proofs.Lawful.{chain_of}
use Rattle.replay_gate.proofs.Clocks.{Halving, nothing, found_so, goes_up, halving_begins}
use Rattle.replay_gate.proofs.thread_at.thread_at.Goals as goal

pub loop-low-init : goal.loop-low-init
loop-low-init c =
    let log = c.args.log.now in
    let items = c.intervals-intervals.ensures.items in
    (subst (λ (xs : List Interval). Halving log c.args.clock log.intervals 0 (length xs)) (sym items) (halving_begins log c.args.clock (chain_of log c.intervals-intervals.ensures.lawful).contiguous), items)

pub loop-low-preserved-then-intervals-middle : goal.loop-low-preserved-then-intervals-middle
loop-low-preserved-then-intervals-middle c =
    let log = c.args.log.now in
    let items = c.loop-low.invariant.1 in
    let middle : ℕ = c.loop-low.low + (c.loop-low.high - c.loop-low.low) / 2 in
    let some_left : c.loop-low.low < c.loop-low.high = search rules in (
      goes_up log c.args.clock log.intervals c.loop-low.low c.loop-low.high middle c.loop-low.invariant.0 (omega arith) (omega arith)
          (subst (λ (xs : List Interval). (slice_index_or xs middle nothing).last < c.args.clock) items (search rules)),
      items,
    )

pub returns-then-low-intervals-clause-thread : goal.returns-then-low-intervals-clause-thread
returns-then-low-intervals-clause-thread c =
    let log = c.args.log.now in
    let items = c.loop-low.invariant.1 in
    let low : ℕ = c.loop-low.low in
    subst (λ (xs : List Interval). Some (slice_index_or xs low nothing).thread ≡ slice_get (expansion log) c.args.clock) (sym items)
    (found_so log c.args.clock log.intervals low c.loop-low.high c.loop-low.invariant.0 (search rules) (subst (λ (xs : List Interval). low < length xs) items (search rules)))
