use Rattle.std.proofs.Common.{slice_index_or, ◌≤◌, ◌∙◌, arith}
use Rattle.schedule_log.specs.declared.interval.Interval.{Interval}
use Rattle.schedule_log.specs.Ordered.{next_of}
use Rattle.schedule_log.specs.Ordered.{ContiguousFrom}
use Rattle.schedule_log.proofs.Lawful.{chain_of}
use Rattle.schedule_log.proofs.Orders.{StandsAt, stands_at, reach_more, threads_written}
use Rattle.schedule_log.proofs.log.Log.expand.Goals as goal

abbrev none : Interval
none = record { thread = 0; first = 0; last = 0 }

place : (c : goal.After-len) → StandsAt 0 c.loop-i.i-index c.deref-i-items.result.now (slice_index_or c.deref-i-items.result.now c.loop-i.i-index none)
place c =
    let contiguous : ContiguousFrom 0 c.deref-i-items.result.now = rw c.deref-i-items.ensures.value (chain_of _ c.self.invariant).contiguous in
    stands_at 0 c.loop-i.i-index c.deref-i-items.result.now none contiguous c.loop-i-test.true

within : (c : goal.After-len) → next_of c.deref-i-items.result.now ≤ 1048576
within c = rw c.deref-i-items.ensures.value (omega (arith, (chain_of _ c.self.invariant).within_budget, c.self.invariant.budget_high))

pub overflow_add-count : goal.overflow_add-count
overflow_add-count c = omega (arith, (place c).ends, within c)

pub overflow_sub-count : goal.overflow_sub-count
overflow_sub-count c = omega (arith, (place c).ordered)

pub overflow_add-count-in-loop-i : goal.overflow_add-count-in-loop-i
overflow_add-count-in-loop-i c = omega (arith, (place c).ends, (place c).begins, (place c).ordered, within c, c.loop-i.invariant.so_many, c.loop-i.threads.ok.0, c.len.ensures)

pub loop-i-preserved : goal.loop-i-preserved
loop-i-preserved c =
    let is = c.deref-i-items.result.now in
    let k = c.loop-i.i-index in
    let contiguous : ContiguousFrom 0 is = rw c.deref-i-items.ensures.value (chain_of _ c.self.invariant).contiguous in
    let s = stands_at 0 k is none contiguous c.loop-i-test.true in
    let r = reach_more 0 k is none c.loop-i-test.true in
    record {
      written = c.in_ok-resize.ensures.items ∙ rw (← c.len.ensures) (threads_written k c.len.result c.loop-i.threads.items is none c.loop-i-test.true contiguous (omega (arith, c.len.ensures, c.loop-i.threads.ok.0)) c.loop-i.invariant.so_many c.loop-i.invariant.written);
      so_many = omega (arith, r, s.begins, s.ordered, c.in_ok-resize.ensures.len, c.resize.new.self.ok.0, c.len.ensures, c.loop-i.threads.ok.0, c.loop-i.invariant.so_many);
    }
