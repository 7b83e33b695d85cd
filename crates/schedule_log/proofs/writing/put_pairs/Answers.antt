use Rattle.std.proofs.Common.{◌++◌, List, take, sym, ap, ◌∙◌, arith}
use Rattle.schedule_log.specs.declared.interval.Interval.{Interval}
use Rattle.schedule_log.specs.Ordered.{reach}
use Rattle.schedule_log.specs.Spelling.{part, pairs}
use Rattle.schedule_log.proofs.Runs.{reach-push}
use Rattle.schedule_log.proofs.Orders.{stands_at, part_yes, part_no, reach_more, pairs_written}
use Rattle.schedule_log.proofs.writing.put_pairs.Goals as goal
use Rattle.schedule_log.proofs.writing.put_pairs.Goals.{then-i-thread+in_ok-put_number+in_ok-put_number-2, else-i-thread}

abbrev none : Interval
none = record { thread = 0; first = 0; last = 0 }

pub overflow_sub-i : goal.overflow_sub-i
overflow_sub-i c =
    let s = stands_at 0 c.loop-i.i-index c.args.intervals.now none c.requires.contiguous c.loop-i-test.true in
    omega (arith, s.begins, c.loop-i.invariant.in_order)

pub overflow_sub-i-then-i-thread : goal.overflow_sub-i-then-i-thread
overflow_sub-i-then-i-thread c = (stands_at 0 c.loop-i.i-index c.args.intervals.now none c.requires.contiguous c.loop-i-test.true).ordered

pub overflow_add-next : goal.overflow_add-next
overflow_add-next c =
    let s = stands_at 0 c.loop-i.i-index c.args.intervals.now none c.requires.contiguous c.loop-i-test.true in
    omega (arith, s.ends, c.requires.within)

pub loop-i-preserved : goal.loop-i-preserved
loop-i-preserved c =
    let k = c.loop-i.i-index in
    let is = c.args.intervals.now in
    let t = c.args.thread in
    let s = stands_at 0 k is none c.requires.contiguous c.loop-i-test.true in
    let r = reach_more 0 k is none c.loop-i-test.true in
    elim c.if-i-thread.branch [
      | then-i-thread+in_ok-put_number+in_ok-put_number-2 w ↦
          record {
            written = ap (λ v. v.items) w.out-is ∙ pairs_written c.args.out.now.items c.loop-i.out.items w.put_number.new.out.items w.put_number-then-i-thread.new.out.items t k c.loop-i.next is none c.loop-i-test.true w.if-i-thread.true c.loop-i.invariant.written c.loop-i.invariant.next_is w.in_ok-put_number.ensures w.in_ok-put_number-2.ensures;
            next_is = w.next-is ∙ sym (ap (reach 0) (part_yes t k is none c.loop-i-test.true w.if-i-thread.true) ∙ reach-push 0 (part t (take k is)) _);
            in_order = omega (arith, r, w.next-is);
          }
      | else-i-thread w ↦
          record {
            written = ap (λ v. v.items) w.out-is ∙ c.loop-i.invariant.written ∙ ap (λ (p : List Interval). c.args.out.now.items ++ pairs 0 p) (sym (part_no t k is none c.loop-i-test.true w.if-i-thread.false));
            next_is = w.next-is ∙ c.loop-i.invariant.next_is ∙ ap (reach 0) (sym (part_no t k is none c.loop-i-test.true w.if-i-thread.false));
            in_order = omega (arith, r, w.next-is, c.loop-i.invariant.in_order, s.begins, s.ordered);
          }
    ]
