use Rattle.std.proofs.Common.{◌≡◌, ◌+◌, ◌<◌, ◌++◌, ◌∷◌, [], Ok, ◌∙◌, take, arith}
use Rattle.std.specs.List.{AllByRecursion}
use Rattle.std.proofs.lemmas.Result.{err_from_is_err_and}
use Rattle.vm_model.specs.Failures.{Fails}
use Rattle.schedule_log.specs.declared.interval.Interval.{Interval}
use Rattle.schedule_log.specs.Logs.{put_all}
use Rattle.schedule_log.specs.Reading.{interval_at, intervals_at}
use Rattle.schedule_log.proofs.Placed.{all_weaken}
use Rattle.schedule_log.proofs.Cursor.{interval_same, put_all_push, all_push, apart_push}
use Rattle.schedule_log.proofs.Loops.{intervals_go_on, intervals_end, intervals_done}
use Rattle.schedule_log.proofs.reading.intervals_of.Goals as goal

pub returns-in_err-i-clause-read : goal.returns-in_err-i-clause-read
returns-in_err-i-clause-read c =
    let p = err_from_is_err_and c.from_residual.result c.from_residual.ensures.1 in
    let same = interval_same c.args.budget c.args.thread c.loop.next c.args.placed.now c.loop.more.items c.loop.rest.now c.loop.invariant.below in
    let h : Fails c.in_err-i.field-0.0 (interval_at c.args.budget c.args.thread c.loop.next (put_all c.args.placed.now c.loop.more.items) c.loop.rest.now) = rw same c.in_err-i.ensures.read in
    rw (p.1, p.2) (intervals_end c.in_err-i.field-0.0 c.args.count c.loop.counter c.args.budget c.args.thread c.loop.next (put_all c.args.placed.now c.loop.more.items) c.loop.rest.now (intervals_at c.args.count c.args.budget c.args.thread 0 c.args.placed.now c.args.bytes.now) c.loop-test.true h c.loop.invariant.goes_on)

pub loop-preserved : goal.loop-preserved
loop-preserved c =
    let i = c.in_ok-i.i in
    let b = c.in_ok-i.ensures.bound in
    let same = interval_same c.args.budget c.args.thread c.loop.next c.args.placed.now c.loop.more.items c.loop.rest.now c.loop.invariant.below in
    let h : interval_at c.args.budget c.args.thread c.loop.next (put_all c.args.placed.now c.loop.more.items) c.loop.rest.now ≡ Ok (i, c.in_ok-i.after.now) = same ∙ c.in_ok-i.ensures.read in
    let items : c.push.new.self.items ≡ c.loop.more.items ++ i ∷ [] = c.in_ok-push.ensures.items in
    let below : AllByRecursion (λ (j : Interval). j.last < i.first) c.loop.more.items = all_weaken (λ (j : Interval). j.last < c.loop.next) (λ (j : Interval). j.last < i.first) c.loop.more.items (λ j k. omega (arith, k, b.0)) c.loop.invariant.below in
    record {
      bound = omega (arith, b.2, c.requires.low);
      below = rw items (all_push (λ (j : Interval). j.last < i.last + 1) c.loop.more.items i (all_weaken (λ (j : Interval). j.last < i.first) (λ (j : Interval). j.last < i.last + 1) c.loop.more.items (λ j k. omega (arith, k, b.1)) below) (omega arith));
      rising = rw items (apart_push 0 c.loop.more.items i c.loop.invariant.rising (omega arith) b.1 below);
      within = c.in_ok-i.ensures.place.0;
      before = all_weaken (λ (j : Interval). j.last < i.first) (λ (j : Interval). j.last < i.last + 1) (take c.in_ok-i.place c.args.placed.now) (λ j k. omega (arith, k, b.1)) c.in_ok-i.ensures.place.1;
      goes_on = rw (items, put_all_push c.args.placed.now c.loop.more.items i) (intervals_go_on c.args.count c.loop.counter c.args.budget c.args.thread c.loop.next (put_all c.args.placed.now c.loop.more.items) c.loop.rest.now i c.in_ok-i.after.now (intervals_at c.args.count c.args.budget c.args.thread 0 c.args.placed.now c.args.bytes.now) c.loop-test.true h c.loop.invariant.goes_on);
    }

pub returns-clause-read : goal.returns-clause-read
returns-clause-read c = intervals_done c.args.count c.loop.counter c.args.budget c.args.thread c.loop.next (put_all c.args.placed.now c.loop.more.items) c.loop.rest.now (intervals_at c.args.count c.args.budget c.args.thread 0 c.args.placed.now c.args.bytes.now) c.loop-test.false c.loop.invariant.goes_on
