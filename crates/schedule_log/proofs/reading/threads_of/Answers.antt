use Rattle.std.proofs.Common.{◌≡◌, ◌+◌, ◌-◌, [], Ok, cond, eqb}
use Rattle.std.proofs.lemmas.Result.{err_from_is_err_and}
use Rattle.vm_model.specs.Failures.{Fails}
use Rattle.schedule_log.specs.Reading.{thread_at, threads_at}
use Rattle.schedule_log.proofs.Cursor.{thread_apart}
use Rattle.schedule_log.proofs.Loops.{threads_go_on, threads_end, threads_done, least_last, least_other}
use Rattle.schedule_log.proofs.reading.threads_of.Goals as goal
use Rattle.schedule_log.proofs.reading.threads_of.Goals.{then-thread-count, else-thread-count}

pub returns-in_err-all : goal.returns-in_err-all
returns-in_err-all c =
    let p = err_from_is_err_and c.from_residual.result c.from_residual.ensures.1 in
    let least : c.if-thread-count.least ≡ cond (eqb (c.args.count - (c.loop-thread.thread + 1)) 0) 1 0 =
    elim c.if-thread-count.branch [
      | then-thread-count w ↦ least_last c.args.count c.loop-thread.thread c.if-thread-count.least w.if-thread-count.true w.least-is
      | else-thread-count w ↦ least_other c.args.count c.loop-thread.thread c.if-thread-count.least c.loop-thread-test.true w.if-thread-count.false w.least-is
    ] in
    let h : Fails c.in_err-all.field-0.0 (thread_at c.args.budget c.loop-thread.thread c.if-thread-count.least c.loop-thread.placed.items c.loop-thread.rest.now) = rw (← c.deref.ensures.value) c.in_err-all.ensures in
    rw (p.1, p.2) (threads_end c.in_err-all.field-0.0 c.args.count c.loop-thread.thread c.args.budget c.if-thread-count.least c.loop-thread.placed.items c.loop-thread.rest.now (threads_at c.args.count c.args.budget 0 [] c.args.bytes.now) c.loop-thread-test.true least h c.loop-thread.invariant.goes_on)

pub loop-thread-preserved : goal.loop-thread-preserved
loop-thread-preserved c =
    let least : c.if-thread-count.least ≡ cond (eqb (c.args.count - (c.loop-thread.thread + 1)) 0) 1 0 =
    elim c.if-thread-count.branch [
      | then-thread-count w ↦ least_last c.args.count c.loop-thread.thread c.if-thread-count.least w.if-thread-count.true w.least-is
      | else-thread-count w ↦ least_other c.args.count c.loop-thread.thread c.if-thread-count.least c.loop-thread-test.true w.if-thread-count.false w.least-is
    ] in
    let h : thread_at c.args.budget c.loop-thread.thread c.if-thread-count.least c.loop-thread.placed.items c.loop-thread.rest.now ≡ Ok (c.in_ok-all.all.items, c.in_ok-all.after.now) = rw (← c.deref.ensures.value) c.in_ok-all.ensures in
    record {
      apart = thread_apart c.args.budget c.loop-thread.thread c.if-thread-count.least c.loop-thread.placed.items c.loop-thread.rest.now (c.in_ok-all.all.items, c.in_ok-all.after.now) c.loop-thread.invariant.apart h;
      goes_on = threads_go_on c.args.count c.loop-thread.thread c.args.budget c.if-thread-count.least c.loop-thread.placed.items c.loop-thread.rest.now c.in_ok-all.all.items c.in_ok-all.after.now (threads_at c.args.count c.args.budget 0 [] c.args.bytes.now) c.loop-thread-test.true least h c.loop-thread.invariant.goes_on;
    }

pub returns : goal.returns
returns c = threads_done c.args.count c.loop-thread.thread c.args.budget c.loop-thread.placed.items c.loop-thread.rest.now (threads_at c.args.count c.args.budget 0 [] c.args.bytes.now) c.loop-thread-test.false c.loop-thread.invariant.goes_on
