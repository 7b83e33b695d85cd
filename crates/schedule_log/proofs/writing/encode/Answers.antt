use Rattle.std.proofs.Common.{◌++◌, ◌≤◌, arith}
use Rattle.schedule_log.specs.Ordered.{next_of}
use Rattle.schedule_log.specs.Spelling.{leb128, head}
use Rattle.schedule_log.proofs.Orders.{thread_written}
use Rattle.schedule_log.proofs.Lawful.{chain_of}
use Rattle.schedule_log.proofs.writing.encode.Goals as goal

pub put_pairs-requires-clause-contiguous : goal.put_pairs-requires-clause-contiguous
put_pairs-requires-clause-contiguous c = rw c.intervals-intervals.ensures.items (chain_of c.args.log.now c.intervals-intervals.ensures.lawful).contiguous

pub put_pairs-requires-clause-within : goal.put_pairs-requires-clause-within
put_pairs-requires-clause-within c =
    let chain = chain_of c.args.log.now c.intervals-intervals.ensures.lawful in
    let low : next_of c.args.log.now.intervals ≤ 1048576 = omega (arith, chain.within_budget, chain.budget_high) in
    rw c.intervals-intervals.ensures.items low

pub loop-thread-preserved : goal.loop-thread-preserved
loop-thread-preserved c = thread_written ((head ++ leb128 c.args.log.now.budget) ++ leb128 c.threads_of-count.result) c.loop-thread.out.items c.put_number-in-loop-thread.new.out.items c.put_pairs.new.out.items c.loop-thread.thread c.count_of.result c.intervals-intervals.result.now c.loop-thread.invariant c.count_of.ensures c.in_ok-put_number-3.ensures c.in_ok-put_pairs.ensures
