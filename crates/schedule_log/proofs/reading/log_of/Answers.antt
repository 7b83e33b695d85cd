use Rattle.std.proofs.Common.{arith}
use Rattle.schedule_log.proofs.Whole.{placed_below}
use Rattle.schedule_log.proofs.reading.log_of.Goals as goal

pub tail_of-requires-clause-apart : goal.tail_of-requires-clause-apart
tail_of-requires-clause-apart c = rw c.deref.ensures.value (placed_below c.args.bytes.now c.in_ok-rest.rest.now (c.in_ok-budget.budget, c.in_ok-budget.rest.now) (c.in_ok-count.count, c.in_ok-count.rest.now) (c.in_ok-placed.placed.items, c.in_ok-placed.rest.now) (λ i. omega (arith, c.type_inv.bytes i)) c.in_ok-rest.ensures c.in_ok-budget.ensures.read c.in_ok-count.ensures.read c.in_ok-placed.ensures).apart

pub tail_of-requires-clause-low : goal.tail_of-requires-clause-low
tail_of-requires-clause-low c = rw c.deref.ensures.value (placed_below c.args.bytes.now c.in_ok-rest.rest.now (c.in_ok-budget.budget, c.in_ok-budget.rest.now) (c.in_ok-count.count, c.in_ok-count.rest.now) (c.in_ok-placed.placed.items, c.in_ok-placed.rest.now) (λ i. omega (arith, c.type_inv.bytes i)) c.in_ok-rest.ensures c.in_ok-budget.ensures.read c.in_ok-count.ensures.read c.in_ok-placed.ensures).low
