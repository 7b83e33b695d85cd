use Rattle.std.proofs.Common.{sym, arith}
use Rattle.schedule_log.proofs.Cursor.{taken_is, free_here}
use Rattle.schedule_log.proofs.placing.is_taken.Goals as goal

pub returns : goal.returns
returns c = taken_is c.args.at c.args.first c.args.last c.args.placed.now (record { thread = 0; first = 0; last = 0 }) c.requires.apart (omega arith) c.requires.before (c.requires.there _ (omega arith))

pub returns-then-at-placed : goal.returns-then-at-placed
returns-then-at-placed c = sym (free_here c.args.at 0 c.args.first c.args.last c.args.placed.now (record { thread = 0; first = 0; last = 0 }) c.requires.apart c.requires.before (λ lt. absurd (omega (arith, lt, c.if-at-placed.true))))
