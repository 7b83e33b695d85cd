use Rattle.std.proofs.Common.{arith}
use Rattle.schedule_log.proofs.Lawful.{chain_of}
use Rattle.schedule_log.proofs.Expanding.{length-threads, thread_at_clock}
use Rattle.schedule_log.proofs.laws.expansion_is_by_clock.Goals as goal

pub returns : goal.returns
returns c = λ l law. (length-threads l.intervals, λ k i has h. thread_at_clock 0 k k l.intervals i (chain_of l law).contiguous (omega arith) has h)
