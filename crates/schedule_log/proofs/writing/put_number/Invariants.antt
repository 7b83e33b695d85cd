use Rattle.std.proofs.Common.{◌≡◌, ◌++◌}
use Rattle.schedule_log.specs.Spelling.{leb128}
use Rattle.schedule_log.proofs.writing.put_number.Given as goal

abbrev pub invariant-loop-rest : goal.invariant-loop-rest
invariant-loop-rest l = l.out.items ++ leb128 l.rest ≡ l.fn.out.items ++ leb128 l.n

abbrev pub decreases-loop-rest : goal.decreases-loop-rest
decreases-loop-rest l = l.rest
