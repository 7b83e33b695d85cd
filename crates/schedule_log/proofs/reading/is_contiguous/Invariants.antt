use Rattle.std.proofs.Common.{◌≡◌, drop}
use Rattle.schedule_log.specs.Ordered.{is_contiguous_from}
use Rattle.schedule_log.proofs.reading.is_contiguous.Given as goal

abbrev pub invariant-loop-i : goal.invariant-loop-i
invariant-loop-i l = is_contiguous_from l.next (drop l.i-index l.placed) ≡ is_contiguous_from 0 l.placed
