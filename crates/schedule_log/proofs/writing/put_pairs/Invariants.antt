use Rattle.std.proofs.Common.{◌≡◌, ◌≤◌, ◌++◌, take}
use Rattle.schedule_log.specs.Ordered.{reach}
use Rattle.schedule_log.specs.Spelling.{part, pairs}
use Rattle.schedule_log.proofs.writing.put_pairs.Given as goal

abbrev pub invariant-loop-i : goal.invariant-loop-i
invariant-loop-i l = record {
  written : l.out.items ≡ l.fn.out.items ++ pairs 0 (part l.thread (take l.i-index l.intervals));
  next_is : l.next ≡ reach 0 (part l.thread (take l.i-index l.intervals));
  in_order : l.next ≤ reach 0 (take l.i-index l.intervals);
}
