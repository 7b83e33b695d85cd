use Rattle.std.proofs.Common.{◌≡◌, ◌++◌}
use Rattle.std.specs.List.{flat_map}
use Rattle.schedule_log.specs.Intervals.{numbers}
use Rattle.schedule_log.specs.Spelling.{leb128, thread_spelling, head}
use Rattle.schedule_log.proofs.writing.encode.Given as goal

abbrev pub invariant-loop-thread : goal.invariant-loop-thread
invariant-loop-thread l = l.out.items ≡ ((head ++ leb128 l.log.budget) ++ leb128 l.count) ++ flat_map (thread_spelling l.intervals) (numbers 0 l.thread)
