use Rattle.std.proofs.Common.{◌≡◌, ◌++◌, take}
use Rattle.std.specs.List.{flat_map}
use Rattle.report_writer.specs.Texts.{time_word}
use Rattle.report_writer.proofs.isolation.put_times.Given as goal

-- the times so far stand after what was there
abbrev pub invariant-loop-time : goal.invariant-loop-time
invariant-loop-time l = l.out.items ≡ l.initial.out.items ++ flat_map time_word (take l.time-index l.times)
