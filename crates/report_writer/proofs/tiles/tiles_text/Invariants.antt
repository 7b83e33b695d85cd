use Rattle.std.proofs.Common.{◌≡◌, ◌++◌, take}
use Rattle.std.specs.List.{flat_map}
use Rattle.report_writer.specs.Tiles.{interval_line}
use Rattle.report_writer.proofs.tiles.tiles_text.Given as goal

-- the lines so far stand behind what was there
abbrev pub invariant-loop-interval : goal.invariant-loop-interval
invariant-loop-interval l = l.out.items ≡ l.initial.out.items ++ flat_map interval_line (take l.interval-index l.log.intervals)
