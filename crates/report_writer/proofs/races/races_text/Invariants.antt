use Rattle.std.proofs.Common.{◌≡◌, ◌++◌, take}
use Rattle.std.specs.List.{flat_map}
use Rattle.report_writer.specs.Texts.{race_line}
use Rattle.report_writer.proofs.races.races_text.Given as goal

-- the lines so far stand behind what was there
abbrev pub invariant-loop-race : goal.invariant-loop-race
invariant-loop-race l = l.out.items ≡ l.initial.out.items ++ flat_map (race_line l.program) (take l.race-index l.found)
