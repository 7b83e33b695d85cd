use Rattle.std.proofs.Common.{◌≡◌, ◌++◌}
use Rattle.std.specs.List.{flat_map, range_with_len}
use Rattle.report_writer.specs.Texts.{place_line}
use Rattle.report_writer.proofs.isolation.put_places.Given as goal

-- the lines so far stand after what was there
abbrev pub invariant-loop-place : goal.invariant-loop-place
invariant-loop-place l = l.out.items ≡ l.initial.out.items ++ flat_map (place_line l.passing l.failing) (range_with_len 0 l.place)
