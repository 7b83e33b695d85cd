use Rattle.std.proofs.Common.{List, Option, None, replicate, ap, sym, ◌∙◌}
use Rattle.lane_core.specs.Lanes.{LanePart, parts_of}
use Rattle.lane_driver.specs.Tables.{Kept, place}
use Rattle.lane_driver.proofs.Placing.{place_lanes_more, threads_more}
use Rattle.lane_driver.proofs.table.table_of.Goals as goal

pub loop-lane-preserved : goal.loop-lane-preserved
loop-lane-preserved c =
    let kept = c.loop-lane.invariant in
    let l = c.in-Some.lane in
    record {
      table =
          c.place_parts.ensures ∙ ap (λ (ps : List LanePart). place ps c.loop-lane.table.items) c.in_ok-parts.ensures.parts ∙ ap (λ (t : List (Option Kept)). place (parts_of l.slots) t) kept.table
          ∙ sym (place_lanes_more c.loop-lane.yielded l (replicate 64 None));
      threads = threads_more c.loop-lane.yielded l kept.threads c.in_ok-parts.ensures.threads;
    }
