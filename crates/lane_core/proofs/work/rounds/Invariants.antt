use Rattle.std.proofs.Common.{◌≡◌, ◌<◌, ◌≤◌, ◌+◌}
use Rattle.std.specs.Prelude.{Contains}
use Rattle.lane_core.specs.Lanes.{Follows}
use Rattle.lane_core.specs.Parts.{OtherLanesSame}
use Rattle.gate_core.specs.Seats.{SeesMore}
use Rattle.lane_core.proofs.work.rounds.Given as goal

abbrev pub invariant-loop : goal.invariant-loop
invariant-loop g l =
    (goal.iterator-loop g).can_next l.iterator' × (goal.iterator-loop g).is_finite l.iterator'
    × record {
      seat : g.G.Gate.IsSeatOf l.gate l.seat;
      lane : Contains (g.G.Gate.told l.seat).lanes l.lane.number;
      lanes : (g.G.Gate.about l.gate).lanes ≡ l.lane.lanes;
      number : l.lane.number ≡ l.fn.lane.number;
      same_lanes : (g.G.Gate.told l.seat).lanes ≡ (g.G.Gate.told l.fn.seat).lanes;
      sees : SeesMore (g.G.Gate.told l.fn.seat) (g.G.Gate.told l.seat);
      others : OtherLanesSame l.fn.lane.number (g.G.Gate.told l.fn.seat) (g.G.Gate.told l.seat);
      follows : Follows l.plain (g.G.Gate.told l.seat) l.lane;
      tries : (g.G.Gate.told l.fn.seat).tries + l.idle ≤ (g.G.Gate.told l.seat).tries;
      few : l.idle < 65536;
    }
