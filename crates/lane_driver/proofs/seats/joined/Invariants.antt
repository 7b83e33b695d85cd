use Rattle.std.proofs.Common.{◌⊎◌, ℕ, length, map}
use Rattle.std.specs.Prelude.{All, Contains}
use Rattle.crossbeam_utils.specs.Padded.{padded_value}
use Rattle.lane_driver.specs.Joined.{AllOfSeat, number_of, numbers_of}
use Rattle.lane_driver.specs.Working.{StaysAtSeat}
use Rattle.lane_driver.proofs.seats.joined.Given as goal

abbrev pub invariant-loop-next : goal.invariant-loop-next
invariant-loop-next g l = record {
  seat : g.G.Gate.IsSeatOf l.gate l.into;
  seats : All (λ r. g.G.Gate.IsSeatOf l.gate r.seat) l.ran.items;
  rest : All (λ r. StaysAtSeat l.plain (g.G.Gate.about l.gate).lanes (g.G.Gate.told r.seat) (padded_value r.lane) r.end) l.ran.items;
  lanes : AllOfSeat l.plain (g.G.Gate.about l.gate).lanes (g.G.Gate.told l.into) l.lanes.items;
  numbers : (k : ℕ) → Contains (map (λ r. number_of (padded_value r.lane)) l.fn.ran.items) k → Contains (numbers_of l.lanes.items) k ⊎ Contains (map (λ r. number_of (padded_value r.lane)) l.ran.items) k;
}

abbrev pub decreases-loop-next : goal.decreases-loop-next
decreases-loop-next g l = length l.ran.items
