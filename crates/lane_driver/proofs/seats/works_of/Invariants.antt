use Rattle.std.proofs.Common.{◌≡◌, ℕ, ◌<◌, ◌≤◌, [], ◌∷◌, map}
use Rattle.std.specs.Prelude.{All, Contains}
use Rattle.crossbeam_utils.specs.Padded.{padded_value}
use Rattle.lane_driver.specs.Joined.{number_of}
use Rattle.lane_driver.specs.Working.{IsAtSeat}
use Rattle.lane_driver.proofs.seats.works_of.Given as goal

abbrev pub invariant-loop-lane : goal.invariant-loop-lane
invariant-loop-lane g l = record {
  seat : g.G.Gate.IsSeatOf l.gate l.first;
  has : (g.G.Gate.told l.first).lanes ≡ 0 ∷ [];
  entries : (g.G.Gate.told l.first).own 0 ≡ [];
  gives : (lane : ℕ) → l.lane ≤ lane → lane < l.lanes → Contains (g.G.WorldGate.gives l.first) lane;
  seats : All (λ w. g.G.Gate.IsSeatOf l.gate w.seat) l.works.items;
  lanes : All (λ w. IsAtSeat l.plain (g.G.Gate.about l.gate).lanes (g.G.Gate.told w.seat) (padded_value w.lane)) l.works.items;
  numbers : (lane : ℕ) → 1 ≤ lane → lane < l.lane → Contains (map (λ w. number_of (padded_value w.lane)) l.works.items) lane;
}
