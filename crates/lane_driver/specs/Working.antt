-- A lane and its seat, before it works and after.
use Rattle.std.specs.Prelude.{◌≡◌, ℕ, [], ◌∷◌}
use Rattle.vm_model.specs.Program.{PlainProgram}
use Rattle.gate_core.specs.Seats.{SeatView}
use Rattle.lane_core.specs.Lanes.{Follows, LaneView}
use Rattle.lane_core.specs.declared.pace.LaneEnd.{LaneEnd}
use Rattle.lane_core.specs.declared.pace.LaneEnd.TheVariants as ends

-- the seat has just this lane, which is where the seat says
pub record IsAtSeat (p : PlainProgram) (lanes : ℕ) (seat : SeatView) (lane : LaneView) : Type 0 where
  pub has : seat.lanes ≡ lane.number ∷ []
  pub of : lane.lanes ≡ lanes
  pub follows : Follows p seat lane

-- the same, if the lane left for another cause than memory
abbrev pub StaysAtSeat : PlainProgram → ℕ → SeatView → LaneView → LaneEnd → Type 0
StaysAtSeat p lanes seat lane ends.Left = IsAtSeat p lanes seat lane
StaysAtSeat p lanes seat lane ends.NoMemory = Unit {0}
