-- Lanes whose seats were joined.
use Rattle.std.specs.Prelude.{◌≡◌, ℕ, List, map, Contains}
use Rattle.std.specs.List.{AllByRecursion}
use Rattle.vm_model.specs.Program.{PlainProgram}
use Rattle.gate_core.specs.Seats.{SeatView}
use Rattle.lane_core.specs.Lanes.{Follows, LaneView}

-- the seat has this lane, which is where the seat says
pub record IsOfSeat (p : PlainProgram) (lanes : ℕ) (seat : SeatView) (lane : LaneView) : Type 0 where
  pub has : Contains seat.lanes lane.number
  pub of : lane.lanes ≡ lanes
  pub follows : Follows p seat lane

abbrev pub AllOfSeat : PlainProgram → ℕ → SeatView → List LaneView → Type 0
AllOfSeat p lanes seat all = AllByRecursion (IsOfSeat p lanes seat) all

abbrev pub number_of : LaneView → ℕ
number_of l = l.number

abbrev pub numbers_of : List LaneView → List ℕ
numbers_of all = map number_of all
