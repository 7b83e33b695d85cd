-- A lane that left stays at its seat.
use Rattle.std.proofs.Common.{◌≡◌, ℕ, refl}
use Rattle.vm_model.specs.Program.{PlainProgram}
use Rattle.gate_core.specs.Seats.{SeatView}
use Rattle.lane_core.specs.Lanes.{LaneView}
use Rattle.lane_core.specs.declared.pace.LaneEnd.{LaneEnd}
use Rattle.lane_core.specs.declared.pace.LaneEnd.TheVariants as ends
use Rattle.lane_driver.specs.Working.{IsAtSeat, StaysAtSeat}

pub stays : (p : PlainProgram) (lanes : ℕ) (seat : SeatView) (lane : LaneView) (end : LaneEnd) → (end ≡ ends.Left → IsAtSeat p lanes seat lane) → StaysAtSeat p lanes seat lane end
stays p lanes seat lane ends.Left at = at refl
stays p lanes seat lane ends.NoMemory at = tt
