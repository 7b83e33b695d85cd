-- What a closed gate says of a seat.
use Rattle.std.specs.Prelude.{◌≡◌, Some, ℕ, List}
use Rattle.vm_model.specs.declared.op.Entry.{Entry}
use Rattle.vm_model.specs.declared.value.ObjRef.{ObjRef}
use Rattle.projection_laws.specs.Projections.{target_in}
use Rattle.gate_core.specs.Seats.{SeatView}
use Rattle.gate_core.specs.Histories.{entries_of_lane}

-- what the closed gate says of a seat
pub record Closes (lanes : ℕ) (seat : SeatView) (h : List Entry) (lane : ℕ) : Type 0 where
  pub entries : entries_of_lane lanes lane h ≡ seat.own lane
  pub targets : (t : ℕ) (target : ObjRef) → seat.targets t ≡ Some target → target_in h t ≡ Some target
