-- A seat as the code keeps it.
use Rattle.std.specs.Prelude.{◌≡◌, false, []}
use Rattle.record_gate.specs.Seats.{SeatState}
use Rattle.record_gate.specs.declared.seat.RecordSeat.TheInside.{Inside}

abbrev pub view_of : Inside → SeatState
view_of s = record { gate = s.seat.table_id; view = s.seat.me.0; is_told_off = s.is_told_off }

-- between two calls the seat has neither the gate nor the world, and no other seat is on its way into it
pub record IsIdle (s : Inside) : Type 0 where
  pub empty : s.seat.me.1 ≡ []
  pub idle : s.seat.me.0.holds ≡ false
  pub alone : s.seat.me.0.heard_lanes ≡ []
