-- The gate and the seat as the code keeps them.
use Rattle.std.specs.Prelude.{◌≡◌, ◌≤◌, false, []}
use Rattle.vm_model.specs.declared.limits.TheConstants.{MOST_LANES}
use Rattle.replay_gate.specs.Gates.{GateState, SeatState}
use Rattle.replay_gate.specs.declared.gate.ReplayGate.TheInside as gate
use Rattle.replay_gate.specs.declared.gate.ReplaySeat.TheInside as seat

abbrev pub gate_of : gate.Inside → GateState
gate_of g = record { id = g.table.shared.table_id; terms = g.terms }

pub record IsMade (g : gate.Inside) : Type 0 where
  pub words : g.table.shared.table_id.words ≡ 1
  pub slots : g.table.shared.table_id.slots ≡ 1
  pub key : g.table.shared.key ≡ g.terms
  pub some_lane : 1 ≤ g.terms.lanes
  pub few_lanes : g.terms.lanes ≤ MOST_LANES

abbrev pub seat_of : seat.Inside → SeatState
seat_of s = record { gate = s.place.table_id; number = s.place.id; view = s.place.me.0; is_told_off = s.is_told_off }

-- between two calls a seat has no turn
pub record IsFree (s : seat.Inside) : Type 0 where
  pub unspent : s.place.me.0.spent ≡ false
  pub free : s.place.me.0.has_turn ≡ false
  pub empty : s.place.me.1 ≡ []
