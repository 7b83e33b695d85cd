-- What the gate tells of the world behind it.
use Rattle.std.specs.Prelude.{ℕ, ◌≤◌, List, length}
use Rattle.machine_model.specs.Operations.{IsLegalHistory}
use Rattle.shared_world.specs.Worlds.{WorldState}
use Rattle.record_gate.specs.Seats.{GateState, SeatState}

abbrev pub budget_of : GateState → ℕ
budget_of g = g.setup.events

-- the lanes that the seat may still give
abbrev pub gives_of : SeatState → List ℕ
gives_of s = s.view.spare

-- the world's history is one that the gate's declarations allow, and it leads to what the world has
pub record IsAdmitted (g : GateState) (w : WorldState) : Type 0 where
  pub legal : IsLegalHistory g.setup.start w.history w.shared
  pub within : length w.history ≤ g.setup.events
