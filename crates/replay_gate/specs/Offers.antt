-- What the gate tells to lanes.
use Rattle.std.specs.Prelude.{ℕ, if◌then◌else◌, List, []}
use Rattle.projection_laws.specs.Projections.{target_in}
use Rattle.gate_core.specs.Seats.{GateView, SeatView, Placed}
use Rattle.gate_core.specs.Histories.{entries_of_lane}
use Rattle.gate_core.specs.declared.gate.Offer.{Offer}
use Rattle.gate_core.specs.declared.gate.Offer.TheVariants as offer
use Rattle.replay_gate.specs.declared.turning.Turning.{Turning}
use Rattle.replay_gate.specs.declared.turning.Turning.TheVariants as turning
use Rattle.replay_gate.specs.declared.view.ReplayView.{ReplayView}
use Rattle.replay_gate.specs.Lanes.{has}
use Rattle.replay_gate.specs.Gates.{GateState, SeatState}

abbrev pub offer_of : Turning → Offer
offer_of (turning.Committed clock reply) = offer.Committed clock reply
offer_of (turning.NotYet clock) = offer.Again
offer_of (turning.Differs clock) = offer.Leave
offer_of turning.NoMemory = offer.NoMemory

abbrev pub about_of : GateState → GateView
about_of g = record { declarations = g.terms.start; lanes = g.terms.lanes }

-- the entries of the lanes that the seat has
abbrev pub own_of : ReplayView → ℕ → List Placed
own_of v lane = if has v.lanes lane then entries_of_lane v.lane_count lane v.seen else []

abbrev pub told_of : SeatState → SeatView
told_of s = record { lanes = s.view.lanes; own = own_of s.view; targets = target_in s.view.seen; tries = s.view.loads; is_told_off = s.is_told_off }
