-- What the gate tells to lanes.
use Rattle.std.specs.Prelude.{ℕ, ◌+◌, false, if◌then◌else◌, List, [], ◌∷◌, None}
use Rattle.projection_laws.specs.Projections.{target_in}
use Rattle.gate_core.specs.Seats.{GateView, SeatView, Placed}
use Rattle.gate_core.specs.declared.gate.Offer.{Offer}
use Rattle.gate_core.specs.declared.gate.Offer.TheVariants as offer
use Rattle.record_gate.specs.declared.answers.Committing.{Committing}
use Rattle.record_gate.specs.declared.answers.Committing.TheVariants as answer
use Rattle.record_gate.specs.declared.rule.RecordView.{RecordView}
use Rattle.gate_core.specs.Histories.{entries_of_lane}
use Rattle.record_gate.specs.Lanes.{has}
use Rattle.record_gate.specs.Seats.{GateState, SeatState}

abbrev pub offer_of : Committing → Offer
offer_of (answer.Committed clock reply) = offer.Committed clock reply
offer_of answer.Busy = offer.Again
offer_of answer.Blocked = offer.Again
offer_of (answer.Over e) = offer.Leave
offer_of answer.Spent = offer.Leave
offer_of answer.NoMemory = offer.NoMemory

abbrev pub about_of : GateState → GateView
about_of g = record { declarations = g.setup.start; lanes = g.setup.lanes }

-- the entries of the lanes that the seat has
abbrev pub own_of : RecordView → ℕ → List Placed
own_of v lane = if has v.lanes lane then entries_of_lane v.lane_count lane v.seen else []

abbrev pub told_of : SeatState → SeatView
told_of s = record { lanes = s.view.lanes; own = own_of s.view; targets = target_in s.view.seen; tries = s.view.missed + s.view.got; is_told_off = s.is_told_off }

-- what is told of the first seat at first
abbrev pub untold : SeatView
untold = record { lanes = 0 ∷ []; own = λ lane. []; targets = λ t. None; tries = 0; is_told_off = false }
