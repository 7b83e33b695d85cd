-- What each step tells the seat that makes it.
use Rattle.std.specs.Prelude.{◌≡◌, ℕ, ◌+◌, ◌≤◌, nat_le, Bool, true, false, if◌then◌else◌, List, [], ◌∷◌, ◌++◌, length, take, slice_get, Some, None, MatchBool}
use Rattle.vm_model.specs.declared.op.Entry.{Entry}
use Rattle.machine_model.specs.Shared.{SharedState, is_thread_number}
use Rattle.machine_model.specs.Operations.{IsLegalHistory}
use Rattle.machine_model.specs.Machine.{threads_of}
use Rattle.shared_world.specs.Worlds.{WorldState}
use Rattle.schedule_log.specs.Logs.{PlainLog, expansion}
use Rattle.atomic_table.specs.Table.{Me, Step}
use Rattle.replay_gate.specs.declared.view.ReplayView.{ReplayView}
use Rattle.replay_gate.specs.Lanes.{has, is_quiet, without}
use Rattle.vm_model.specs.declared.ends.EndKind.TheVariants as end_kind
use Rattle.replay_gate.specs.Rule.{Slot, Hears}

abbrev pub Seated : Type 0
Seated = Me Slot ReplayView

-- the log's thread at this clock is this one
abbrev pub is_turn_of : PlainLog → ℕ → ℕ → Bool
is_turn_of log clock thread = is_thread_number (slice_get (expansion log) clock) thread

-- after a load that found this clock
abbrev pub with_clock : ReplayView → ℕ → ReplayView
with_clock v clock = record v { clock = clock; loads = v.loads + 1 }

-- after the load that began the turn, and found this clock and this history
abbrev pub with_turn : ReplayView → ℕ → List Entry → ReplayView
with_turn v clock history = record v { clock = clock; loads = v.loads + 1; seen = history; heard = []; heard_lanes = []; has_turn = true }

-- the turn is over, and this history was seen
abbrev pub without_turn : ReplayView → List Entry → ReplayView
without_turn v history = record v { seen = history; heard = []; heard_lanes = []; has_turn = false }

-- the history of the world that was found is legal; it goes on from what the seat had seen, with no entry of the seat's lanes
pub record Found (v : ReplayView) (clock : ℕ) (history : List Entry) (shared : SharedState) : Type 0 where
  pub legal : IsLegalHistory v.start history shared
  pub count : length history ≡ clock
  pub column : threads_of history ≡ take clock (expansion v.log)
  pub unseen : List Entry
  pub seen : history ≡ v.seen ++ unseen
  pub quiet : (lane : ℕ) → has v.lanes lane ≡ true → is_quiet v.lane_count lane unseen ≡ true

abbrev pub world_seen : ReplayView → SharedState → List Entry → WorldState
world_seen v shared history = record { declarations = v.start; budget = v.log.budget; shared = shared; history = history }

-- the seat's turn has begun, and the world is out with it
pub record Begins (old : Seated) (clock : ℕ) (new : Seated) : Type 0 where
  pub history : List Entry
  pub shared : SharedState
  pub view : new.0 ≡ with_turn old.0 clock history
  pub slot : new.1 ≡ (0, Some (world_seen old.0 shared history)) ∷ []
  pub found : Found old.0 clock history shared

abbrev pub looked : ℕ → Step Slot → Seated → ℕ → Seated → Type 0
looked thread st old clock new = MatchBool (is_turn_of old.0.log clock thread) (Begins old clock new) (new ≡ (with_clock old.0 clock, []))

-- the clock was loaded, and what the seat has seen stands in order
pub record Glances (old : Seated) (clock : ℕ) (new : Seated) : Type 0 where
  pub view : new ≡ (with_clock old.0 clock, [])
  pub later : length old.0.seen ≤ clock
  pub heard : Hears old.0.lane_count old.0.seen old.0.heard old.0.heard_lanes
  -- no entry of a lane that it may still give
  pub fresh : (lane : ℕ) → has old.0.spare lane ≡ true → is_quiet old.0.lane_count lane old.0.seen ≡ true

abbrev pub glanced : Step Slot → Seated → ℕ → Seated → Type 0
glanced st old clock new = Glances old clock new

-- the turn ended with no event
abbrev pub left : Step Slot → Seated → ℕ → Seated → Type 0
left st old clock new = (new ≡ (without_turn (with_clock old.0 clock) old.0.seen, [])) × (clock ≡ old.0.clock)

-- the history of the world in the slot that was taken last
abbrev pub history_of : Slot → List Entry
history_of None = []
history_of (Some world) = world.history

abbrev pub history_out : List (ℕ × Slot) → List Entry
history_out [] = []
history_out (x ∷ xs) = history_of x.1

-- the turn ended with the event that stands last in the world's history
abbrev pub committed : Step Slot → Seated → ℕ → Seated → Type 0
committed st old clock new = (new ≡ (without_turn old.0 (history_out old.1), [])) × (clock ≡ old.0.clock)

-- the seat has the turn and the world, as it found it
pub record Holds (me : Seated) (world : WorldState) : Type 0 where
  pub turn : me.0.has_turn ≡ true
  pub unspent : me.0.spent ≡ false
  pub slot : me.1 ≡ (0, Some world) ∷ []
  pub start : world.declarations ≡ me.0.start
  pub budget : world.budget ≡ me.0.log.budget
  pub legal : IsLegalHistory world.declarations world.history world.shared

-- ---- split and join

-- the lane is given away
abbrev pub giving : ℕ → ReplayView → ReplayView
giving lane v = record v { spare = without lane v.spare }

abbrev pub given : ℕ → ReplayView → ReplayView
given lane v = record v { lanes = lane ∷ []; spare = []; heard = []; heard_lanes = []; loads = 0; has_turn = false }

abbrev pub longer : List Entry → List Entry → List Entry
longer xs ys = if nat_le (length xs) (length ys) then ys else xs

abbrev pub shorter : List Entry → List Entry → List Entry
shorter xs ys = if nat_le (length xs) (length ys) then xs else ys

abbrev pub lanes_of_shorter : ReplayView → ReplayView → List ℕ
lanes_of_shorter v w = if nat_le (length v.seen) (length w.seen) then v.lanes else w.lanes

-- of two histories that were seen the longer one is kept, and the shorter one is remembered
abbrev pub joined : ReplayView → ReplayView → ReplayView
joined v w = record v { lanes = v.lanes ++ w.lanes; spare = v.spare ++ w.spare; seen = longer v.seen w.seen; heard = shorter v.seen w.seen; heard_lanes = lanes_of_shorter v w }

-- what is left of a seat that was joined into another
abbrev pub spent_view : ReplayView
spent_view =
    record {
      start = record { classes = []; statics = []; texts = [] };
      log = record { budget = 0; intervals = []; end = end_kind.Done };
      lane_count = 0;
      lanes = [];
      spare = [];
      seen = [];
      heard = [];
      heard_lanes = [];
      clock = 0;
      loads = 0;
      has_turn = false;
      spent = true;
    }
