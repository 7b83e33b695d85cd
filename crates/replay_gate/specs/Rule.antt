-- The rule of the replaying gate. The table's one word is the clock, and its one slot has the world. The slot is at home but
-- while a seat has the turn, and only the seat that has the lane of the clock's thread can have it.
use Rattle.std.specs.Prelude.{◌≡◌, ℕ, ◌-◌, ◌≤◌, Bool, true, false, List, [], ◌∷◌, ◌++◌, length, take, slice_get, Option, Some}
use mathlib.Core.Option.{some, none}
use mathlib.Core.Option as maybe
use lib.ListN.{get_elem?}
use Rattle.vm_model.specs.declared.op.Entry.{Entry}
use Rattle.machine_model.specs.Shared.{SharedState}
use Rattle.machine_model.specs.Operations.{IsLegalHistory}
use Rattle.machine_model.specs.Machine.{threads_of}
use Rattle.shared_world.specs.Worlds.{WorldState}
use Rattle.schedule_log.specs.Intervals.{numbers}
use Rattle.schedule_log.specs.Logs.{expansion}
use Rattle.atomic_table.specs.Table.{State}
use Rattle.replay_gate.specs.declared.view.ReplayView.{ReplayView}
use Rattle.replay_gate.specs.declared.view.Terms.{Terms}
use Rattle.replay_gate.specs.Lanes.{has, is_quiet, lane_of}

abbrev pub Slot : Type 0
Slot = Option WorldState

-- the first seat has lane 0 and may give the others
abbrev pub first_view : Terms → ReplayView
first_view terms =
    record {
      start = terms.start;
      log = terms.log;
      lane_count = terms.lanes;
      lanes = 0 ∷ [];
      spare = numbers 1 (terms.lanes - 1);
      seen = [];
      heard = [];
      heard_lanes = [];
      clock = 0;
      loads = 0;
      has_turn = false;
      spent = false;
    }

-- the world behind the gate
abbrev pub world_of : Terms → SharedState → List Entry → WorldState
world_of terms shared history = record { declarations = terms.start; budget = terms.log.budget; shared = shared; history = history }

-- the thread of the next event by the log
abbrev pub next_thread : Terms → List Entry → Option ℕ
next_thread terms history = slice_get (expansion terms.log) (length history)

-- whose lane it is, and whether that seat has it or may still give it
abbrev pub Owners : Type 0
Owners = ℕ → ℕ × Bool

-- A seat that has the turn has seen the history, loaded the clock as it is, and has the lane of the clock's thread
pub record HasTurn (terms : Terms) (history : List Entry) (holder : maybe.Option ℕ) (seat : ℕ) (v : ReplayView) : Type 0 where
  pub alone : holder ≡ some seat
  pub clock : v.clock ≡ length history
  pub seen : v.seen ≡ history
  pub thread : ℕ
  pub next : next_thread terms history ≡ Some thread
  pub lane : has v.lanes (lane_of terms.lanes thread) ≡ true

-- what was heard is a beginning of what was seen, and lacks no entry of these lanes that was seen
pub record Hears (lane_count : ℕ) (seen heard : List Entry) (lanes : List ℕ) : Type 0 where
  pub later : List Entry
  pub whole : seen ≡ heard ++ later
  pub quiet : (lane : ℕ) → has lanes lane ≡ true → is_quiet lane_count lane later ≡ true

-- what a seat knows: a beginning of the history, which lacks no entry of its lanes
pub record Knows (terms : Terms) (history : List Entry) (holder : maybe.Option ℕ) (owners : Owners) (seat : ℕ) (v : ReplayView) : Type 0 where
  pub start : v.start ≡ terms.start
  pub log : v.log ≡ terms.log
  pub lane_count : v.lane_count ≡ terms.lanes
  pub clock : v.clock ≤ length history
  pub unseen : List Entry
  pub seen : history ≡ v.seen ++ unseen
  pub heard : Hears terms.lanes v.seen v.heard v.heard_lanes
  pub lanes : (lane : ℕ) → has v.lanes lane ≡ true → (owners lane ≡ (seat, true)) × (is_quiet terms.lanes lane unseen ≡ true)
  pub spare : (lane : ℕ) → has v.spare lane ≡ true → (owners lane ≡ (seat, false)) × (is_quiet terms.lanes lane history ≡ true)
  pub turn : v.has_turn ≡ true → HasTurn terms history holder seat v

-- the slot is out with this seat, which knows that it has the turn
pub record IsOut (s : State Slot ReplayView) (seat : ℕ) : Type 0 where
  pub homes : s.homes ≡ none ∷ []
  pub view : ReplayView
  pub at : get_elem? s.views seat ≡ some view
  pub unspent : view.spent ≡ false
  pub has : view.has_turn ≡ true

pub record Replays (terms : Terms) (s : State Slot ReplayView) : Type 0 where
  pub history : List Entry
  pub shared : SharedState
  pub turn : maybe.Option ℕ
  pub owners : Owners
  pub clock : s.words ≡ length history ∷ []
  pub legal : IsLegalHistory terms.start history shared
  pub column : threads_of history ≡ take (length history) (expansion terms.log)
  pub within : length history ≤ length (expansion terms.log)
  pub at_home : turn ≡ none → s.homes ≡ some (Some (world_of terms shared history)) ∷ []
  pub out : (seat : ℕ) → turn ≡ some seat → IsOut s seat
  pub each_seat : (seat : ℕ) (v : ReplayView) → get_elem? s.views seat ≡ some v → v.spent ≡ false → Knows terms history turn owners seat v
