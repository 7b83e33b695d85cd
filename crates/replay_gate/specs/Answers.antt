-- What a call of the gate answers, and what the seat has seen after it.
use Rattle.std.specs.Prelude.{◌≡◌, ◌⊎◌, Contains, ℕ, ◌==◌, Bool, true, false, if◌then◌else◌, List, [], ◌∷◌, ◌++◌, None, Option, Some, is_none, slice_get, ◌&&◌, ◌<◌, length, take}
use Rattle.vm_model.specs.declared.limits.TheConstants.{MOST_EVENTS}
use mathlib.Core.List.{IsPrefix}
use Rattle.vm_model.specs.declared.op.Entry.{Entry}
use Rattle.vm_model.specs.declared.op.Op.{Op}
use Rattle.vm_model.specs.declared.op.Reply.{Reply}
use Rattle.machine_model.specs.Declarations.{Declarations}
use Rattle.machine_model.specs.Kinds.{is_thread_class}
use Rattle.machine_model.specs.Shared.{SharedState}
use Rattle.machine_model.specs.Operations.{apply, entry, is_enabled, target_of, IsLegalHistory, fits_reply}
use Rattle.shared_world.specs.Fitting.{FirstValuesFit}
use Rattle.shared_world.specs.Worlds.{WorldState, takes_memory}
use Rattle.machine_model.specs.Machine.{threads_of}
use Rattle.schedule_log.specs.Logs.{expansion}
use Rattle.projection_laws.specs.Projections.{target_in}
use Rattle.replay_gate.specs.declared.view.ReplayView.{ReplayView}
use Rattle.replay_gate.specs.declared.turning.Turning.{Turning}
use Rattle.replay_gate.specs.declared.turning.Turning.TheVariants as turning
use Rattle.gate_core.specs.declared.gate.Begun.{Begun}
use Rattle.gate_core.specs.declared.gate.Begun.TheVariants as begun
use Rattle.vm_model.specs.declared.value.ObjRef.{ObjRef}
use Rattle.gate_core.specs.Seats.{Placed, placed}
use Rattle.gate_core.specs.Histories.{entries_of_lane}
use Rattle.replay_gate.specs.Lanes.{lane_of}
use Rattle.replay_gate.specs.Steps.{Found, is_turn_of, with_clock, with_turn, without_turn}

-- The thread's turn was found: the clock lies in an interval of the thread, and this is the history behind the gate
pub record HadTurn (v : ReplayView) (thread clock : ℕ) (history : List Entry) (shared : SharedState) : Type 0 where
  pub turn : is_turn_of v.log clock thread ≡ true
  pub found : Found v clock history shared

-- the thread may do this next
abbrev pub is_open : ReplayView → SharedState → ℕ → Op → Bool
is_open v shared thread o = is_none shared.fault && is_enabled v.start shared thread o

-- a turn that was given up: all that was behind the gate was seen
abbrev pub given_up : ReplayView → ℕ → List Entry → ReplayView
given_up v clock history = without_turn (with_clock (with_turn v clock history) clock) history

pub record Commits (old new : ReplayView) (thread : ℕ) (o : Op) (clock : ℕ) (reply : Reply) : Type 0 where
  pub history : List Entry
  pub shared : SharedState
  pub had : HadTurn old thread clock history shared
  pub may : is_open old shared thread o ≡ true
  pub reply_is : reply ≡ (apply old.start shared thread o).reply
  pub view : new ≡ without_turn (with_turn old clock history) (history ++ entry thread o reply ∷ [])

pub record Differs (old new : ReplayView) (thread : ℕ) (o : Op) (clock : ℕ) : Type 0 where
  pub history : List Entry
  pub shared : SharedState
  pub had : HadTurn old thread clock history shared
  pub differs : is_open old shared thread o ≡ false
  pub view : new ≡ given_up old clock history

pub record LacksMemory (old new : ReplayView) (thread : ℕ) (o : Op) : Type 0 where
  pub clock : ℕ
  pub history : List Entry
  pub shared : SharedState
  pub had : HadTurn old thread clock history shared
  pub may : is_open old shared thread o ≡ true
  pub takes : takes_memory o ≡ true
  pub view : new ≡ given_up old clock history

-- each answer, by its cause
abbrev pub Turned : ReplayView → ReplayView → ℕ → Op → Turning → Type 0
Turned old new thread o (turning.Committed clock reply) = Commits old new thread o clock reply
Turned old new thread o (turning.NotYet clock) = (is_turn_of old.log clock thread ≡ false) × (new ≡ with_clock old clock)
Turned old new thread o (turning.Differs clock) = Differs old new thread o clock
Turned old new thread o turning.NoMemory = LacksMemory old new thread o

-- the entries that a call adds to those of a lane
abbrev pub added : ℕ → ℕ → ℕ → Op → Turning → List Placed
added lanes lane thread o (turning.Committed clock reply) = if lane_of lanes thread == lane then placed clock (entry thread o reply) ∷ [] else []
added lanes lane thread o (turning.NotYet clock) = []
added lanes lane thread o (turning.Differs clock) = []
added lanes lane thread o turning.NoMemory = []

-- the seat has the lanes that it had, and may give the same ones
abbrev pub SameLanes : ReplayView → ReplayView → Type 0
SameLanes old new = (new.lanes ≡ old.lanes) × (new.spare ≡ old.spare)

-- the turn was found and given up, and this is what the world says of the thread
pub record Asked (old new : ReplayView) (thread : ℕ) (target : Option ObjRef) : Type 0 where
  pub clock : ℕ
  pub history : List Entry
  pub shared : SharedState
  pub had : HadTurn old thread clock history shared
  pub row : target_of (slice_get shared.rows thread) ≡ target
  pub view : new ≡ given_up old clock history

abbrev pub BegunSo : ReplayView → ReplayView → ℕ → Begun → Type 0
BegunSo old new thread (begun.Yes target) = Asked old new thread (Some target)
BegunSo old new thread begun.NotYet = (clock : ℕ) × (is_turn_of old.log clock thread ≡ false) × (new ≡ with_clock old clock)
BegunSo old new thread begun.Over = Asked old new thread None

-- ---- the end

-- the seat has each lane, or may still give it
abbrev pub HasAllLanes : ℕ → ReplayView → Type 0
HasAllLanes lanes v = (lane : ℕ) → lane < lanes → Contains v.lanes lane ⊎ Contains v.spare lane

-- the world that was behind the gate, beside what the last seat has seen
pub record Closes (v : ReplayView) (world : WorldState) : Type 0 where
  pub start : world.declarations ≡ v.start
  pub budget : world.budget ≡ v.log.budget
  pub legal : IsLegalHistory world.declarations world.history world.shared
  pub seen : IsPrefix v.seen world.history
  pub column : threads_of world.history ≡ take (length world.history) (expansion v.log)
  -- the entries of its lanes are those that it has seen
  pub own : (lane : ℕ) → Contains v.lanes lane → entries_of_lane v.lane_count lane world.history ≡ entries_of_lane v.lane_count lane v.seen

-- ---- threads that were started

-- the object that was told is the one of the start in the history that began the thread
abbrev pub TargetSo : List Entry → ℕ → Begun → Type 0
TargetSo history thread (begun.Yes target) = target_in history thread ≡ Some target
TargetSo history thread begun.NotYet = Unit {0}
TargetSo history thread begun.Over = target_in history thread ≡ None

-- a clock is below the greatest budget
abbrev pub IsWithinLimit : Turning → Type 0
IsWithinLimit (turning.Committed clock reply) = clock < MOST_EVENTS
IsWithinLimit (turning.NotYet clock) = Unit {0}
IsWithinLimit (turning.Differs clock) = Unit {0}
IsWithinLimit turning.NoMemory = Unit {0}

-- where the first values of the statics fit them, the reply of an event is one to its operation
abbrev pub FitsSo : Declarations → Op → Turning → Type 0
FitsSo d o (turning.Committed clock reply) = FirstValuesFit d → fits_reply d o reply ≡ true
FitsSo d o (turning.NotYet clock) = Unit {0}
FitsSo d o (turning.Differs clock) = Unit {0}
FitsSo d o turning.NoMemory = Unit {0}

-- a thread is started for a thread object
abbrev pub ClassSo : Declarations → Begun → Type 0
ClassSo d (begun.Yes target) = is_thread_class d target.class ≡ true
ClassSo d begun.NotYet = Unit {0}
ClassSo d begun.Over = Unit {0}
