-- The threads of a lane together.
use Rattle.std.specs.Prelude.{◌≡◌, ℕ, ◌+◌, ◌%◌, ◌<◌, ◌≤◌, List, [], ◌∷◌, map, Contains}
use Rattle.std.specs.List.{AllByRecursion}
use Rattle.vm_model.specs.Program.{PlainProgram}
use Rattle.gate_core.specs.Seats.{SeatView, SeesMore, of_thread}
use Rattle.lane_core.specs.Parts.{AsksNothing, FollowsAt, OtherLanesSame}
use Rattle.lane_core.specs.declared.slot.Slot.{Slot}
use Rattle.lane_core.specs.declared.pace.Pace.{Pace}
use Rattle.lane_core.specs.declared.pace.Pace.TheVariants as pace

abbrev pub thread_in : Slot → ℕ
thread_in s = s.thread

abbrev pub threads_in : List Slot → List ℕ
threads_in slots = map thread_in slots

-- in rising order of thread, from a number on
abbrev pub RisesFrom : ℕ → List ℕ → Type 0
RisesFrom low [] = Unit {0}
RisesFrom low (t ∷ rest) = (low ≤ t) × RisesFrom (t + 1) rest

abbrev pub AreOfLane : ℕ → ℕ → List ℕ → Type 0
AreOfLane lanes lane threads = AllByRecursion (λ (t : ℕ). t % lanes ≡ lane) threads

-- each slot keeps what its seat has of the thread
abbrev pub AllFollow : PlainProgram → SeatView → ℕ → List Slot → Type 0
AllFollow p seat lane slots = AllByRecursion (λ (s : Slot). FollowsAt p seat lane s.thread s.part) slots

abbrev pub AllQuiet : List Slot → Type 0
AllQuiet slots = AllByRecursion (λ (s : Slot). AsksNothing s.part) slots

-- what calls on behalf of these threads leave of the seat
pub record RoundOf (threads : List ℕ) (lane : ℕ) (old new : SeatView) : Type 0 where
  pub lanes : new.lanes ≡ old.lanes
  pub sees : SeesMore old new
  pub others : (t : ℕ) → (Contains threads t → ⊥) → of_thread t (new.own lane) ≡ of_thread t (old.own lane)
  pub other_lanes : OtherLanesSame lane old new
  pub tries : old.tries ≤ new.tries

abbrev pub joined : Pace → Pace → Pace
joined pace.Ended other = other
joined pace.Still pace.Ended = pace.Still
joined pace.Still pace.Still = pace.Still
joined pace.Still pace.Moved = pace.Moved
joined pace.Moved other = pace.Moved

-- what a round tells up to a slot, if so many slots are behind it
abbrev pub SoFar : Pace → List Slot → SeatView → SeatView → Type 0
SoFar pace.Ended done old new = AllQuiet done
SoFar pace.Still done old new = old.tries < new.tries
SoFar pace.Moved done old new = Unit {0}
