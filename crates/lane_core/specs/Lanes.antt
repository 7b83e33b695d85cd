-- A lane as callers see it.
use Rattle.std.specs.Prelude.{◌⊎◌, ◌≡◌, ◌≢◌, ℕ, ◌+◌, ◌%◌, ◌<◌, ◌≤◌, List, [], ◌∷◌, Contains, Option, Some, None}
use Rattle.std.specs.List.{AllByRecursion}
use Rattle.vm_model.specs.declared.limits.TheConstants.{MOST_LANES, MOST_THREADS}
use Rattle.vm_model.specs.Program.{PlainProgram}
use Rattle.machine_model.specs.LocalStep.{settled, first_of_main}
use Rattle.local_machine.specs.LocalView.{LocalView, IsReady}
use Rattle.schedule_log.specs.Foldings.{PlainFolding}
use Rattle.gate_core.specs.Seats.{SeatView, of_thread}
use Rattle.lane_core.specs.Parts.{IsToldOff}
use Rattle.lane_core.specs.Slots.{AllFollow, AllQuiet, AreOfLane, RisesFrom, threads_in}
use Rattle.lane_core.specs.declared.part.Part.{Part}
use Rattle.lane_core.specs.declared.slot.Slot.{Slot}
use Rattle.lane_core.specs.declared.pace.TheConstants.{MOST_IDLE}
use Rattle.lane_core.specs.declared.pace.LaneEnd.{LaneEnd}
use Rattle.lane_core.specs.declared.pace.LaneEnd.TheVariants as ends

pub record LaneView : Type 0 where
  pub number : ℕ
  -- how many lanes there are
  pub lanes : ℕ
  pub slots : List Slot

-- these are the thread numbers of a lane, in rising order
pub record AreThreads (number lanes : ℕ) (threads : List ℕ) : Type 0 where
  pub below : number < lanes
  pub few : lanes ≤ MOST_LANES
  pub of_lane : AreOfLane lanes number threads
  pub rises : RisesFrom 0 threads
  pub whole : (t : ℕ) → t < MOST_THREADS → t % lanes ≡ number → Contains threads t

-- The lane is where its seat says: each thread that was begun stands behind its own entries and noted their clocks, and
-- there is no entry of another thread.
pub record Follows (p : PlainProgram) (seat : SeatView) (lane : LaneView) : Type 0 where
  pub each : AllFollow p seat lane.number lane.slots
  pub only : (t : ℕ) → (Contains (threads_in lane.slots) t → ⊥) → of_thread t (seat.own lane.number) ≡ []

-- ---- the parts

abbrev pub LanePart : Type 0
LanePart = ℕ × LocalView × PlainFolding

abbrev pub part_before : ℕ → Option Part → List LanePart → List LanePart
part_before thread None rest = rest
part_before thread (Some part) rest = (thread, part.local, part.folding) ∷ rest

-- the threads that were begun, in order of number
abbrev pub parts_of : List Slot → List LanePart
parts_of [] = []
parts_of (s ∷ rest) = part_before s.thread s.part (parts_of rest)

-- ---- a new lane

abbrev pub IsNewAt : PlainProgram → ℕ → Option Part → Type 0
IsNewAt p thread None = thread ≢ 0
IsNewAt p thread (Some part) =
    (thread ≡ 0) × IsReady p part.local × (part.local.state ≡ settled p (first_of_main p)) × (part.folding ≡ record { thread = 0; intervals = []; room = 0 })

abbrev pub AllNew : PlainProgram → List Slot → Type 0
AllNew p slots = AllByRecursion (λ (s : Slot). IsNewAt p s.thread s.part) slots

-- ---- why a lane left

-- the seat was told off, or looked at the gate in vain so often, or no thread of the lane asks for anything any more
abbrev pub LeftSo : SeatView → SeatView → LaneView → Type 0
LeftSo old new lane = IsToldOff old new ⊎ (old.tries + MOST_IDLE ≤ new.tries) ⊎ (AllQuiet lane.slots × AreThreads lane.number lane.lanes (threads_in lane.slots))

abbrev pub EndsSo : LaneEnd → SeatView → SeatView → LaneView → Type 0
EndsSo ends.Left old new lane = LeftSo old new lane
EndsSo ends.NoMemory old new lane = Unit {0}
