-- What a lane keeps of a thread, beside what its seat has of it.
use Rattle.std.specs.Prelude.{◌≡◌, ◌≢◌, ℕ, ◌<◌, ◌≤◌, true, [], Option, Some, None, Result, Ok, Err}
use Rattle.vm_model.specs.Program.{PlainProgram}
use Rattle.local_machine.specs.LocalView.{IsReady}
use Rattle.schedule_log.specs.Foldings.{IsMaximal}
use Rattle.schedule_log.specs.Intervals.{clocks}
use Rattle.projection_laws.specs.Projections.{GoesFrom}
use Rattle.gate_core.specs.Seats.{SeatView, SeesMore, entries_of, first_seen, of_thread, positions_of}
use Rattle.lane_core.specs.declared.part.Part.{Part}
use Rattle.lane_core.specs.declared.pace.Pace.{Pace}
use Rattle.lane_core.specs.declared.pace.Pace.TheVariants as pace
use Rattle.lane_core.specs.declared.pace.LaneEnd.{LaneEnd}
use Rattle.lane_core.specs.declared.pace.LaneEnd.TheVariants as ends

-- A thread that was begun: it is at the next operation after its own entries, and their clocks were noted.
pub record IsPart (p : PlainProgram) (seat : SeatView) (lane thread : ℕ) (part : Part) : Type 0 where
  pub ready : IsReady p part.local
  pub goes : GoesFrom p (first_seen p seat thread) (entries_of (of_thread thread (seat.own lane))) part.local.state
  pub thread_is : part.folding.thread ≡ thread
  pub maximal : IsMaximal part.folding
  pub noted : clocks part.folding.intervals ≡ positions_of (of_thread thread (seat.own lane))

-- the entries of other lanes are as before
abbrev pub OtherLanesSame : ℕ → SeatView → SeatView → Type 0
OtherLanesSame lane old new = (other : ℕ) → other ≢ lane → new.own other ≡ old.own other

-- what a call on behalf of one thread leaves of the seat
pub record IsOnlyOf (thread lane : ℕ) (old new : SeatView) : Type 0 where
  pub lanes : new.lanes ≡ old.lanes
  pub sees : SeesMore old new
  pub others : (t : ℕ) → t ≢ thread → of_thread t (new.own lane) ≡ of_thread t (old.own lane)
  pub other_lanes : OtherLanesSame lane old new
  pub tries : old.tries ≤ new.tries

-- A look at the gate told the seat off. Where it wasn't before, it was this look.
pub record IsToldOff (old new : SeatView) : Type 0 where
  pub is_told_off : new.is_told_off ≡ true
  pub tried : old.tries < new.tries

-- how a call went on, and why
abbrev pub Paced : Result Pace LaneEnd → SeatView → SeatView → Type 0
Paced (Ok pace.Ended) old new = new.is_told_off ≡ old.is_told_off
Paced (Ok pace.Still) old new = (new.is_told_off ≡ old.is_told_off) × (old.tries < new.tries)
Paced (Ok pace.Moved) old new = new.is_told_off ≡ old.is_told_off
Paced (Err ends.Left) old new = IsToldOff old new
Paced (Err ends.NoMemory) old new = new.is_told_off ≡ old.is_told_off

-- what asking for one thread says
abbrev pub Asked : Result (Option Part) LaneEnd → SeatView → SeatView → Type 0
Asked (Ok None) old new = (new.is_told_off ≡ old.is_told_off) × (old.tries < new.tries)
Asked (Ok (Some part)) old new = new.is_told_off ≡ old.is_told_off
Asked (Err ends.Left) old new = IsToldOff old new
Asked (Err ends.NoMemory) old new = new.is_told_off ≡ old.is_told_off

-- of a thread that isn't begun there is no entry; the main thread always is
abbrev pub FollowsAt : PlainProgram → SeatView → ℕ → ℕ → Option Part → Type 0
FollowsAt p seat lane thread None = (thread ≢ 0) × (of_thread thread (seat.own lane) ≡ [])
FollowsAt p seat lane thread (Some part) = IsPart p seat lane thread part

-- the thread was begun, and asks for no operation
abbrev pub AsksNothing : Option Part → Type 0
AsksNothing None = ⊥
AsksNothing (Some part) = part.local.pending ≡ None

-- what holds unless memory was missing
abbrev pub WithMemory : {A : Type 0} → Result A LaneEnd → Type 0 → Type 0
WithMemory (Ok x) F = F
WithMemory (Err ends.Left) F = F
WithMemory (Err ends.NoMemory) F = Unit {0}

-- the thread that was asked for: begun, or as new as before
abbrev pub AskedPart : PlainProgram → SeatView → ℕ → ℕ → Result (Option Part) LaneEnd → Type 0
AskedPart p seat lane thread (Ok part) = FollowsAt p seat lane thread part
AskedPart p seat lane thread (Err ends.Left) = FollowsAt p seat lane thread None
AskedPart p seat lane thread (Err ends.NoMemory) = Unit {0}
