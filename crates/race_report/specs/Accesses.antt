-- The last accesses of a place, by thread.
use Rattle.std.specs.Prelude.{◌≡◌, ◌≢◌, ℕ, ◌+◌, ◌<◌, ◌≤◌, ◌↔◌, ◌⊎◌, Bool, true, false, List, Option, Some, None, slice_get, Contains}
use Rattle.std.specs.HashMap.{HashMap, get}
use Rattle.vm_model.specs.declared.limits.TheConstants.{MOST_THREADS}
use Rattle.vm_model.specs.declared.op.Entry.{Entry}
use Rattle.race_report.specs.declared.place.Place.{Place}
use Rattle.race_report.specs.contracts.place.PlacePartialEq.TheImpl as place_eq
use Rattle.race_report.specs.declared.accesses.Accesses.{Accesses}
use Rattle.race_report.specs.declared.race.Race.{Race}
use Rattle.race_report.specs.Clocks.{Times, time, nothing}
use Rattle.race_report.specs.Races.{place_of, is_write, IsReportBelow}

-- an access of the place, or a write where only writes count
abbrev pub Counts : Place → Bool → Entry → Type 0
Counts at writes_only e = (place_of e.op ≡ Some at) × (writes_only ≡ true → is_write e.op ≡ true)

-- an access by a thread, at a position below a bound
pub record IsAccess (history : List Entry) (below : ℕ) (at : Place) (writes_only : Bool) (thread position : ℕ) : Type 0 where
  pub entry : Entry
  pub at_position : slice_get history position ≡ Some entry
  pub counts : Counts at writes_only entry
  pub by : entry.thread ≡ thread
  pub within : position < below

-- the times are one more than the position of the last access, by thread, below a bound
pub record AreLast (history : List Entry) (below : ℕ) (at : Place) (writes_only : Bool) (last : Times) : Type 0 where
  pub known : (i : ℕ) (e : Entry) → i < below → slice_get history i ≡ Some e → Counts at writes_only e → i < time last e.thread
  pub real : (t n : ℕ) → time last t ≡ n + 1 → IsAccess history below at writes_only t n

-- a race of the place was found
abbrev pub HasRace : List Race → Place → Type 0
HasRace found at = (r : Race) × Contains found r × (r.place ≡ at)

-- a thread's time is one more than a position, where this counts, and nothing else changes
pub record IsMarked (old : Times) (thread position : ℕ) (counts : Bool) (new : Times) : Type 0 where
  pub at : counts ≡ true → time new thread ≡ position + 1
  pub others : (t : ℕ) → t ≢ thread → time new t ≡ time old t
  pub kept : counts ≡ false → time new thread ≡ time old thread

pub record IsPlaceKept (history : List Entry) (below : ℕ) (found : List Race) (at : Place) (a : Accesses) : Type 0 where
  pub accesses : AreLast history below at false a.accesses
  pub writes : AreLast history below at true a.writes
  pub reported : (a.reported ≡ true) ↔ HasRace found at

abbrev pub is_place : Place → Place → Bool
is_place = (place_eq.ghosts).eq

abbrev pub accesses_or_none : Option Accesses → Accesses
accesses_or_none (Some a) = a
accesses_or_none None = record { accesses = nothing; writes = nothing; reported = false }

-- the greatest of the last times of other threads that a clock doesn't know, or 0
pub record IsLatestUnknown (last clock : Times) (thread latest : ℕ) : Type 0 where
  pub found : (latest ≡ 0) ⊎ ((t : ℕ) × (t ≢ thread) × (time clock t < time last t) × (time last t ≡ latest))
  pub greatest : (t : ℕ) → t < MOST_THREADS → t ≢ thread → time clock t < time last t → time last t ≤ latest

module _ {S : Type 0} where
  abbrev pub accesses_of : HashMap Place Accesses S → Place → Accesses
  accesses_of places at = accesses_or_none (get is_place places at)

  -- what is kept of all places after the entries below a bound
  pub record ArePlacesKept (history : List Entry) (below : ℕ) (found : List Race) (places : HashMap Place Accesses S) : Type 0 where
    pub report : IsReportBelow history below found
    pub kept : (at : Place) → IsPlaceKept history below found at (accesses_of places at)
