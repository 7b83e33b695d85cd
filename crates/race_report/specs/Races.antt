-- Data races in a history (JLS SE 8 §17.4.5), and the report of them: one for each place that has one.
use Rattle.std.specs.Prelude.{◌≡◌, ◌≢◌, ℕ, ◌<◌, ◌≤◌, Bool, true, false, ◌||◌, List, length, Option, Some, None, slice_get, All, AllPairs, Contains, IsTrue}
use Rattle.vm_model.specs.declared.op.Entry.{Entry}
use Rattle.vm_model.specs.declared.op.Op.{Op}
use Rattle.vm_model.specs.declared.op.Op.TheVariants as op
use Rattle.vm_model.specs.declared.program.StaticSlot.{StaticSlot}
use Rattle.race_report.specs.declared.place.Place.{Place}
use Rattle.race_report.specs.declared.place.Place.TheVariants as place
use Rattle.race_report.specs.declared.race.Race.{Race}
use Rattle.race_report.specs.HappensBefore.{HappensBefore}

-- the place that an operation reads or writes, where it is an access
abbrev pub place_of : Op → Option Place
place_of (op.GetStatic slot) = Some (place.Static slot)
place_of (op.PutStatic slot value) = Some (place.Static slot)
place_of (op.GetField obj p) = Some (place.Field obj.id p)
place_of (op.PutField obj p value) = Some (place.Field obj.id p)
place_of (op.ArrayLoad arr index) = Some (place.Item arr index)
place_of (op.ArrayStore arr index value) = Some (place.Item arr index)
place_of o = None

abbrev pub is_write : Op → Bool
is_write (op.PutStatic slot value) = true
is_write (op.PutField obj p value) = true
is_write (op.ArrayStore arr index value) = true
is_write o = false

-- a static is one of these; objects and arrays aren't declared
abbrev pub IsDeclared : List StaticSlot → Place → Type 0
IsDeclared statics (place.Static slot) = slot < length statics
IsDeclared statics (place.Field obj p) = Unit {0}
IsDeclared statics (place.Item arr index) = Unit {0}

-- two accesses of one place by two threads, of which one is a write
pub record Conflicts (at : Place) (e f : Entry) : Type 0 where
  pub first : place_of e.op ≡ Some at
  pub second : place_of f.op ≡ Some at
  pub threads : e.thread ≢ f.thread
  pub writes : IsTrue (is_write e.op || is_write f.op)

-- two accesses that conflict, the earlier one not before the later one
pub record IsRace (history : List Entry) (at : Place) (i j : ℕ) : Type 0 where
  pub earlier : i < j
  pub first : Entry
  pub second : Entry
  pub at_first : slice_get history i ≡ Some first
  pub at_second : slice_get history j ≡ Some second
  pub conflicts : Conflicts at first second
  pub unordered : HappensBefore history i j → ⊥

-- What is reported of a place: the least position that races with a lower one, and the greatest that it races with.
pub record IsReported (history : List Entry) (r : Race) : Type 0 where
  pub race : IsRace history r.place r.first r.second
  pub first_thread : r.first_thread ≡ race.first.thread
  pub second_thread : r.second_thread ≡ race.second.thread
  pub least_second : (i j : ℕ) → IsRace history r.place i j → r.second ≤ j
  pub greatest_first : (i : ℕ) → IsRace history r.place i r.second → i ≤ r.first

-- The report of the races whose second position is below a bound.
pub record IsReportBelow (history : List Entry) (below : ℕ) (found : List Race) : Type 0 where
  pub sound : All (IsReported history) found
  pub within : All (λ r. r.second < below) found
  -- each place that has a race is there
  pub complete : (at : Place) (i j : ℕ) → j < below → IsRace history at i j → (r : Race) × Contains found r × (r.place ≡ at)
  -- in order of the second position, so that no place is there twice
  pub ordered : AllPairs (λ r s. r.second < s.second) found

-- The report of a whole history.
pub record IsReport (history : List Entry) (found : List Race) : Type 0 where
  pub sound : All (IsReported history) found
  pub complete : (at : Place) (i j : ℕ) → IsRace history at i j → (r : Race) × Contains found r × (r.place ≡ at)
  pub ordered : AllPairs (λ r s. r.second < s.second) found
