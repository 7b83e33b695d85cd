-- Laws over the definitions: they hold of every history, and no code is in them.
use Rattle.std.specs.Prelude.{◌≡◌, ◌≢◌, ℕ, ◌<◌, ◌≤◌, ◌↔◌, List, length, Some, slice_get, All}
use Rattle.vm_model.specs.declared.op.Entry.{Entry}
use Rattle.machine_model.specs.Declarations.{Declarations}
use Rattle.machine_model.specs.Operations.{IsLegalHistory}
use Rattle.machine_model.specs.Shared.{SharedState}
use Rattle.race_report.specs.declared.place.Place.{Place}
use Rattle.race_report.specs.declared.race.Race.{Race}
use Rattle.race_report.specs.Clocks.{Times, time}
use Rattle.race_report.specs.HappensBefore.{HappensBefore}
use Rattle.race_report.specs.Knowledge.{IsClockOf}
use Rattle.race_report.specs.Races.{IsDeclared, IsRace, IsReported, IsReport}

-- the clocks of two events tell whether the one is before the other
abbrev pub ClocksTellOrder : Type 0
ClocksTellOrder = (history : List Entry) (i j : ℕ) (e f : Entry) (v w : Times) → slice_get history i ≡ Some e → slice_get history j ≡ Some f
    → IsClockOf history i v → IsClockOf history j w → HappensBefore history i j ↔ ((i ≢ j) × (time v e.thread ≤ time w e.thread))

-- what is before has a lower clock
abbrev pub BeforeIsEarlier : Type 0
BeforeIsEarlier = (history : List Entry) (i j : ℕ) → HappensBefore history i j → i < j

-- no event is before itself
abbrev pub BeforeIsIrreflexive : Type 0
BeforeIsIrreflexive = (history : List Entry) (i : ℕ) → HappensBefore history i i → ⊥

-- before is transitive
abbrev pub BeforeIsTransitive : Type 0
BeforeIsTransitive = (history : List Entry) (i j k : ℕ) → HappensBefore history i j → HappensBefore history j k → HappensBefore history i k

-- events of one thread are in order of their clocks
abbrev pub ThreadIsInOrder : Type 0
ThreadIsInOrder = (history : List Entry) (i j : ℕ) (e f : Entry) → slice_get history i ≡ Some e → slice_get history j ≡ Some f → e.thread ≡ f.thread → i < j → HappensBefore history i j

-- where all events are of one thread, nothing races
abbrev pub OneThreadHasNoRace : Type 0
OneThreadHasNoRace = (history : List Entry) (thread : ℕ) → All (λ e. e.thread ≡ thread) history → (at : Place) (i j : ℕ) → IsRace history at i j → ⊥

-- a place is reported in one way
abbrev pub PlaceHasOneReport : Type 0
PlaceHasOneReport = (history : List Entry) (r s : Race) → IsReported history r → IsReported history s → r.place ≡ s.place → r ≡ s

-- a history has one report
abbrev pub HistoryHasOneReport : Type 0
HistoryHasOneReport = (history : List Entry) (found other : List Race) → IsReport history found → IsReport history other → found ≡ other

-- the events of a legal history are of threads that were started
abbrev pub EventsAreOfThreads : Type 0
EventsAreOfThreads = (d : Declarations) (history : List Entry) (s : SharedState) → IsLegalHistory d history s → All (λ e. e.thread < length s.rows) history

-- each static that races in a legal history is declared
abbrev pub RacesAreOfDeclared : Type 0
RacesAreOfDeclared = (d : Declarations) (history : List Entry) (s : SharedState) (found : List Race) → IsLegalHistory d history s → IsReport history found → All (λ r. IsDeclared d.statics r.place) found
