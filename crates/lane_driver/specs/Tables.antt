-- The threads that lanes ran, by number.
use Rattle.std.specs.Prelude.{◌≡◌, ℕ, ◌%◌, List, [], ◌∷◌, Option, Some, None, slice_get, slice_set, Contains}
use Rattle.std.specs.List.{AllByRecursion}
use Rattle.vm_model.specs.Program.{PlainProgram}
use Rattle.local_machine.specs.LocalView.{LocalView}
use Rattle.schedule_log.specs.Foldings.{PlainFolding}
use Rattle.gate_core.specs.Seats.{SeatView, of_thread}
use Rattle.lane_core.specs.Parts.{IsPart}
use Rattle.lane_core.specs.Slots.{threads_in}
use Rattle.lane_core.specs.Lanes.{AreThreads, LanePart, LaneView, parts_of}

abbrev pub Kept : Type 0
Kept = LocalView × PlainFolding

-- the table with these threads at their numbers
abbrev pub place : List LanePart → List (Option Kept) → List (Option Kept)
place [] table = table
place (x ∷ rest) table = place rest (slice_set table x.0 (Some (x.1, x.2)))

-- the same for all threads of some lanes
abbrev pub place_lanes : List LaneView → List (Option Kept) → List (Option Kept)
place_lanes [] table = table
place_lanes (l ∷ rest) table = place_lanes rest (place (parts_of l.slots) table)

abbrev pub AllThreads : List LaneView → Type 0
AllThreads all = AllByRecursion (λ (l : LaneView). AreThreads l.number l.lanes (threads_in l.slots)) all

-- What the table has of a thread is what its seat has. Of a thread of these lanes that isn't there the seat has no entry.
abbrev pub FitsThread : PlainProgram → ℕ → SeatView → List ℕ → ℕ → Option Kept → Type 0
FitsThread p lanes seat done t None = Contains done (t % lanes) → of_thread t (seat.own (t % lanes)) ≡ []
FitsThread p lanes seat done t (Some k) = IsPart p seat (t % lanes) t (record { local = k.0; folding = k.1 })

abbrev pub FitsThreads : PlainProgram → ℕ → SeatView → List ℕ → List (Option Kept) → Type 0
FitsThreads p lanes seat done table = (t : ℕ) (x : Option Kept) → slice_get table t ≡ Some x → FitsThread p lanes seat done t x
