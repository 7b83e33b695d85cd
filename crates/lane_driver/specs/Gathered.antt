-- What the table has of each thread of a history, and what is gathered from it.
use Rattle.std.specs.Prelude.{◌≡◌, ℕ, ◌≤◌, List, [], Option, Some, None, slice_get}
use Rattle.vm_model.specs.declared.op.Entry.{Entry}
use Rattle.vm_model.specs.Program.{PlainProgram}
use Rattle.machine_model.specs.Machine.{threads_of}
use Rattle.local_machine.specs.LocalView.{LocalView, IsReady}
use Rattle.schedule_log.specs.Foldings.{PlainFolding}
use Rattle.schedule_log.specs.Parts as log
use Rattle.projection_laws.specs.Projections.{IsProjection, own}
use Rattle.lane_driver.specs.Tables.{Kept}

-- a thread stands where its own entries in the history lead it
pub record Stands (p : PlainProgram) (h : List Entry) (t : ℕ) (l : LocalView) : Type 0 where
  pub ready : IsReady p l
  pub projects : IsProjection p h t l.state

-- the table has the threads that made events, and of each of the others the history has no entry
abbrev pub FitsHistory : PlainProgram → List Entry → ℕ → Option Kept → Type 0
FitsHistory p h t None = (own t h ≡ []) × (log.positions t (threads_of h) ≡ [])
FitsHistory p h t (Some k) = Stands p h t k.0 × log.IsPart (threads_of h) t k.1

-- the same from a thread on
abbrev pub FitFrom : PlainProgram → List Entry → ℕ → List (Option Kept) → Type 0
FitFrom p h low table = (t : ℕ) (x : Option Kept) → low ≤ t → slice_get table t ≡ Some x → FitsHistory p h t x

abbrev pub AllStand : PlainProgram → List Entry → List LocalView → Type 0
AllStand p h locals = (t : ℕ) (l : LocalView) → slice_get locals t ≡ Some l → Stands p h t l

abbrev pub AllParts : List Entry → List PlainFolding → Type 0
AllParts h parts = (t : ℕ) (f : PlainFolding) → slice_get parts t ≡ Some f → log.IsPart (threads_of h) t f

-- what the table has noted of a thread are its clocks
abbrev pub Notes : List ℕ → ℕ → Option Kept → Type 0
Notes threads t None = log.positions t threads ≡ []
Notes threads t (Some k) = log.IsPart threads t k.1

abbrev pub NoteFrom : List ℕ → ℕ → List (Option Kept) → Type 0
NoteFrom threads low table = (t : ℕ) (x : Option Kept) → low ≤ t → slice_get table t ≡ Some x → Notes threads t x
