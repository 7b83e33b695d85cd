-- The schedule whose run is a log's.
use Rattle.std.specs.Prelude.{◌≡◌, ◌≢◌, ◌<◌, ◌≤◌, ℕ, List, ◌∷◌, length, take, All, Option, Some, None, option_map, slice_get, slice_index}
use Rattle.std.specs.List.Sorted.{IsNonDecreasing}
use Rattle.vm_model.specs.declared.limits.TheConstants.{MOST_SWITCHES}
use Rattle.vm_model.specs.Ends.{kind_of_end}
use Rattle.vm_model.specs.Program.{PlainProgram}
use Rattle.machine_model.specs.Machine.{MachineState, end_of, run}
use Rattle.machine_model.specs.Ring.{pick, schedule_threads, switches_at}
use Rattle.schedule_log.specs.Logs.{PlainLog, events, expansion}

-- so many places round the ring, and no fewer, lead from one thread to the other
pub record IsLeastPlaces (p : PlainProgram) (m : MachineState) (before thread places : ℕ) : Type 0 where
  pub leads : pick p m before places ≡ Some thread
  pub least : (fewer : ℕ) → fewer < places → pick p m before fewer ≢ Some thread

-- the thread of the event before this one, and 0 before the first
abbrev pub thread_before : List ℕ → ℕ → ℕ
thread_before threads clock = slice_index (0 ∷ threads) clock

-- At each event of these threads, up to a clock, the times have the least number of places that leads to its thread. They
-- rise, and each is the clock of one of these events.
pub record DerivesUpTo (p : PlainProgram) (threads : List ℕ) (clock : ℕ) (times : List ℕ) : Type 0 where
  pub rising : IsNonDecreasing times
  pub within : All (λ time. time < clock) times
  pub least : (event : ℕ) (m : MachineState) → event < clock → run p (take event threads) ≡ Some m → IsLeastPlaces p m (thread_before threads event) (slice_index threads event) (switches_at times event)

-- the run of the times under the log's budget is the log's, with the least number of places before each event
pub record IsDerived (p : PlainProgram) (log : PlainLog) (times : List ℕ) : Type 0 where
  pub runs : schedule_threads p times log.budget ≡ expansion log
  pub derives : DerivesUpTo p (expansion log) (events log) times

-- all turns of the log are defined, and the machine after them ends as the log says
pub record EndsAsTold (p : PlainProgram) (log : PlainLog) : Type 0 where
  pub machine : MachineState
  pub runs : run p (expansion log) ≡ Some machine
  pub ends : option_map kind_of_end (end_of p machine log.budget) ≡ Some log.end

-- the 16,385th time that would be needed is this one
pub record NeedsTooMany (p : PlainProgram) (log : PlainLog) (clock : ℕ) : Type 0 where
  pub times : List ℕ
  pub derived : IsDerived p log times
  pub passed : slice_get times MOST_SWITCHES ≡ Some clock

-- the times that are kept: all of them, or, where there are too many, the clock of the 16,385th is told
abbrev pub Keeps : List ℕ → Option ℕ → List ℕ → Type 0
Keeps kept None times = (kept ≡ times) × (length times ≤ MOST_SWITCHES)
Keeps kept (Some clock) times = slice_get times MOST_SWITCHES ≡ Some clock

-- what is kept of the times up to a clock
pub record HasDerived (p : PlainProgram) (threads : List ℕ) (clock : ℕ) (kept : List ℕ) (passed : Option ℕ) : Type 0 where
  pub times : List ℕ
  pub derives : DerivesUpTo p threads clock times
  pub keeps : Keeps kept passed times
