-- What holds of each state that is reached: bounds, and lists that are as long as each other.
use Rattle.std.specs.Prelude.{◌≡◌, ℕ, ◌≤◌, length, Option, None, Some}
use Rattle.std.specs.List.{AllByRecursion}
use Rattle.vm_model.specs.declared.limits.TheConstants.{MOST_THREADS}
use Rattle.machine_model.specs.declared.Kept.{Kept}
use Rattle.machine_model.specs.declared.Row.{Row}
use Rattle.machine_model.specs.Declarations.{Declarations}
use Rattle.machine_model.specs.Shared.{Monitor, Monitors, SharedState}

-- the monitor was entered at most n times, and at most n threads wait on it
pub record IsWithin (n : ℕ) (m : Monitor) : Type 0 where
  pub count : m.count ≤ n
  pub waiters : length m.waiters ≤ n

abbrev pub AreWithin : ℕ → Monitors → Type 0
AreWithin n ms = AllByRecursion (IsWithin n) ms.objects × AllByRecursion (IsWithin n) ms.classes

abbrev pub KeptAtMost : ℕ → Option Kept → Type 0
KeptAtMost n None = 0 ≤ n
KeptAtMost n (Some kept) = kept.count ≤ n

-- the thread will enter its lock again at most n times
abbrev pub RowWithin : ℕ → Row → Type 0
RowWithin n row = KeptAtMost n row.kept

-- after n operations
pub record IsKept (d : Declarations) (n : ℕ) (s : SharedState) : Type 0 where
  pub statics : length s.statics ≡ length d.statics
  pub objects : length s.monitors.objects ≡ length s.heap
  pub classes : length s.monitors.classes ≡ length d.classes
  pub monitors : AreWithin n s.monitors
  pub rows : AllByRecursion (RowWithin n) s.rows
  pub some_thread : 1 ≤ length s.rows
  pub few_threads : length s.rows ≤ MOST_THREADS
