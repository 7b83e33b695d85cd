-- The foldings of a run's threads, and the log that they make together.
use Rattle.std.specs.Prelude.{◌≡◌, ℕ, ◌+◌, ◌<◌, ◌≤◌, ◌==◌, if◌then◌else◌, List, [], ◌∷◌, length, All, Some, slice_get}
use Rattle.std.specs.List.{flat_map}
use Rattle.vm_model.specs.declared.limits.TheConstants.{MOST_EVENTS, MOST_THREADS}
use Rattle.vm_model.specs.declared.ends.EndKind.{EndKind}
use Rattle.vm_model.specs.declared.ends.EndKind.TheVariants as ends
use Rattle.schedule_log.specs.Intervals.{clocks}
use Rattle.schedule_log.specs.Foldings.{PlainFolding, IsMaximal}
use Rattle.schedule_log.specs.Logs.{PlainLog, in_order}

-- the log of all parts' intervals
abbrev pub log_of_parts : ℕ → List PlainFolding → EndKind → PlainLog
log_of_parts budget parts end = record { budget = budget; intervals = in_order (flat_map (λ (f : PlainFolding). f.intervals) parts); end = end }

-- the places of a list of threads at which a thread stands, counted from a number on, and from 0
abbrev pub positions_from : ℕ → ℕ → List ℕ → List ℕ
positions_from from thread [] = []
positions_from from thread (t ∷ rest) = if t == thread then from ∷ positions_from (from + 1) thread rest else positions_from (from + 1) thread rest

abbrev pub positions : ℕ → List ℕ → List ℕ
positions thread threads = positions_from 0 thread threads

-- a folding of a thread that noted each of its clocks, where threads has the thread of each clock
pub record IsPart (threads : List ℕ) (thread : ℕ) (f : PlainFolding) : Type 0 where
  pub of_thread : f.thread ≡ thread
  pub maximal : IsMaximal f
  pub noted : clocks f.intervals ≡ positions thread threads

-- one folding for each thread, in order of thread
pub record AreParts (threads : List ℕ) (parts : List PlainFolding) : Type 0 where
  pub enough : All (λ t. t < length parts) threads
  pub each : (thread : ℕ) (f : PlainFolding) → slice_get parts thread ≡ Some f → IsPart threads thread f

-- the threads of a run that a log can keep
pub record IsLoggable (budget : ℕ) (threads : List ℕ) (end : EndKind) : Type 0 where
  pub budget_high : budget ≤ MOST_EVENTS
  pub threads_low : All (λ t. t < MOST_THREADS) threads
  pub some_event : 1 ≤ length threads
  pub within_budget : length threads ≤ budget
  pub spent : end ≡ ends.Spent → length threads ≡ budget
