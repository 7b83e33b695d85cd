-- What a log is, and which logs are lawful.
use Rattle.std.specs.Prelude.{◌≡◌, ℕ, ◌+◌, ◌-◌, ◌<◌, ◌≤◌, nat_lt, if◌then◌else◌, List, [], ◌∷◌, All, replicate}
use Rattle.std.specs.List.{flat_map}
use Rattle.vm_model.specs.declared.limits.TheConstants.{MOST_EVENTS, MOST_THREADS}
use Rattle.vm_model.specs.declared.ends.EndKind.{EndKind}
use Rattle.vm_model.specs.declared.ends.EndKind.TheVariants as ends
use Rattle.schedule_log.specs.declared.interval.Interval.{Interval}
use Rattle.schedule_log.specs.Intervals.{clock_count, IsInOrder, Tiles}

-- a log as plain data: for how many events there was leave, the intervals of the run, and how it ended
pub record PlainLog : Type 0 where
  pub budget : ℕ
  pub intervals : List Interval
  pub end : EndKind

-- the number of events
abbrev pub events : PlainLog → ℕ
events log = clock_count log.intervals

pub record IsLawful (log : PlainLog) : Type 0 where
  pub budget_low : 1 ≤ log.budget
  pub budget_high : log.budget ≤ MOST_EVENTS
  pub threads : All (λ i. i.thread < MOST_THREADS) log.intervals
  pub in_order : IsInOrder log.intervals
  pub tiles : Tiles (events log) log.intervals
  pub some_event : 1 ≤ events log
  pub within_budget : events log ≤ log.budget
  pub spent : log.end ≡ ends.Spent → events log ≡ log.budget

-- the thread of each clock, in order of clock
abbrev pub threads_in : Interval → List ℕ
threads_in i = replicate (i.last + 1 - i.first) i.thread

abbrev pub expansion : PlainLog → List ℕ
expansion log = flat_map threads_in log.intervals

-- one more interval at its place by first, and several of them, one after the other
abbrev pub put : Interval → List Interval → List Interval
put i [] = i ∷ []
put i (j ∷ rest) = if nat_lt i.first j.first then i ∷ (j ∷ rest) else j ∷ put i rest

abbrev pub put_all : List Interval → List Interval → List Interval
put_all placed [] = placed
put_all placed (i ∷ rest) = put_all (put i placed) rest

-- the intervals in order of first
abbrev pub in_order : List Interval → List Interval
in_order intervals = put_all [] intervals
