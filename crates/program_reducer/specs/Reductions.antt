-- The reduction of a failing schedule of a program, and why there is none.
use Rattle.std.specs.Prelude.{◌≡◌, ◌<◌, ◌≤◌, ℕ, List}
use Rattle.vm_model.specs.declared.ends.End.TheVariants as end
use Rattle.vm_model.specs.declared.ends.Fault.{Fault}
use Rattle.vm_model.specs.Program.{PlainProgram}
use Rattle.schedule_model.specs.Outcomes.{outcome_of}
use Rattle.program_isolator.specs.Isolations.{EndsSo, IsNoFault}
use Rattle.switch_reducer.specs.declared.search.Reduced.{Reduced}
use Rattle.switch_reducer.specs.Reduced.{IsReduced}
use Rattle.switch_reducer.specs.Search.{reduced_schedule, tests_needed, unresolved_count}
use Rattle.program_reducer.specs.declared.refusal.ReductionRefusal.{ReductionRefusal}
use Rattle.program_reducer.specs.declared.refusal.ReductionRefusal.TheVariants as refusal

-- how many tests the work on a schedule of a program makes, against a fault
abbrev pub tests_on : PlainProgram → ℕ → Fault → List ℕ → ℕ
tests_on p events fault failing = tests_needed (outcome_of p events fault) failing

-- What is left of a failing schedule, against its fault: its run ends in the very fault, it has no time more often, and
-- without any one of its times the run ends otherwise; it is where the work ends, and so many tests that makes.
pub record IsLeftOf (p : PlainProgram) (events : ℕ) (failing : List ℕ) (fault : Fault) (found : Reduced) : Type 0 where
  pub ends_alike : EndsSo p events found.schedule (end.Fault fault)
  pub reduced : IsReduced (outcome_of p events fault) failing found.schedule
  pub last : found.schedule ≡ reduced_schedule (outcome_of p events fault) failing
  pub made : found.asked ≡ tests_on p events fault failing
  pub left_open : found.unresolved ≡ unresolved_count (outcome_of p events fault) failing

-- the schedule ends in a fault, the tests are allowed, and this is left of it against that fault
pub record IsReduction (p : PlainProgram) (events : ℕ) (failing : List ℕ) (budget : ℕ) (found : Reduced) : Type 0 where
  pub fault : Fault
  pub fails : EndsSo p events failing (end.Fault fault)
  pub allowed : tests_on p events fault failing ≤ budget
  pub is_left : IsLeftOf p events failing fault found

-- the schedule ends in a fault, and more tests are needed than the budget allows
pub record NeedsMore (p : PlainProgram) (events : ℕ) (failing : List ℕ) (budget : ℕ) : Type 0 where
  pub fault : Fault
  pub fails : EndsSo p events failing (end.Fault fault)
  pub more : budget < tests_on p events fault failing

-- why there is none
abbrev pub Refuses : PlainProgram → ℕ → List ℕ → ℕ → ReductionRefusal → Type 0
Refuses p events failing budget (refusal.NotFailing e) = EndsSo p events failing e × IsNoFault e
Refuses p events failing budget (refusal.TestsSpent asked) = (asked ≡ budget) × NeedsMore p events failing budget
Refuses p events failing budget refusal.NoMemory = Unit {0}
