-- The isolation of a failure of a program, and why there is none.
use Rattle.std.specs.Prelude.{◌≡◌, ◌≢◌, ◌<◌, ◌≤◌, ℕ, List, Some}
use Rattle.vm_model.specs.declared.ends.End.{End}
use Rattle.vm_model.specs.declared.ends.End.TheVariants as end
use Rattle.vm_model.specs.declared.ends.Fault.{Fault}
use Rattle.vm_model.specs.Program.{PlainProgram}
use Rattle.machine_model.specs.Machine.{run}
use Rattle.machine_model.specs.Ring.{schedule_threads}
use Rattle.schedule_model.specs.declared.isolated.Isolated.{Isolated}
use Rattle.schedule_model.specs.Outcomes.{end_under, outcome_of}
use Rattle.dd_isolator.specs.Shifts.{padded, units}
use Rattle.dd_isolator.specs.OneMinimal.{IsOneMinimal}
use Rattle.dd_isolator.specs.Search.{last_pair, tests_needed, unresolved_count}
use Rattle.program_isolator.specs.declared.refusal.IsolationRefusal.{IsolationRefusal}
use Rattle.program_isolator.specs.declared.refusal.IsolationRefusal.TheVariants as refusal

-- the run of this schedule ends so
abbrev pub EndsSo : PlainProgram → ℕ → List ℕ → End → Type 0
EndsSo p events times e = end_under p events (run p (schedule_threads p times events)) ≡ Some e

-- how many tests the search makes between two schedules of a program, against a fault
abbrev pub tests_between : PlainProgram → ℕ → Fault → List ℕ → List ℕ → ℕ
tests_between p events fault passing failing = tests_needed (outcome_of p events fault) (padded events passing failing) (padded events failing passing)

-- What was found between two schedules, against a fault: they stand between the padded ones, one passes and one fails alike,
-- and no unit shift narrows their difference; they are those at which the search ends, and so many tests it makes.
pub record IsFoundBetween (p : PlainProgram) (events : ℕ) (passing failing : List ℕ) (fault : Fault) (found : Isolated) : Type 0 where
  pub isolated : IsOneMinimal (outcome_of p events fault) (padded events passing failing) (padded events failing passing) found.pass found.fail
  pub last : (found.pass, found.fail) ≡ last_pair (outcome_of p events fault) (padded events passing failing) (padded events failing passing)
  pub units_apart : found.units ≡ units found.pass found.fail
  pub made : found.asked ≡ tests_between p events fault passing failing
  pub left_open : found.unresolved ≡ unresolved_count (outcome_of p events fault) (padded events passing failing) (padded events failing passing)

-- the first schedule passes, the second one ends in a fault, the tests are allowed, and this was found against that fault
pub record IsIsolation (p : PlainProgram) (events : ℕ) (passing failing : List ℕ) (budget : ℕ) (found : Isolated) : Type 0 where
  pub fault : Fault
  pub passes : EndsSo p events passing end.Done
  pub fails : EndsSo p events failing (end.Fault fault)
  pub allowed : tests_between p events fault passing failing ≤ budget
  pub is_found : IsFoundBetween p events passing failing fault found

abbrev pub IsNoFault : End → Type 0
IsNoFault e = (fault : Fault) → e ≢ end.Fault fault

-- the first schedule passes, the second one ends in a fault, and more tests are needed than the budget allows
pub record NeedsMore (p : PlainProgram) (events : ℕ) (passing failing : List ℕ) (budget : ℕ) : Type 0 where
  pub fault : Fault
  pub passes : EndsSo p events passing end.Done
  pub fails : EndsSo p events failing (end.Fault fault)
  pub more : budget < tests_between p events fault passing failing

-- why there is none
abbrev pub Refuses : PlainProgram → ℕ → List ℕ → List ℕ → ℕ → IsolationRefusal → Type 0
Refuses p events passing failing budget (refusal.NotPassing e) = EndsSo p events passing e × (e ≢ end.Done)
Refuses p events passing failing budget (refusal.NotFailing e) = EndsSo p events passing end.Done × EndsSo p events failing e × IsNoFault e
Refuses p events passing failing budget (refusal.TestsSpent asked) = (asked ≡ budget) × NeedsMore p events passing failing budget
Refuses p events passing failing budget refusal.NoMemory = Unit {0}
