-- What is printed of runs.
use Rattle.std.specs.Prelude.{◌≡◌, ◌≢◌, ℕ, ◌+◌, List, [], ◌++◌, length, Option, Some, option_map, take, codes}
use Rattle.vm_model.specs.declared.ends.End.{End}
use Rattle.vm_model.specs.declared.ends.End.TheVariants as end_of_run
use Rattle.vm_model.specs.declared.limits.TheConstants.{MOST_EVENTS}
use Rattle.vm_model.specs.Ends.{kind_of_end}
use Rattle.vm_model.specs.Program.{PlainProgram}
use Rattle.machine_model.specs.Machine.{MachineState, end_of, run}
use Rattle.machine_model.specs.Ring.{schedule_threads}
use Rattle.schedule_log.specs.declared.interval.Interval.{Interval}
use Rattle.schedule_log.specs.Logs.{PlainLog, events, expansion}
use Rattle.schedule_log.specs.Spelling.{Spells}
use Rattle.thread_driver.specs.Answers.{DivergesBefore}
use Rattle.thread_driver.specs.Recordings.{Diverges}
use Rattle.schedule_model.specs.declared.isolated.Isolated.{Isolated}
use Rattle.switch_schedule.specs.declared.run.Ran.{Ran}
use Rattle.switch_schedule.specs.Derivations.{EndsAsTold, IsDerived, NeedsTooMany}
use Rattle.switch_schedule.specs.Runs.{IsRunOf}
use Rattle.switch_schedule.specs.Searches.{IsFirstFault, NoneBelow}
use Rattle.switch_schedule.specs.Texts.{SpellsSchedule}
use Rattle.program_isolator.specs.Isolations.{EndsSo, IsIsolation, IsNoFault, NeedsMore}
use Rattle.switch_reducer.specs.declared.search.Reduced.{Reduced}
use Rattle.program_reducer.specs.Reductions as reduction
use Rattle.race_report.specs.declared.race.Race.{Race}
use Rattle.race_report.specs.Races.{IsReport}
use Rattle.report_writer.specs.Reduced.{reduced_text}
use Rattle.report_writer.specs.State.{state_text}
use Rattle.report_writer.specs.Texts.{counted, isolated_text, races_text, run_text}
use Rattle.tool_stages.specs.declared.status.Status.{Status}
use Rattle.tool_stages.specs.declared.status.Status.TheVariants as status
use Rattle.tool_stages.specs.Lines.{diverged_line, not_failing_line, not_found_line, not_passing_line, tests_spent_line, too_many_line}

-- the log's threads lead the program to an end of the log's kind, and that run is what is printed
pub record TellsRun (p : PlainProgram) (log : PlainLog) (printed : List ℕ) : Type 0 where
  pub machine : MachineState
  pub runs : run p (expansion log) ≡ Some machine
  pub end : End
  pub ended : end_of p machine log.budget ≡ Some end
  pub kind : log.end ≡ kind_of_end end
  pub prints : printed ≡ run_text p (events log) (length log.intervals) end machine.world.output

-- The bytes spell the log of a run of the program, of at most so many events, and that run is what is printed. On one lane it
-- is the run by the ring without switches.
pub record TellsRecording (p : PlainProgram) (lanes budget : ℕ) (bytes printed : List ℕ) : Type 0 where
  pub log : PlainLog
  pub spelled : Spells log bytes
  pub budget_is : log.budget ≡ budget
  pub scheduled : lanes ≡ 1 → expansion log ≡ schedule_threads p [] budget
  pub run : TellsRun p log printed

-- the run of a schedule, of at most so many events, is what is printed
pub record TellsScheduled (p : PlainProgram) (times : List ℕ) (budget : ℕ) (printed : List ℕ) : Type 0 where
  pub intervals : List Interval
  pub clock : ℕ
  pub output : List ℕ
  pub end : End
  pub run : IsRunOf p times budget intervals clock output end
  pub prints : printed ≡ run_text p clock (length intervals) end output

-- the state after the log's events below the clock is what is printed
pub record TellsState (p : PlainProgram) (log : PlainLog) (clock : ℕ) (printed : List ℕ) : Type 0 where
  pub machine : MachineState
  pub runs : run p (take clock (expansion log)) ≡ Some machine
  pub prints : printed ≡ state_text p machine

-- the bytes spell the schedule that is derived from the log, and how many times it has is what is printed
pub record TellsDerived (p : PlainProgram) (log : PlainLog) (bytes printed : List ℕ) : Type 0 where
  pub times : List ℕ
  pub derived : IsDerived p log times
  pub told : EndsAsTold p log
  pub spelled : SpellsSchedule MOST_EVENTS times bytes
  pub prints : printed ≡ counted (codes "switches") (length times)

-- the bytes spell the first try of the seed whose run ends in a fault, and that run is what is printed after the try's number
pub record TellsSought (p : PlainProgram) (seed tries events : ℕ) (bytes printed : List ℕ) : Type 0 where
  pub at : ℕ
  pub times : List ℕ
  pub ran : Ran
  pub first : IsFirstFault p seed tries events at times ran
  pub spelled : SpellsSchedule MOST_EVENTS times bytes
  pub prints : printed ≡ counted (codes "found at try") at ++ run_text p ran.clock (length ran.intervals.items) ran.end ran.output.items

-- the pair of schedules that no shift of a single time by one brings nearer to each other is what is printed
pub record TellsIsolated (p : PlainProgram) (events : ℕ) (passing failing : List ℕ) (tests : ℕ) (printed : List ℕ) : Type 0 where
  pub found : Isolated
  pub isolation : IsIsolation p events passing failing tests found
  pub prints : printed ≡ isolated_text found.pass found.fail found.units found.asked found.unresolved

-- the bytes spell what is left of the failing schedule, and how many of its times were kept, by how many tests, is what is printed
pub record TellsReduced (p : PlainProgram) (events : ℕ) (failing : List ℕ) (tests : ℕ) (bytes printed : List ℕ) : Type 0 where
  pub found : Reduced
  pub reduction : reduction.IsReduction p events failing tests found
  pub spelled : SpellsSchedule MOST_EVENTS found.schedule bytes
  pub prints : printed ≡ reduced_text failing found.schedule found.asked found.unresolved

-- the log leads the program to an end of its kind, and the races of that run are what is printed
pub record TellsRaces (p : PlainProgram) (log : PlainLog) (printed : List ℕ) : Type 0 where
  pub machine : MachineState
  pub runs : run p (expansion log) ≡ Some machine
  pub ends : option_map kind_of_end (end_of p machine log.budget) ≡ Some log.end
  pub found : List Race
  pub report : IsReport machine.history found
  pub prints : printed ≡ races_text p found

-- ---- a log that the program doesn't follow

-- the first turn of the log that the program doesn't make, or the end that isn't the log's
pub record TellsDivergence (p : PlainProgram) (log : PlainLog) (printed : List ℕ) : Type 0 where
  pub clock : ℕ
  pub thread : Option ℕ
  pub diverges : Diverges p log clock thread
  pub prints : printed ≡ diverged_line clock thread

-- the first turn of the log that the program doesn't make, where it is one of the first so many
pub record TellsEarlyDivergence (p : PlainProgram) (log : PlainLog) (count : ℕ) (printed : List ℕ) : Type 0 where
  pub clock : ℕ
  pub thread : Option ℕ
  pub diverges : DivergesBefore p log count clock thread
  pub prints : printed ≡ diverged_line clock thread

-- the log leads the program to no end of the log's kind
abbrev pub RunStops : PlainProgram → PlainLog → Status → List ℕ → Type 0
RunStops p log status.Diverged printed = TellsDivergence p log printed
RunStops p log _ printed = ⊥

-- the log doesn't lead the program up to the clock
abbrev pub StateStops : PlainProgram → PlainLog → ℕ → Status → List ℕ → Type 0
StateStops p log clock status.Diverged printed = TellsEarlyDivergence p log clock printed
StateStops p log clock _ printed = ⊥

-- the schedule of the log's run would have more than 16,384 times, and this is the clock of the next one
pub record TellsTooMany (p : PlainProgram) (log : PlainLog) (printed : List ℕ) : Type 0 where
  pub clock : ℕ
  pub told : EndsAsTold p log
  pub more : NeedsTooMany p log clock
  pub prints : printed ≡ too_many_line clock

-- no schedule is derived from the log
abbrev pub DeriveStops : PlainProgram → PlainLog → Status → List ℕ → Type 0
DeriveStops p log status.Diverged printed = TellsDivergence p log printed
DeriveStops p log status.ScheduleRefused printed = TellsTooMany p log printed
DeriveStops p log _ printed = ⊥

-- ---- schedules that lead to no answer

-- no try of the seed ends in a fault
abbrev pub SeekStops : PlainProgram → ℕ → ℕ → ℕ → Status → List ℕ → Type 0
SeekStops p seed tries events status.NotFound printed = NoneBelow p seed events (tries + 1) × (printed ≡ not_found_line tries)
SeekStops p seed tries events _ printed = ⊥

-- the run of the schedule that should pass ends otherwise
pub record TellsNotPassing (p : PlainProgram) (events : ℕ) (passing printed : List ℕ) : Type 0 where
  pub end : End
  pub ends : EndsSo p events passing end
  pub other : end ≢ end_of_run.Done
  pub prints : printed ≡ not_passing_line p end

-- the run of the schedule that should fail ends in no fault
pub record TellsNotFailing (p : PlainProgram) (events : ℕ) (passing failing printed : List ℕ) : Type 0 where
  pub passes : EndsSo p events passing end_of_run.Done
  pub end : End
  pub ends : EndsSo p events failing end
  pub no_fault : IsNoFault end
  pub prints : printed ≡ not_failing_line p end

-- nothing is isolated
abbrev pub IsolateStops : PlainProgram → ℕ → List ℕ → List ℕ → ℕ → Status → List ℕ → Type 0
IsolateStops p events passing failing tests status.NotPassing printed = TellsNotPassing p events passing printed
IsolateStops p events passing failing tests status.NotFailing printed = TellsNotFailing p events passing failing printed
IsolateStops p events passing failing tests status.TestsSpent printed = NeedsMore p events passing failing tests × (printed ≡ tests_spent_line tests)
IsolateStops p events passing failing tests _ printed = ⊥

-- the run of the schedule that should fail ends in no fault
pub record TellsNoFault (p : PlainProgram) (events : ℕ) (failing printed : List ℕ) : Type 0 where
  pub end : End
  pub ends : EndsSo p events failing end
  pub no_fault : IsNoFault end
  pub prints : printed ≡ not_failing_line p end

-- nothing is reduced
abbrev pub ReduceStops : PlainProgram → ℕ → List ℕ → ℕ → Status → List ℕ → Type 0
ReduceStops p events failing tests status.NotFailing printed = TellsNoFault p events failing printed
ReduceStops p events failing tests status.TestsSpent printed = reduction.NeedsMore p events failing tests × (printed ≡ tests_spent_line tests)
ReduceStops p events failing tests _ printed = ⊥
