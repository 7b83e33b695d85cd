-- What the run of a schedule leaves.
use Rattle.std.specs.Prelude.{◌≡◌, ℕ, List, Some}
use Rattle.std.specs.List.{flat_map}
use Rattle.vm_model.specs.declared.ends.End.{End}
use Rattle.vm_model.specs.Program.{PlainProgram}
use Rattle.machine_model.specs.Machine.{MachineState, end_of, run}
use Rattle.machine_model.specs.Ring.{schedule_threads}
use Rattle.schedule_log.specs.declared.interval.Interval.{Interval}
use Rattle.schedule_log.specs.Intervals.{clock_count, IsInOrder, Tiles}
use Rattle.schedule_log.specs.Logs.{threads_in}

-- The intervals, the number of events, the output and the end are those of the run of a schedule.
pub record IsRunOf (p : PlainProgram) (times : List ℕ) (budget : ℕ) (intervals : List Interval) (clock : ℕ) (output : List ℕ) (e : End) : Type 0 where
  pub machine : MachineState
  pub runs : run p (schedule_threads p times budget) ≡ Some machine
  pub threads : flat_map threads_in intervals ≡ schedule_threads p times budget
  pub in_order : IsInOrder intervals
  pub tiles : Tiles clock intervals
  pub made : clock_count intervals ≡ clock
  pub ended : end_of p machine budget ≡ Some e
  pub printed : output ≡ machine.world.output
