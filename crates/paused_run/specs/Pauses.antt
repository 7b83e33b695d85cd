-- Runs of schedules that are paused.
use Rattle.std.specs.Prelude.{◌≡◌, ◌≤◌, ℕ, false, List, length, take, Some}
use Rattle.vm_model.specs.Program.{PlainProgram}
use Rattle.machine_model.specs.Machine.{MachineState, run}
use Rattle.machine_model.specs.Ring.{schedule_threads}
use Rattle.event_machine.specs.MachineView.{MachineView, machine_of, IsMachineOf}
use Rattle.switch_schedule.specs.Derivations.{thread_before}

-- a machine, the current thread, and the schedule that it was run by
pub record PausedRun : Type 0 where
  pub machine : MachineView
  pub thread : ℕ
  pub times : List ℕ

-- The machine is the one after the first events of the run of a schedule, and the current thread is the one of the last of them.
pub record IsAfterFirst (p : PlainProgram) (times : List ℕ) (budget : ℕ) (m : MachineState) (thread : ℕ) : Type 0 where
  pub within : length m.history ≤ length (schedule_threads p times budget)
  pub runs : run p (take (length m.history) (schedule_threads p times budget)) ≡ Some m
  pub current : thread ≡ thread_before (schedule_threads p times budget) (length m.history)

-- A paused run of the program: unless it is broken, it is after the first events of the run of its schedule.
pub record IsPausedOf (p : PlainProgram) (r : PausedRun) : Type 0 where
  pub own : IsMachineOf p r.machine
  pub first : r.machine.is_broken ≡ false → IsAfterFirst p r.times r.machine.world.budget (machine_of r.machine) r.thread

-- how many events it has made
abbrev pub clock_of : PausedRun → ℕ
clock_of r = length r.machine.world.history
