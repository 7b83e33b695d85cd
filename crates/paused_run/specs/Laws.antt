-- What schedules share that agree below a clock.
use Rattle.std.specs.Prelude.{◌≡◌, ℕ, List, length, take}
use Rattle.vm_model.specs.Program.{PlainProgram}
use Rattle.machine_model.specs.Machine.{MachineState}
use Rattle.machine_model.specs.Ring.{schedule_threads}
use Rattle.schedule_model.specs.Schedules.{Agree}
use Rattle.paused_run.specs.Pauses.{IsAfterFirst}

-- schedules that agree below a clock have the same threads up to it
abbrev pub AgreeingBeginAlike : Type 0
AgreeingBeginAlike = (p : PlainProgram) (budget clock : ℕ) (xs ys : List ℕ) → Agree clock xs ys → take clock (schedule_threads p xs budget) ≡ take clock (schedule_threads p ys budget)

-- and what is after the first events of the one, up to that clock, is after the first events of the other
abbrev pub AgreeingShareFirst : Type 0
AgreeingShareFirst =
    (p : PlainProgram) (budget : ℕ) (xs ys : List ℕ) (m : MachineState) (thread : ℕ) → Agree (length m.history) xs ys → IsAfterFirst p xs budget m thread → IsAfterFirst p ys budget m thread
