-- Why no schedule is derived from a log.
use Rattle.std.specs.Prelude.{ℕ, Some}
use Rattle.vm_model.specs.Program.{PlainProgram}
use Rattle.schedule_log.specs.Logs.{PlainLog}
use Rattle.event_machine.specs.declared.machine.TurnFault.{TurnFault}
use Rattle.event_machine.specs.declared.machine.TurnFault.TheVariants as turn_fault
use Rattle.thread_driver.specs.Recordings.{Diverges}
use Rattle.switch_schedule.specs.declared.derive.DeriveFault.{DeriveFault}
use Rattle.switch_schedule.specs.declared.derive.DeriveFault.TheVariants as fault
use Rattle.switch_schedule.specs.Derivations.{EndsAsTold, NeedsTooMany}

abbrev pub RefusesDerivation : PlainProgram → PlainLog → DeriveFault → Type 0
RefusesDerivation p log (fault.Diverged clock thread) = Diverges p log clock thread
RefusesDerivation p log (fault.TooManySwitches clock) = EndsAsTold p log × NeedsTooMany p log clock
RefusesDerivation p log fault.NoMemory = Unit {0}

-- what a turn's fault, of this thread at this clock, is to a derivation
abbrev pub refusal : TurnFault → ℕ → ℕ → DeriveFault
refusal turn_fault.Over clock thread = fault.Diverged clock (Some thread)
refusal turn_fault.NotLive clock thread = fault.Diverged clock (Some thread)
refusal turn_fault.NotEnabled clock thread = fault.Diverged clock (Some thread)
refusal turn_fault.NoMemory clock thread = fault.NoMemory
