-- Why a replay gives no recording.
use Rattle.std.specs.Prelude.{ℕ, ◌<◌, Option, Some, None}
use Rattle.vm_model.specs.Program.{PlainProgram}
use Rattle.schedule_log.specs.Logs.{PlainLog}
use Rattle.event_machine.specs.declared.machine.TurnFault.{TurnFault}
use Rattle.event_machine.specs.declared.machine.TurnFault.TheVariants as turn_fault
use Rattle.thread_driver.specs.Recordings.{Diverges, DivergesAt}
use Rattle.thread_driver.specs.declared.replay.ReplayFault.{ReplayFault}
use Rattle.thread_driver.specs.declared.replay.ReplayFault.TheVariants as fault

abbrev pub Refuses : PlainProgram → PlainLog → ReplayFault → Type 0
Refuses p log (fault.Diverged clock thread) = Diverges p log clock thread
Refuses p log fault.NoMemory = Unit {0}

-- the turn of this thread at this clock is the first of the log that isn't defined, and it is one of the first so many
abbrev pub DivergesBefore : PlainProgram → PlainLog → ℕ → ℕ → Option ℕ → Type 0
DivergesBefore p log count clock (Some thread) = DivergesAt p log clock thread × (clock < count)
DivergesBefore p log count clock None = ⊥

-- why the log's first events, so many, aren't all made
abbrev pub RefusesBefore : PlainProgram → PlainLog → ℕ → ReplayFault → Type 0
RefusesBefore p log count (fault.Diverged clock thread) = DivergesBefore p log count clock thread
RefusesBefore p log count fault.NoMemory = Unit {0}

-- what a turn's fault, of this thread at this clock, is to a replay
abbrev pub refusal : TurnFault → ℕ → ℕ → ReplayFault
refusal turn_fault.Over clock thread = fault.Diverged clock (Some thread)
refusal turn_fault.NotLive clock thread = fault.Diverged clock (Some thread)
refusal turn_fault.NotEnabled clock thread = fault.Diverged clock (Some thread)
refusal turn_fault.NoMemory clock thread = fault.NoMemory
