-- What a recording says of a run, and where a log parts from its program.
use Rattle.std.specs.Prelude.{◌≡◌, ◌≢◌, ◌-◌, ◌++◌, ℕ, List, [], Option, Some, None, length, option_map, slice_get, take}
use Rattle.vm_model.specs.declared.ends.End.{End}
use Rattle.vm_model.specs.Ends.{kind_of_end}
use Rattle.vm_model.specs.Program.{PlainProgram}
use Rattle.machine_model.specs.Machine.{MachineState, end_of, run, threads_of, turn}
use Rattle.machine_model.specs.Ring.{scheduled_from}
use Rattle.schedule_log.specs.Logs.{PlainLog, IsLawful, events, expansion}

-- The log, the output and the end are those of one run of the program: the log is lawful, its threads lead to a machine that
-- has an end under the log's budget, the log keeps the kind of that end, and the output is the machine's.
pub record IsRecording (p : PlainProgram) (log : PlainLog) (output : List ℕ) (e : End) : Type 0 where
  pub lawful : IsLawful log
  pub machine : MachineState
  pub runs : run p (expansion log) ≡ Some machine
  pub ended : end_of p machine log.budget ≡ Some e
  pub kind : log.end ≡ kind_of_end e
  pub printed : output ≡ machine.world.output

-- the turn of this thread at this clock is the first of the log that isn't defined
pub record DivergesAt (p : PlainProgram) (log : PlainLog) (clock thread : ℕ) : Type 0 where
  pub machine : MachineState
  pub runs : run p (take clock (expansion log)) ≡ Some machine
  pub at_clock : slice_get (expansion log) clock ≡ Some thread
  pub undefined : turn p machine thread ≡ None

-- all turns are defined, and the machine after them ends otherwise than the log says, or not at all
pub record DivergesAtEnd (p : PlainProgram) (log : PlainLog) (clock : ℕ) : Type 0 where
  pub machine : MachineState
  pub runs : run p (expansion log) ≡ Some machine
  pub all_made : clock ≡ events log
  pub ends : option_map kind_of_end (end_of p machine log.budget) ≢ Some log.end

abbrev pub Diverges : PlainProgram → PlainLog → ℕ → Option ℕ → Type 0
Diverges p log clock (Some thread) = DivergesAt p log clock thread
Diverges p log clock None = DivergesAtEnd p log clock

-- the threads of the run so far, and then those by the ring without switches, from this thread on
abbrev pub threads_on : PlainProgram → MachineState → ℕ → ℕ → List ℕ
threads_on p m t budget = threads_of m.history ++ scheduled_from p [] budget m t (budget - length m.history)
