-- When a command does what it was asked for.
use Rattle.std.specs.Prelude.{◌≡◌, ◌≤◌, ℕ, true, List, IsTrue, Some, option_map, take, ◌⊎◌}
use Rattle.vm_model.specs.declared.ends.End.TheVariants as end
use Rattle.vm_model.specs.declared.ends.Fault.{Fault}
use Rattle.vm_model.specs.Ends.{kind_of_end}
use Rattle.vm_model.specs.Program.{PlainProgram}
use Rattle.machine_model.specs.Machine.{MachineState, end_of, run}
use Rattle.schedule_log.specs.Logs.{PlainLog, expansion}
use Rattle.schedule_log.specs.Spelling.{Spells}
use Rattle.switch_schedule.specs.Derivations.{NeedsTooMany}
use Rattle.switch_schedule.specs.Searches.{ends_in_fault, try_times}
use Rattle.switch_schedule.specs.Texts.{SpellsSchedule}
use Rattle.program_reducer.specs.Reductions.{tests_on}
use Rattle.program_isolator.specs.Isolations.{EndsSo, tests_between}
use Rattle.command_line.specs.Requests.{Request, Check, Record, Replay, Show, Derive, Run, Seek, Isolate, Reduce, Races, Tiles, Drill, Unknown}
use Rattle.drill_program.specs.Texts.{drill_text}
use Rattle.tool_stages.specs.declared.status.Status.{Status}
use Rattle.tool_stages.specs.declared.status.Status.TheVariants as status
use Rattle.tool_stages.specs.Accepting.{IsAccepted}
use Rattle.tool_stages.specs.Calls.{FolderCall, SinkCall, HasPutFault, LoadFails, StoreFails}

-- ---- what the folder holds

-- the folder tells its files, and an accepted program is under this name
pub record HasProgram (c : FolderCall) (name : List ℕ) : Type 0 where
  pub told : IsTrue c.told
  pub text : List ℕ
  pub there : c.before name ≡ Some text
  pub of_program : PlainProgram
  pub accepted : IsAccepted text of_program

-- the bytes of a log are under this name
pub record HasLog (c : FolderCall) (name : List ℕ) : Type 0 where
  pub bytes : List ℕ
  pub kept : c.before name ≡ Some bytes
  pub of_log : PlainLog
  pub spelled : Spells of_log bytes

-- the bytes of a schedule for so many events are under this name
pub record HasSchedule (c : FolderCall) (events : ℕ) (name : List ℕ) : Type 0 where
  pub bytes : List ℕ
  pub kept : c.before name ≡ Some bytes
  pub times : List ℕ
  pub spelled : SpellsSchedule events times bytes

-- no load and no put fails
pub record IsUnhindered (c : FolderCall) (s : SinkCall) : Type 0 where
  pub no_load : LoadFails c → ⊥
  pub no_put : HasPutFault s → ⊥

-- ---- runs

-- the log leads the program to an end of the log's kind
pub record RunsTo (p : PlainProgram) (log : PlainLog) : Type 0 where
  pub machine : MachineState
  pub runs : run p (expansion log) ≡ Some machine
  pub ends : option_map kind_of_end (end_of p machine log.budget) ≡ Some log.end

-- the log leads the program up to the clock
pub record RunsUpTo (p : PlainProgram) (log : PlainLog) (clock : ℕ) : Type 0 where
  pub machine : MachineState
  pub runs : run p (take clock (expansion log)) ≡ Some machine

-- ---- commands

pub record CanCheck (c : FolderCall) (s : SinkCall) (program : List ℕ) : Type 0 where
  pub has : HasProgram c program
  pub free : IsUnhindered c s

pub record CanRecord (c : FolderCall) (s : SinkCall) (program : List ℕ) : Type 0 where
  pub has : HasProgram c program
  pub free : IsUnhindered c s
  pub no_store : StoreFails c → ⊥

pub record CanReplay (c : FolderCall) (s : SinkCall) (program log : List ℕ) : Type 0 where
  pub has : HasProgram c program
  pub has_log : HasLog c log
  pub runs : RunsTo has.of_program has_log.of_log
  pub free : IsUnhindered c s

pub record CanShow (c : FolderCall) (s : SinkCall) (program log : List ℕ) (clock : ℕ) : Type 0 where
  pub has : HasProgram c program
  pub has_log : HasLog c log
  pub runs : RunsUpTo has.of_program has_log.of_log clock
  pub free : IsUnhindered c s

pub record CanRun (c : FolderCall) (s : SinkCall) (program schedule : List ℕ) (events : ℕ) : Type 0 where
  pub has : HasProgram c program
  pub has_schedule : HasSchedule c events schedule
  pub free : IsUnhindered c s

-- the log runs to its end's kind, and its schedule has at most 16,384 times
pub record CanDerive (c : FolderCall) (s : SinkCall) (program log : List ℕ) : Type 0 where
  pub has : HasProgram c program
  pub has_log : HasLog c log
  pub runs : RunsTo has.of_program has_log.of_log
  pub few : (clock : ℕ) → NeedsTooMany has.of_program has_log.of_log clock → ⊥
  pub free : IsUnhindered c s
  pub no_store : StoreFails c → ⊥

-- a try ends in a fault
pub record CanSeek (c : FolderCall) (s : SinkCall) (program : List ℕ) (seed tries events : ℕ) : Type 0 where
  pub has : HasProgram c program
  pub at : ℕ
  pub counted : 1 ≤ at
  pub within : at ≤ tries
  pub faulty : ends_in_fault has.of_program events (try_times has.of_program seed events at) ≡ true
  pub free : IsUnhindered c s
  pub no_store : StoreFails c → ⊥

-- the one schedule passes, the other ends in a fault, and the tests that are needed are allowed
pub record CanIsolate (c : FolderCall) (s : SinkCall) (program pass fail : List ℕ) (tests events : ℕ) : Type 0 where
  pub has : HasProgram c program
  pub has_pass : HasSchedule c events pass
  pub has_fail : HasSchedule c events fail
  pub fault : Fault
  pub passes : EndsSo has.of_program events has_pass.times end.Done
  pub fails : EndsSo has.of_program events has_fail.times (end.Fault fault)
  pub enough : tests_between has.of_program events fault has_pass.times has_fail.times ≤ tests
  pub free : IsUnhindered c s

-- the schedule ends in a fault, and the tests that are needed are allowed
pub record CanReduce (c : FolderCall) (s : SinkCall) (program fail : List ℕ) (tests events : ℕ) : Type 0 where
  pub has : HasProgram c program
  pub has_fail : HasSchedule c events fail
  pub fault : Fault
  pub fails : EndsSo has.of_program events has_fail.times (end.Fault fault)
  pub enough : tests_on has.of_program events fault has_fail.times ≤ tests
  pub free : IsUnhindered c s
  pub no_store : StoreFails c → ⊥

-- a log is under this name
pub record CanTile (c : FolderCall) (s : SinkCall) (log : List ℕ) : Type 0 where
  pub told : IsTrue c.told
  pub has_log : HasLog c log
  pub free : IsUnhindered c s

-- the drill's text is that of a program
pub record CanDrill (c : FolderCall) (s : SinkCall) (workers : ℕ) : Type 0 where
  pub of_program : PlainProgram
  pub accepted : IsAccepted (drill_text workers) of_program
  pub free : IsUnhindered c s
  pub no_store : StoreFails c → ⊥

-- nothing stands in the way of what is asked for
abbrev pub CanDo : Request → FolderCall → SinkCall → Type 0
CanDo (Check program) c s = CanCheck c s program
CanDo (Record program log lanes events) c s = CanRecord c s program
CanDo (Replay program log lanes) c s = CanReplay c s program log
CanDo (Show program log clock) c s = CanShow c s program log clock
CanDo (Run program schedule events) c s = CanRun c s program schedule events
CanDo (Derive program log schedule) c s = CanDerive c s program log
CanDo (Seek program seed tries schedule events) c s = CanSeek c s program seed tries events
CanDo (Isolate program pass fail tests workers events) c s = CanIsolate c s program pass fail tests events
CanDo (Reduce program fail schedule tests events) c s = CanReduce c s program fail tests events
CanDo (Races program log) c s = CanReplay c s program log
CanDo (Tiles log) c s = CanTile c s log
CanDo (Drill workers program) c s = CanDrill c s workers
CanDo Unknown c s = ⊥

-- then it is done, unless memory runs out
abbrev pub IsComplete : Request → FolderCall → SinkCall → Status → Type 0
IsComplete asked c s answer = CanDo asked c s → (answer ≡ status.Ok) ⊎ (answer ≡ status.OutOfMemory)
