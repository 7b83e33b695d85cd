-- What each status of a command says.
use Rattle.std.specs.Prelude.{◌≡◌, ℕ, List, ◌++◌, IsTrue, codes, ◌⊎◌}
use Rattle.tool_io.specs.Outside.{raised_count}
use Rattle.vm_model.specs.Program.{PlainProgram}
use Rattle.schedule_log.specs.Logs.{PlainLog}
use Rattle.command_line.specs.Requests.{Request, Check, Record, Replay, Show, Derive, Run, Seek, Isolate, Reduce, Races, Tiles, Drill, Unknown}
use Rattle.report_writer.specs.Tiles.{tiles_text}
use Rattle.drill_program.specs.Texts.{drill_text}
use Rattle.vm_model.specs.declared.limits.TheConstants.{MOST_EVENTS}
use Rattle.tool_stages.specs.declared.halt.Halt.{Halt}
use Rattle.tool_stages.specs.declared.halt.Halt.TheVariants as halt
use Rattle.tool_stages.specs.declared.status.Status.{Status}
use Rattle.tool_stages.specs.declared.status.Status.TheVariants as status
use Rattle.tool_stages.specs.Calls.{FolderCall, SinkCall, Stores, IsUntouched, Puts, PutsNothing, PutFails}
use Rattle.tool_stages.specs.Accepting.{IsAccepted}
use Rattle.tool_stages.specs.Files.{LoadsProgram, LoadsLog, LoadsSchedule, ProgramStops, LogStops, RefusesText, ScheduleStops}
use Rattle.tool_stages.specs.Lines.{usage_line}
use Rattle.tool_stages.specs.Stages.{CountsTold, LosesFile}
use Rattle.dejavu_tool.specs.Checking.{check_text, count_line}
use Rattle.dejavu_tool.specs.Runs.{DeriveStops, IsolateStops, ReduceStops, RunStops, SeekStops, StateStops, TellsDerived, TellsIsolated, TellsRaces, TellsRecording, TellsReduced, TellsRun, TellsScheduled, TellsSought, TellsState}

-- ---- what is done, and printed

-- a check: no file changes, and the counts of the program are printed
pub record Checks (c : FolderCall) (program printed : List ℕ) : Type 0 where
  pub of_program : PlainProgram
  pub loads : LoadsProgram c program of_program
  pub prints : printed ≡ check_text of_program
  pub untouched : IsUntouched c

-- a recording: the log is stored, no other file changes, and the run is printed
pub record Records (c : FolderCall) (program log : List ℕ) (lanes events : ℕ) (printed : List ℕ) : Type 0 where
  pub of_program : PlainProgram
  pub loads : LoadsProgram c program of_program
  pub bytes : List ℕ
  pub run : TellsRecording of_program lanes events bytes printed
  pub stored : Stores c log bytes

-- a replay: no file changes, and the run of the log is printed
pub record Replays (c : FolderCall) (program log printed : List ℕ) : Type 0 where
  pub of_program : PlainProgram
  pub loads : LoadsProgram c program of_program
  pub of_log : PlainLog
  pub loads_log : LoadsLog c log of_log
  pub run : TellsRun of_program of_log printed
  pub untouched : IsUntouched c

-- no file changes, and the state after the log's events below the clock is printed
pub record Shows (c : FolderCall) (program log : List ℕ) (clock : ℕ) (printed : List ℕ) : Type 0 where
  pub of_program : PlainProgram
  pub loads : LoadsProgram c program of_program
  pub of_log : PlainLog
  pub loads_log : LoadsLog c log of_log
  pub state : TellsState of_program of_log clock printed
  pub untouched : IsUntouched c

-- no file changes, and the run of the schedule is printed
pub record Runs (c : FolderCall) (program schedule : List ℕ) (events : ℕ) (printed : List ℕ) : Type 0 where
  pub of_program : PlainProgram
  pub loads : LoadsProgram c program of_program
  pub times : List ℕ
  pub loads_schedule : LoadsSchedule c events schedule times
  pub run : TellsScheduled of_program times events printed
  pub untouched : IsUntouched c

-- the schedule of the log's run is stored, no other file changes, and how many times it has is printed
pub record Derives (c : FolderCall) (program log schedule printed : List ℕ) : Type 0 where
  pub of_program : PlainProgram
  pub loads : LoadsProgram c program of_program
  pub of_log : PlainLog
  pub loads_log : LoadsLog c log of_log
  pub bytes : List ℕ
  pub derived : TellsDerived of_program of_log bytes printed
  pub stored : Stores c schedule bytes

-- the first failing try is stored, no other file changes, and its run is printed
pub record Seeks (c : FolderCall) (program : List ℕ) (seed tries : ℕ) (schedule : List ℕ) (events : ℕ) (printed : List ℕ) : Type 0 where
  pub of_program : PlainProgram
  pub loads : LoadsProgram c program of_program
  pub bytes : List ℕ
  pub sought : TellsSought of_program seed tries events bytes printed
  pub stored : Stores c schedule bytes

-- no file changes, and the two schedules that are found between the given ones are printed
pub record Isolates (c : FolderCall) (program pass fail : List ℕ) (tests events : ℕ) (printed : List ℕ) : Type 0 where
  pub of_program : PlainProgram
  pub loads : LoadsProgram c program of_program
  pub passing : List ℕ
  pub loads_pass : LoadsSchedule c events pass passing
  pub failing : List ℕ
  pub loads_fail : LoadsSchedule c events fail failing
  pub isolated : TellsIsolated of_program events passing failing tests printed
  pub untouched : IsUntouched c

-- what is left of the failing schedule is stored, no other file changes, and how much it is is printed
pub record Reduces (c : FolderCall) (program fail schedule : List ℕ) (tests events : ℕ) (printed : List ℕ) : Type 0 where
  pub of_program : PlainProgram
  pub loads : LoadsProgram c program of_program
  pub failing : List ℕ
  pub loads_fail : LoadsSchedule c events fail failing
  pub bytes : List ℕ
  pub reduced : TellsReduced of_program events failing tests bytes printed
  pub stored : Stores c schedule bytes

-- no file changes, and the races of the log's run are printed
pub record ReportsRaces (c : FolderCall) (program log printed : List ℕ) : Type 0 where
  pub of_program : PlainProgram
  pub loads : LoadsProgram c program of_program
  pub of_log : PlainLog
  pub loads_log : LoadsLog c log of_log
  pub races : TellsRaces of_program of_log printed
  pub untouched : IsUntouched c

-- no file changes, and the intervals of the log are printed
pub record ListsTiles (c : FolderCall) (log printed : List ℕ) : Type 0 where
  pub of_log : PlainLog
  pub loads_log : LoadsLog c log of_log
  pub prints : printed ≡ tiles_text of_log
  pub untouched : IsUntouched c

-- The text is that of a program. Its recording by the ring without switches is printed, after how many workers it has.
pub record TellsDrill (text : List ℕ) (workers : ℕ) (printed : List ℕ) : Type 0 where
  pub of_program : PlainProgram
  pub accepted : IsAccepted text of_program
  pub bytes : List ℕ
  pub run_printed : List ℕ
  pub run : TellsRecording of_program 1 MOST_EVENTS bytes run_printed
  pub prints : printed ≡ count_line (codes "drill ") workers ++ run_printed

-- the drill's program is stored, no other file changes, and the recording of it is printed
pub record Drills (c : FolderCall) (workers : ℕ) (program printed : List ℕ) : Type 0 where
  pub tells : TellsDrill (drill_text workers) workers printed
  pub stored : Stores c program (drill_text workers)

-- ---- where a command stops

-- the program was accepted, and then this comes
pub record StopsAfterProgram (c : FolderCall) (program : List ℕ) (stops : PlainProgram → Type 0) : Type 0 where
  pub of_program : PlainProgram
  pub loads : LoadsProgram c program of_program
  pub stop : stops of_program

-- both files were accepted, and then this comes
pub record StopsAfterLog (c : FolderCall) (program log : List ℕ) (stops : PlainProgram → PlainLog → Type 0) : Type 0 where
  pub of_program : PlainProgram
  pub loads : LoadsProgram c program of_program
  pub of_log : PlainLog
  pub loads_log : LoadsLog c log of_log
  pub stop : stops of_program of_log

-- both files were accepted, and then this comes
pub record StopsAfterSchedule (c : FolderCall) (program schedule : List ℕ) (events : ℕ) (stops : PlainProgram → List ℕ → Type 0) : Type 0 where
  pub of_program : PlainProgram
  pub loads : LoadsProgram c program of_program
  pub times : List ℕ
  pub loads_schedule : LoadsSchedule c events schedule times
  pub stop : stops of_program times

-- all three files were accepted, and then this comes
pub record StopsAfterSchedules (c : FolderCall) (program pass fail : List ℕ) (events : ℕ) (stops : PlainProgram → List ℕ → List ℕ → Type 0) : Type 0 where
  pub of_program : PlainProgram
  pub loads : LoadsProgram c program of_program
  pub passing : List ℕ
  pub loads_pass : LoadsSchedule c events pass passing
  pub failing : List ℕ
  pub loads_fail : LoadsSchedule c events fail failing
  pub stop : stops of_program passing failing

abbrev pub AtLog : FolderCall → List ℕ → List ℕ → Status → List ℕ → Type 0
AtLog c program log status printed = StopsAfterProgram c program (λ p. LogStops c log status printed)

abbrev pub AtSchedule : FolderCall → List ℕ → List ℕ → ℕ → Status → List ℕ → Type 0
AtSchedule c program schedule events status printed = StopsAfterProgram c program (λ p. ScheduleStops c events schedule status printed)

-- the drill's program was stored, and isn't accepted
abbrev pub DrillStops : FolderCall → ℕ → List ℕ → Status → List ℕ → Type 0
DrillStops c workers program status.ProgramRefused printed = Stores c program (drill_text workers) × RefusesText (drill_text workers) printed
DrillStops c workers program _ printed = ⊥

abbrev pub UsageStops : FolderCall → Status → List ℕ → Type 0
UsageStops c status.Usage printed = IsUntouched c × (printed ≡ usage_line)
UsageStops c _ printed = ⊥

-- ---- the commands

-- the same, with no lane beside the first
abbrev pub on_one_lane : Request → Request
on_one_lane (Record program log lanes events) = Record program log 1 events
on_one_lane (Replay program log lanes) = Replay program log 1
on_one_lane asked = asked

-- what is asked for is done, and this is printed
abbrev pub Does : Request → FolderCall → List ℕ → Type 0
Does (Check program) c printed = Checks c program printed
Does (Record program log lanes events) c printed = Records c program log lanes events printed
Does (Replay program log lanes) c printed = Replays c program log printed
Does (Show program log clock) c printed = Shows c program log clock printed
Does (Run program schedule events) c printed = Runs c program schedule events printed
Does (Derive program log schedule) c printed = Derives c program log schedule printed
Does (Seek program seed tries schedule events) c printed = Seeks c program seed tries schedule events printed
Does (Isolate program pass fail tests workers events) c printed = Isolates c program pass fail tests events printed
Does (Reduce program fail schedule tests events) c printed = Reduces c program fail schedule tests events printed
Does (Races program log) c printed = ReportsRaces c program log printed
Does (Tiles log) c printed = ListsTiles c log printed
Does (Drill workers program) c printed = Drills c workers program printed
Does Unknown c printed = ⊥

-- the first thing in the way of what is asked for: its status, and its line
abbrev pub Stops : Request → FolderCall → Status → List ℕ → Type 0
Stops (Check program) c status printed = IsUntouched c × ProgramStops c program status printed
Stops (Record program log lanes events) c status printed = IsUntouched c × ProgramStops c program status printed
Stops (Replay program log lanes) c status printed =
    IsUntouched c × (ProgramStops c program status printed ⊎ (AtLog c program log status printed ⊎ StopsAfterLog c program log (λ p l. RunStops p l status printed)))
Stops (Show program log clock) c status printed =
    IsUntouched c × (ProgramStops c program status printed ⊎ (AtLog c program log status printed ⊎ StopsAfterLog c program log (λ p l. StateStops p l clock status printed)))
Stops (Run program schedule events) c status printed =
    IsUntouched c × (ProgramStops c program status printed ⊎ AtSchedule c program schedule events status printed)
Stops (Derive program log schedule) c status printed =
    IsUntouched c × (ProgramStops c program status printed ⊎ (AtLog c program log status printed ⊎ StopsAfterLog c program log (λ p l. DeriveStops p l status printed)))
Stops (Seek program seed tries schedule events) c status printed =
    IsUntouched c × (ProgramStops c program status printed ⊎ StopsAfterProgram c program (λ p. SeekStops p seed tries events status printed))
Stops (Isolate program pass fail tests workers events) c status printed =
    IsUntouched c × (ProgramStops c program status printed ⊎ (AtSchedule c program pass events status printed
    ⊎ (StopsAfterSchedule c program pass events (λ p passing. ScheduleStops c events fail status printed)
    ⊎ StopsAfterSchedules c program pass fail events (λ p passing failing. IsolateStops p events passing failing tests status printed))))
Stops (Reduce program fail schedule tests events) c status printed =
    IsUntouched c × (ProgramStops c program status printed ⊎ (AtSchedule c program fail events status printed
    ⊎ StopsAfterSchedule c program fail events (λ p failing. ReduceStops p events failing tests status printed)))
Stops (Races program log) c status printed =
    IsUntouched c × (ProgramStops c program status printed ⊎ (AtLog c program log status printed ⊎ StopsAfterLog c program log (λ p l. RunStops p l status printed)))
Stops (Tiles log) c status printed = IsUntouched c × LogStops c log status printed
Stops (Drill workers program) c status printed = DrillStops c workers program status printed
Stops Unknown c status printed = UsageStops c status printed

-- why what was asked for ended with this status, and what it prints
abbrev pub Tells : Request → FolderCall → Status → List ℕ → Type 0
Tells asked c status.Ok printed = Does asked c printed
Tells asked c status printed = Stops asked c status printed

-- ---- the whole

-- what was to be stored wasn't
abbrev pub StoreIsLost : Request → FolderCall → Type 0
StoreIsLost (Record program log lanes events) c = StopsAfterProgram c program (λ p. LosesFile c log)
StoreIsLost (Derive program log schedule) c = StopsAfterLog c program log (λ p l. LosesFile c schedule)
StoreIsLost (Seek program seed tries schedule events) c = StopsAfterProgram c program (λ p. LosesFile c schedule)
StoreIsLost (Reduce program fail schedule tests events) c = StopsAfterSchedule c program fail events (λ p failing. LosesFile c schedule)
StoreIsLost (Drill workers program) c = LosesFile c program
StoreIsLost _ c = ⊥

-- what is left where memory runs out
abbrev pub LeavesFiles : Request → FolderCall → Type 0
LeavesFiles (Drill workers program) c = IsUntouched c ⊎ Stores c program (drill_text workers)
LeavesFiles _ c = IsUntouched c

-- what the status says is printed
pub record Prints (asked : Request) (c : FolderCall) (s : SinkCall) (status : Status) : Type 0 where
  pub text : List ℕ
  pub tells : Tells asked c status text
  pub printed : Puts s text

-- what another status would have said wasn't printed whole
pub record LosesText (asked : Request) (c : FolderCall) (s : SinkCall) : Type 0 where
  pub status : Status
  pub text : List ℕ
  pub tells : Tells asked c status text
  pub lost : PutFails s text

-- what a command's status says of what it was asked for, of the folder and of the sink
abbrev pub Answers : Request → FolderCall → SinkCall → Status → Type 0
Answers asked c s status.WriteFault = (StoreIsLost asked c × PutsNothing s) ⊎ LosesText asked c s
Answers asked c s status.OutOfMemory = LeavesFiles asked c × PutsNothing s
Answers asked c s status = Prints asked c s status

-- ---- up to the printing

-- the words are of no command
abbrev pub UsageTold : Status → List ℕ → Type 0
UsageTold status.Usage line = line ≡ usage_line
UsageTold _ line = ⊥

-- what was asked for wasn't done
abbrev pub Halts : Request → FolderCall → Halt → Type 0
Halts asked c (halt.Told status line) = Stops asked c status line.items
Halts asked c halt.Memory = LeavesFiles asked c
Halts asked c halt.Store = StoreIsLost asked c

-- ---- the printing

-- the text is put, or a put failed
abbrev pub PutsUnlessFault : SinkCall → Status → List ℕ → Status → Type 0
PutsUnlessFault s wanted text answer = ((answer ≡ wanted) × Puts s text) ⊎ ((answer ≡ status.WriteFault) × PutFails s text)

-- the count of failed loads by the status of a command: one load failed after a read fault, none after other statuses, but
-- that after a write fault and want of memory it may be the one whose line couldn't be printed
abbrev pub CountsAnswer : ℕ → ℕ → Status → Type 0
CountsAnswer old new status.WriteFault = (new ≡ old) ⊎ (new ≡ raised_count old)
CountsAnswer old new status.OutOfMemory = (new ≡ old) ⊎ (new ≡ raised_count old)
CountsAnswer old new answer = CountsTold old new answer
