-- What a finished check, a finished recording and a finished replay say, of a folder and a sink that tell what they hold.
use Rattle.std.specs.Prelude.{◌≡◌, ℕ, List, [], ◌++◌, length, IsTrue, Option, Some}
use Rattle.tool_io.specs.Outside.{SameFiles, SetsFile}
use Rattle.vm_model.specs.declared.ends.End.{End}
use Rattle.vm_model.specs.Ends.{kind_of_end}
use Rattle.vm_model.specs.Program.{PlainProgram}
use Rattle.machine_model.specs.Machine.{MachineState, end_of, run}
use Rattle.machine_model.specs.Ring.{schedule_threads}
use Rattle.schedule_log.specs.Intervals.{Tiles as AreTiles}
use Rattle.schedule_log.specs.Logs.{PlainLog, events, expansion}
use Rattle.schedule_log.specs.Spelling.{Spells}
use Rattle.report_writer.specs.Texts.{run_text}
use Rattle.tool_stages.specs.declared.status.Status.{Status}
use Rattle.tool_stages.specs.declared.status.Status.TheVariants as status
use Rattle.tool_stages.specs.Accepting.{IsAccepted}
use Rattle.tool_stages.specs.Calls.{FolderCall, SinkCall}
use Rattle.dejavu_tool.specs.Checking.{check_text}
use Rattle.command_line.specs.Requests.{Request, Check, Record, Replay, Show, Derive, Run, Seek, Isolate, Reduce, Races, Tiles, Drill}
use Rattle.dejavu_tool.specs.Answers.{Derives, Drills, Isolates, ListsTiles, Reduces, ReportsRaces, Runs, Seeks, Shows}

-- The bytes under LOG spell one log. It tiles the run's events, and its threads lead the accepted program of the text under P
-- to a machine with an end of the log's kind. What is printed is that run: its numbers of events and intervals, its end and
-- its output.
pub record IsRunOfFiles (before logs : List ℕ → Option (List ℕ)) (program log : List ℕ) (printed : List ℕ) : Type 0 where
  pub text : List ℕ
  pub loaded : before program ≡ Some text
  pub of_program : PlainProgram
  pub accepted : IsAccepted text of_program
  pub bytes : List ℕ
  pub kept : logs log ≡ Some bytes
  pub of_log : PlainLog
  pub spelled : Spells of_log bytes
  pub tiled : AreTiles (events of_log) of_log.intervals
  pub machine : MachineState
  pub runs : run of_program (expansion of_log) ≡ Some machine
  pub end : End
  pub ended : end_of of_program machine of_log.budget ≡ Some end
  pub kind : of_log.end ≡ kind_of_end end
  pub prints : printed ≡ run_text of_program (events of_log) (length of_log.intervals) end machine.world.output

-- The log that is under LOG afterwards is of one run, of at most so many events, however many lanes carried it; on one lane it
-- is the run by the ring without switches. No other file changed.
pub record IsFinishedRecording (c : FolderCall) (s : SinkCall) (program log : List ℕ) (lanes events : ℕ) : Type 0 where
  pub printed : List ℕ
  pub run : IsRunOfFiles c.before c.after program log printed
  pub budget : run.of_log.budget ≡ events
  pub scheduled : lanes ≡ 1 → expansion run.of_log ≡ schedule_threads run.of_program [] events
  pub stored : SetsFile c.before c.after log run.bytes
  pub puts : s.after ≡ s.before ++ printed

-- the log that was under LOG; no file changed
pub record IsFinishedReplay (c : FolderCall) (s : SinkCall) (program log : List ℕ) : Type 0 where
  pub printed : List ℕ
  pub run : IsRunOfFiles c.before c.before program log printed
  pub untouched : SameFiles c.before c.after
  pub puts : s.after ≡ s.before ++ printed

-- The text under P is that of an accepted program, whose counts are printed. No file changed.
pub record IsFinishedCheck (c : FolderCall) (s : SinkCall) (program : List ℕ) : Type 0 where
  pub text : List ℕ
  pub loaded : c.before program ≡ Some text
  pub of_program : PlainProgram
  pub accepted : IsAccepted text of_program
  pub untouched : SameFiles c.before c.after
  pub puts : s.after ≡ s.before ++ check_text of_program

abbrev pub CheckHolds : Request → FolderCall → SinkCall → Status → Type 0
CheckHolds (Check program) c s answer = answer ≡ status.Ok → IsTrue c.told → IsTrue s.told → IsFinishedCheck c s program
CheckHolds _ c s answer = Unit {0}

abbrev pub RecordingHolds : Request → FolderCall → SinkCall → Status → Type 0
RecordingHolds (Record program log lanes events) c s answer = answer ≡ status.Ok → IsTrue c.told → IsTrue s.told → IsFinishedRecording c s program log lanes events
RecordingHolds _ c s answer = Unit {0}

abbrev pub ReplayHolds : Request → FolderCall → SinkCall → Status → Type 0
ReplayHolds (Replay program log lanes) c s answer = answer ≡ status.Ok → IsTrue c.told → IsTrue s.told → IsFinishedReplay c s program log
ReplayHolds _ c s answer = Unit {0}

-- this was done, and what is printed of it was put, and nothing else
pub record Finishes (s : SinkCall) (does : List ℕ → Type 0) : Type 0 where
  pub printed : List ℕ
  pub done : does printed
  pub puts : s.after ≡ s.before ++ printed

abbrev pub ShowHolds : Request → FolderCall → SinkCall → Status → Type 0
ShowHolds (Show program log clock) c s answer = answer ≡ status.Ok → IsTrue s.told → Finishes s (Shows c program log clock)
ShowHolds _ c s answer = Unit {0}

abbrev pub RunHolds : Request → FolderCall → SinkCall → Status → Type 0
RunHolds (Run program schedule events) c s answer = answer ≡ status.Ok → IsTrue s.told → Finishes s (Runs c program schedule events)
RunHolds _ c s answer = Unit {0}

abbrev pub DeriveHolds : Request → FolderCall → SinkCall → Status → Type 0
DeriveHolds (Derive program log schedule) c s answer = answer ≡ status.Ok → IsTrue s.told → Finishes s (Derives c program log schedule)
DeriveHolds _ c s answer = Unit {0}

abbrev pub SeekHolds : Request → FolderCall → SinkCall → Status → Type 0
SeekHolds (Seek program seed tries schedule events) c s answer = answer ≡ status.Ok → IsTrue s.told → Finishes s (Seeks c program seed tries schedule events)
SeekHolds _ c s answer = Unit {0}

-- A finished isolation. The two schedules stand between the given ones, the one passes, the other fails alike, and no unit shift
-- of a single time narrows their difference.
abbrev pub IsolationHolds : Request → FolderCall → SinkCall → Status → Type 0
IsolationHolds (Isolate program pass fail tests workers events) c s answer = answer ≡ status.Ok → IsTrue s.told → Finishes s (Isolates c program pass fail tests events)
IsolationHolds _ c s answer = Unit {0}

-- A finished reduction: the schedule that is stored fails as the given one, and doesn't without any one of its times.
abbrev pub ReduceHolds : Request → FolderCall → SinkCall → Status → Type 0
ReduceHolds (Reduce program fail schedule tests events) c s answer = answer ≡ status.Ok → IsTrue s.told → Finishes s (Reduces c program fail schedule tests events)
ReduceHolds _ c s answer = Unit {0}

-- A finished report of races: exactly the places with a race, each with its first one.
abbrev pub RacesHold : Request → FolderCall → SinkCall → Status → Type 0
RacesHold (Races program log) c s answer = answer ≡ status.Ok → IsTrue s.told → Finishes s (ReportsRaces c program log)
RacesHold _ c s answer = Unit {0}

-- A finished list of a log's intervals.
abbrev pub TilesHold : Request → FolderCall → SinkCall → Status → Type 0
TilesHold (Tiles log) c s answer = answer ≡ status.Ok → IsTrue s.told → Finishes s (ListsTiles c log)
TilesHold _ c s answer = Unit {0}

abbrev pub DrillHolds : Request → FolderCall → SinkCall → Status → Type 0
DrillHolds (Drill workers program) c s answer = answer ≡ status.Ok → IsTrue s.told → Finishes s (Drills c workers program)
DrillHolds _ c s answer = Unit {0}

-- A replay, whatever the names of its files, prints what the recording of its log printed, where the program's text is the same.
abbrev pub ReplayPrintsRecording : Type 0
ReplayPrintsRecording = (c d : FolderCall) (s t : SinkCall) (program log other_program other_log : List ℕ) (lanes events : ℕ)
    → (recording : IsFinishedRecording c s program log lanes events) → (replay : IsFinishedReplay d t other_program other_log)
    → c.before program ≡ d.before other_program → c.after log ≡ d.before other_log → replay.printed ≡ recording.printed
