-- What a command says, put to the sink.
use Rattle.std.proofs.Common.{◌≡◌, ℕ, Global, List, Vec, ◌++◌, ap, sym, subst, ◌∙◌, IsTrue, inr, ⊎_elim}
use Rattle.command_line.specs.Requests.{Request, Check, Record, Replay, Show, Derive, Run, Seek, Isolate, Reduce, Races, Tiles, Drill, Unknown}
use Rattle.tool_stages.specs.declared.halt.Halt.{Halt}
use Rattle.tool_stages.specs.declared.halt.Halt.TheVariants as halt
use Rattle.tool_stages.specs.declared.status.Status.{Status}
use Rattle.tool_stages.specs.declared.status.Status.TheVariants as status
use Rattle.vm_model.specs.Program.{PlainProgram}
use Rattle.schedule_log.specs.Logs.{PlainLog}
use Rattle.tool_stages.specs.Calls.{FolderCall, SinkCall, Puts}
use Rattle.tool_stages.specs.Files.{FileStops, LogStops, ProgramStops, ScheduleStops}
use Rattle.dejavu_tool.specs.Answers.{Answers, AtLog, AtSchedule, Checks, Does, DrillStops, StopsAfterLog, StopsAfterProgram, StopsAfterSchedule, StopsAfterSchedules, Stops, Tells, Records, Replays, UsageStops, Halts, PutsUnlessFault}
use Rattle.dejavu_tool.specs.Headline.{CheckHolds, DeriveHolds, DrillHolds, IsolationHolds, RacesHold, ReduceHolds, SeekHolds, TilesHold, RecordingHolds, ReplayHolds, RunHolds, ShowHolds, IsFinishedCheck, IsFinishedRecording, IsFinishedReplay}
use Rattle.dejavu_tool.specs.Runs.{DeriveStops, IsolateStops, ReduceStops, RunStops, SeekStops, StateStops}

-- ---- no stage stops with a status that tells of no stage

abbrev IsNoStop : Status → Type 0
IsNoStop status.Ok = Unit {0}
IsNoStop status.WriteFault = Unit {0}
IsNoStop status.OutOfMemory = Unit {0}
IsNoStop _ = ⊥

file_no : (c : FolderCall) (name : List ℕ) (answer : Status) (text : List ℕ) → IsNoStop answer → FileStops c name answer text → ⊥
file_no c name status.Absent text quiet h = quiet
file_no c name status.ReadFault text quiet h = quiet
file_no c name _ text quiet h = h

program_no : (c : FolderCall) (name : List ℕ) (answer : Status) (text : List ℕ) → IsNoStop answer → ProgramStops c name answer text → ⊥
program_no c name status.ProgramRefused text quiet h = quiet
program_no c name answer text quiet h = file_no c name answer text quiet h

log_no : (c : FolderCall) (name : List ℕ) (answer : Status) (text : List ℕ) → IsNoStop answer → LogStops c name answer text → ⊥
log_no c name status.LogRefused text quiet h = quiet
log_no c name answer text quiet h = file_no c name answer text quiet h

schedule_no : (c : FolderCall) (events : ℕ) (name : List ℕ) (answer : Status) (text : List ℕ) → IsNoStop answer → ScheduleStops c events name answer text → ⊥
schedule_no c events name status.ScheduleRefused text quiet h = quiet
schedule_no c events name answer text quiet h = file_no c name answer text quiet h

run_no : (p : PlainProgram) (log : PlainLog) (answer : Status) (text : List ℕ) → IsNoStop answer → RunStops p log answer text → ⊥
run_no p log status.Diverged text quiet h = quiet
run_no p log _ text quiet h = h

state_no : (p : PlainProgram) (log : PlainLog) (clock : ℕ) (answer : Status) (text : List ℕ) → IsNoStop answer → StateStops p log clock answer text → ⊥
state_no p log clock status.Diverged text quiet h = quiet
state_no p log clock _ text quiet h = h

derive_no : (p : PlainProgram) (log : PlainLog) (answer : Status) (text : List ℕ) → IsNoStop answer → DeriveStops p log answer text → ⊥
derive_no p log status.Diverged text quiet h = quiet
derive_no p log status.ScheduleRefused text quiet h = quiet
derive_no p log _ text quiet h = h

seek_no : (p : PlainProgram) (seed tries events : ℕ) (answer : Status) (text : List ℕ) → IsNoStop answer → SeekStops p seed tries events answer text → ⊥
seek_no p seed tries events status.NotFound text quiet h = quiet
seek_no p seed tries events _ text quiet h = h

isolate_no : (p : PlainProgram) (events : ℕ) (passing failing : List ℕ) (tests : ℕ) (answer : Status) (text : List ℕ) → IsNoStop answer → IsolateStops p events passing failing tests answer text → ⊥
isolate_no p events passing failing tests status.NotPassing text quiet h = quiet
isolate_no p events passing failing tests status.NotFailing text quiet h = quiet
isolate_no p events passing failing tests status.TestsSpent text quiet h = quiet
isolate_no p events passing failing tests _ text quiet h = h

reduce_no : (p : PlainProgram) (events : ℕ) (failing : List ℕ) (tests : ℕ) (answer : Status) (text : List ℕ) → IsNoStop answer → ReduceStops p events failing tests answer text → ⊥
reduce_no p events failing tests status.NotFailing text quiet h = quiet
reduce_no p events failing tests status.TestsSpent text quiet h = quiet
reduce_no p events failing tests _ text quiet h = h

drill_no : (c : FolderCall) (workers : ℕ) (program : List ℕ) (answer : Status) (text : List ℕ) → IsNoStop answer → DrillStops c workers program answer text → ⊥
drill_no c workers program status.ProgramRefused text quiet h = quiet
drill_no c workers program _ text quiet h = h

usage_no : (c : FolderCall) (answer : Status) (text : List ℕ) → IsNoStop answer → UsageStops c answer text → ⊥
usage_no c status.Usage text quiet h = quiet
usage_no c _ text quiet h = h

no_stop : (asked : Request) (c : FolderCall) (answer : Status) (text : List ℕ) → IsNoStop answer → Stops asked c answer text → ⊥
no_stop (Check program) c answer text quiet h = program_no c program answer text quiet h.1
no_stop (Record program log lanes events) c answer text quiet h = program_no c program answer text quiet h.1
no_stop (Replay program log lanes) c answer text quiet h =
    ⊎_elim (program_no c program answer text quiet)
    (λ b. ⊎_elim (λ (a : AtLog c program log answer text). log_no c log answer text quiet a.stop) (λ (a : StopsAfterLog c program log (λ p l. RunStops p l answer text)). run_no a.of_program a.of_log answer text quiet a.stop) b) h.1
no_stop (Show program log clock) c answer text quiet h =
    ⊎_elim (program_no c program answer text quiet)
    (λ b. ⊎_elim (λ (a : AtLog c program log answer text). log_no c log answer text quiet a.stop) (λ (a : StopsAfterLog c program log (λ p l. StateStops p l clock answer text)). state_no a.of_program a.of_log clock answer text quiet a.stop) b) h.1
no_stop (Run program schedule events) c answer text quiet h =
    ⊎_elim (program_no c program answer text quiet) (λ (a : AtSchedule c program schedule events answer text). schedule_no c events schedule answer text quiet a.stop) h.1
no_stop (Drill workers program) c answer text quiet h = drill_no c workers program answer text quiet h
no_stop (Derive program log schedule) c answer text quiet h =
    ⊎_elim (program_no c program answer text quiet)
    (λ b. ⊎_elim (λ (a : AtLog c program log answer text). log_no c log answer text quiet a.stop) (λ (a : StopsAfterLog c program log (λ p l. DeriveStops p l answer text)). derive_no a.of_program a.of_log answer text quiet a.stop) b) h.1
no_stop (Seek program seed tries schedule events) c answer text quiet h =
    ⊎_elim (program_no c program answer text quiet) (λ (a : StopsAfterProgram c program (λ p. SeekStops p seed tries events answer text)). seek_no a.of_program seed tries events answer text quiet a.stop) h.1
no_stop (Isolate program pass fail tests workers events) c answer text quiet h =
    ⊎_elim (program_no c program answer text quiet)
    (λ b. ⊎_elim (λ (a : AtSchedule c program pass events answer text). schedule_no c events pass answer text quiet a.stop)
    (λ d. ⊎_elim (λ (a : StopsAfterSchedule c program pass events (λ p passing. ScheduleStops c events fail answer text)). schedule_no c events fail answer text quiet a.stop)
    (λ (a : StopsAfterSchedules c program pass fail events (λ p passing failing. IsolateStops p events passing failing tests answer text)). isolate_no a.of_program events a.passing a.failing tests answer text quiet a.stop) d) b) h.1
no_stop (Reduce program fail schedule tests events) c answer text quiet h =
    ⊎_elim (program_no c program answer text quiet)
    (λ b. ⊎_elim (λ (a : AtSchedule c program fail events answer text). schedule_no c events fail answer text quiet a.stop)
    (λ (a : StopsAfterSchedule c program fail events (λ p failing. ReduceStops p events failing tests answer text)). reduce_no a.of_program events a.times tests answer text quiet a.stop) b) h.1
no_stop (Races program log) c answer text quiet h =
    ⊎_elim (program_no c program answer text quiet)
    (λ b. ⊎_elim (λ (a : AtLog c program log answer text). log_no c log answer text quiet a.stop) (λ (a : StopsAfterLog c program log (λ p l. RunStops p l answer text)). run_no a.of_program a.of_log answer text quiet a.stop) b) h.1
no_stop (Tiles log) c answer text quiet h = log_no c log answer text quiet h.1
no_stop Unknown c answer text quiet h = usage_no c answer text quiet h

-- ---- what is put

pub stop_tells : (asked : Request) (c : FolderCall) (answer : Status) (text : List ℕ) → Stops asked c answer text → Tells asked c answer text
stop_tells asked c status.Ok text h = absurd (no_stop asked c status.Ok text tt h)
stop_tells asked c answer text h = h

pub as_told : (asked : Request) (c : FolderCall) (s : SinkCall) (answer : Status) (text : List ℕ) → Tells asked c answer text → Puts s text → Answers asked c s answer
as_told asked c s status.WriteFault text t p = absurd (no_stop asked c status.WriteFault text tt t)
as_told asked c s status.OutOfMemory text t p = absurd (no_stop asked c status.OutOfMemory text tt t)
as_told asked c s answer text t p = record { text = text; tells = t; printed = p }

pub when_put : (asked : Request) (c : FolderCall) (s : SinkCall) (wanted : Status) (text : List ℕ) (answer : Status) → Tells asked c wanted text → PutsUnlessFault s wanted text answer → Answers asked c s answer
when_put asked c s wanted text answer t put =
    ⊎_elim
    (λ p. subst (λ (a : Status). Answers asked c s a) (sym p.0) (as_told asked c s wanted text t p.1))
    (λ p. subst (λ (a : Status). Answers asked c s a) (sym p.0) (inr (record { status = wanted; text = text; tells = t; lost = p.1 })))
    put

-- what was asked for was done, and it is printed
pub put_done : (asked given : Request) (c : FolderCall) (s : SinkCall) (text shown : List ℕ) (answer : Status) → given ≡ asked → shown ≡ text → Does given c text → PutsUnlessFault s status.Ok shown answer → Answers asked c s answer
put_done asked given c s text shown answer same is d put =
    when_put asked c s status.Ok shown answer (subst (λ (t : List ℕ). Does asked c t) (sym is) (subst (λ (r : Request). Does r c text) same d)) put

-- it wasn't, and why is printed
pub put_stop : (asked given : Request) (c : FolderCall) (s : SinkCall) (h : Halt) (st : Status) (line : Vec ℕ Global) (shown : List ℕ) (answer : Status) → given ≡ asked → h ≡ halt.Told st line → shown ≡ line.items → Halts given c h → PutsUnlessFault s st shown answer
    → Answers asked c s answer
put_stop asked given c s h st line shown answer same is_told is d put =
    let told : Stops given c st line.items = subst (Halts given c) is_told d in
    let so : Stops asked c st shown = subst (λ (t : List ℕ). Stops asked c st t) (sym is) (subst (λ (r : Request). Stops r c st line.items) same told) in
    when_put asked c s st shown answer (stop_tells asked c st shown so) put

recorded_so : (c : FolderCall) (s : SinkCall) (program log : List ℕ) (lanes events : ℕ) (text : List ℕ) → Records c program log lanes events text → Puts s text → IsTrue c.told → IsTrue s.told → IsFinishedRecording c s program log lanes events
recorded_so c s program log lanes events text r p told told' = record {
  printed = text;
  run = record {
    text = r.loads.text;
    loaded = r.loads.loaded told;
    of_program = r.of_program;
    accepted = r.loads.accepted;
    bytes = r.bytes;
    kept = (r.stored told).0;
    of_log = r.run.log;
    spelled = r.run.spelled;
    tiled = r.run.spelled.0.tiles;
    machine = r.run.run.machine;
    runs = r.run.run.runs;
    end = r.run.run.end;
    ended = r.run.run.ended;
    kind = r.run.run.kind;
    prints = r.run.run.prints;
  };
  budget = r.run.budget_is;
  scheduled = r.run.scheduled;
  stored = r.stored told;
  puts = p told';
}

replayed_so : (c : FolderCall) (s : SinkCall) (program log text : List ℕ) → Replays c program log text → Puts s text → IsTrue c.told → IsTrue s.told → IsFinishedReplay c s program log
replayed_so c s program log text r p told told' = record {
  printed = text;
  run = record {
    text = r.loads.text;
    loaded = r.loads.loaded told;
    of_program = r.of_program;
    accepted = r.loads.accepted;
    bytes = r.loads_log.bytes;
    kept = r.loads_log.loaded told;
    of_log = r.of_log;
    spelled = r.loads_log.spelled;
    tiled = r.loads_log.spelled.0.tiles;
    machine = r.run.machine;
    runs = r.run.runs;
    end = r.run.end;
    ended = r.run.ended;
    kind = r.run.kind;
    prints = r.run.prints;
  };
  untouched = r.untouched told;
  puts = p told';
}

checked_so : (c : FolderCall) (s : SinkCall) (program text : List ℕ) → Checks c program text → Puts s text → IsTrue c.told → IsTrue s.told → IsFinishedCheck c s program
checked_so c s program text r p told told' = record {
  text = r.loads.text;
  loaded = r.loads.loaded told;
  of_program = r.of_program;
  accepted = r.loads.accepted;
  untouched = r.untouched told;
  puts = p told' ∙ ap (λ (printed : List ℕ). s.before ++ printed) r.prints;
}

-- ---- what holds after status 0

pub check_holds : (asked : Request) (c : FolderCall) (s : SinkCall) (answer : Status) → Answers asked c s answer → CheckHolds asked c s answer
check_holds (Check program) c s answer a =
    λ e told told'. let so = subst (λ (x : Status). Answers (Check program) c s x) e a in checked_so c s program so.text so.tells so.printed told told'
check_holds _ c s answer a = tt

pub recording_holds : (asked : Request) (c : FolderCall) (s : SinkCall) (answer : Status) → Answers asked c s answer → RecordingHolds asked c s answer
recording_holds (Record program log lanes events) c s answer a =
    λ e told told'. let so = subst (λ (x : Status). Answers (Record program log lanes events) c s x) e a in recorded_so c s program log lanes events so.text so.tells so.printed told told'
recording_holds _ c s answer a = tt

pub replay_holds : (asked : Request) (c : FolderCall) (s : SinkCall) (answer : Status) → Answers asked c s answer → ReplayHolds asked c s answer
replay_holds (Replay program log lanes) c s answer a =
    λ e told told'. let so = subst (λ (x : Status). Answers (Replay program log lanes) c s x) e a in replayed_so c s program log so.text so.tells so.printed told told'
replay_holds _ c s answer a = tt

pub show_holds : (asked : Request) (c : FolderCall) (s : SinkCall) (answer : Status) → Answers asked c s answer → ShowHolds asked c s answer
show_holds (Show program log clock) c s answer a =
    λ e told. let so = subst (λ (x : Status). Answers (Show program log clock) c s x) e a in record { printed = so.text; done = so.tells; puts = so.printed told }
show_holds _ c s answer a = tt

pub run_holds : (asked : Request) (c : FolderCall) (s : SinkCall) (answer : Status) → Answers asked c s answer → RunHolds asked c s answer
run_holds (Run program schedule events) c s answer a =
    λ e told. let so = subst (λ (x : Status). Answers (Run program schedule events) c s x) e a in record { printed = so.text; done = so.tells; puts = so.printed told }
run_holds _ c s answer a = tt

pub drill_holds : (asked : Request) (c : FolderCall) (s : SinkCall) (answer : Status) → Answers asked c s answer → DrillHolds asked c s answer
drill_holds (Drill workers program) c s answer a =
    λ e told. let so = subst (λ (x : Status). Answers (Drill workers program) c s x) e a in record { printed = so.text; done = so.tells; puts = so.printed told }
drill_holds _ c s answer a = tt

pub derive_holds : (asked : Request) (c : FolderCall) (s : SinkCall) (answer : Status) → Answers asked c s answer → DeriveHolds asked c s answer
derive_holds (Derive program log schedule) c s answer a =
    λ e told. let so = subst (λ (x : Status). Answers (Derive program log schedule) c s x) e a in record { printed = so.text; done = so.tells; puts = so.printed told }
derive_holds _ c s answer a = tt

pub seek_holds : (asked : Request) (c : FolderCall) (s : SinkCall) (answer : Status) → Answers asked c s answer → SeekHolds asked c s answer
seek_holds (Seek program seed tries schedule events) c s answer a =
    λ e told. let so = subst (λ (x : Status). Answers (Seek program seed tries schedule events) c s x) e a in record { printed = so.text; done = so.tells; puts = so.printed told }
seek_holds _ c s answer a = tt

pub isolation_holds : (asked : Request) (c : FolderCall) (s : SinkCall) (answer : Status) → Answers asked c s answer → IsolationHolds asked c s answer
isolation_holds (Isolate program pass fail tests workers events) c s answer a =
    λ e told. let so = subst (λ (x : Status). Answers (Isolate program pass fail tests workers events) c s x) e a in record { printed = so.text; done = so.tells; puts = so.printed told }
isolation_holds _ c s answer a = tt

pub reduce_holds : (asked : Request) (c : FolderCall) (s : SinkCall) (answer : Status) → Answers asked c s answer → ReduceHolds asked c s answer
reduce_holds (Reduce program fail schedule tests events) c s answer a =
    λ e told. let so = subst (λ (x : Status). Answers (Reduce program fail schedule tests events) c s x) e a in record { printed = so.text; done = so.tells; puts = so.printed told }
reduce_holds _ c s answer a = tt

pub races_hold : (asked : Request) (c : FolderCall) (s : SinkCall) (answer : Status) → Answers asked c s answer → RacesHold asked c s answer
races_hold (Races program log) c s answer a =
    λ e told. let so = subst (λ (x : Status). Answers (Races program log) c s x) e a in record { printed = so.text; done = so.tells; puts = so.printed told }
races_hold _ c s answer a = tt

pub tiles_hold : (asked : Request) (c : FolderCall) (s : SinkCall) (answer : Status) → Answers asked c s answer → TilesHold asked c s answer
tiles_hold (Tiles log) c s answer a =
    λ e told. let so = subst (λ (x : Status). Answers (Tiles log) c s x) e a in record { printed = so.text; done = so.tells; puts = so.printed told }
tiles_hold _ c s answer a = tt
