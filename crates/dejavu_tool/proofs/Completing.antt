-- Where nothing stands in the way, no other status can come.
use Rattle.std.proofs.Common.{◌≡◌, ℕ, zero, suc, ◌+◌, ◌<◌, true, false, List, [], ◌∷◌, Option, Some, None, Result, Ok, Err, refl, sym, subst, ◌∙◌, ap, inl, inr, ⊎_elim, take, arith, IsTrue}
use Rattle.std.specs.Prelude.{slice_get, option_map}
use Rattle.vm_model.specs.Ends.{kind_of_end}
use Rattle.vm_model.specs.Program.{PlainProgram}
use Rattle.machine_model.specs.Machine.{MachineState, end_of, run, run_from, turn, then_run, start_machine}
use Rattle.machine_model.specs.Shapes.{IsVerified}
use Rattle.schedule_log.specs.Logs.{PlainLog, expansion}
use Rattle.schedule_log.specs.Reading.{read_log}
use Rattle.thread_driver.specs.Answers.{DivergesBefore}
use Rattle.thread_driver.specs.Recordings.{Diverges}
use Rattle.vm_model.specs.declared.ends.End.TheVariants as end
use Rattle.machine_model.specs.Ring.{schedule_threads}
use Rattle.schedule_model.specs.Outcomes.{end_under}
use Rattle.switch_schedule.specs.Searches.{NoneBelow}
use Rattle.switch_schedule.specs.Texts.{SpellsSchedule}
use Rattle.switch_schedule.proofs.First.{one-schedule, spelled-faultless}
use Rattle.program_reducer.specs.Reductions as reduction
use Rattle.program_isolator.specs.Isolations.{NeedsMore, tests_between}
use Rattle.command_line.specs.Requests.{Request, Check, Record, Replay, Show, Derive, Run, Seek, Isolate, Reduce, Races, Tiles, Drill, Unknown}
use Rattle.drill_program.specs.Texts.{drill_text}
use Rattle.tool_stages.specs.declared.status.Status.{Status}
use Rattle.tool_stages.specs.declared.status.Status.TheVariants as status
use Rattle.tool_stages.specs.declared.programs.ProgramFault.{ProgramFault}
use Rattle.tool_stages.specs.declared.programs.ProgramFault.TheVariants as fault
use Rattle.tool_stages.specs.Accepting.{linked, IsAccepted}
use Rattle.tool_stages.specs.Calls.{FolderCall, SinkCall}
use Rattle.tool_stages.specs.Files.{FileStops, LoadsLog, LoadsProgram, LoadsSchedule, LogStops, ProgramStops, ScheduleStops, TellsFault}
use Rattle.tool_stages.proofs.Telling.{same_ok}
use Rattle.dejavu_tool.specs.Answers.{Answers, AtLog, AtSchedule, DrillStops, StopsAfterLog, StopsAfterProgram, StopsAfterSchedule, StopsAfterSchedules, StoreIsLost, Stops}
use Rattle.dejavu_tool.specs.Completeness.{CanDerive, CanDo, CanIsolate, CanReduce, CanSeek, HasLog, HasProgram, HasSchedule, IsComplete, IsUnhindered, RunsTo, RunsUpTo}
use Rattle.dejavu_tool.specs.Runs.{DeriveStops, IsolateStops, ReduceStops, RunStops, SeekStops, StateStops, TellsDivergence, TellsEarlyDivergence, TellsNoFault, TellsNotFailing, TellsNotPassing, TellsTooMany}
use Rattle.dejavu_tool.proofs.Repeating.{same_some, spelled_is_read}

-- ---- runs

-- a run that is defined has no turn that isn't
turns_are_defined : (p : PlainProgram) (start before after : MachineState) (threads : List ℕ) (clock thread : ℕ)
    → run_from p start threads ≡ Some after → run_from p start (take clock threads) ≡ Some before → slice_get threads clock ≡ Some thread → turn p before thread ≡ None → ⊥
turns_are_defined p start before after [] clock thread whole part there undefined = cc
turns_are_defined p start before after (t ∷ ts) zero thread whole part there undefined = first (turn p start t) refl whole
  where
    first : (o : Option MachineState) → turn p start t ≡ o → then_run o (λ n. run_from p n ts) ≡ Some after → ⊥
    first None e w = cc
    first (Some n) e w = cc
turns_are_defined p start before after (t ∷ ts) (suc clock) thread whole part there undefined =
    next (turn p start t) (λ n w q. turns_are_defined p n before after ts clock thread w q there undefined) whole part
  where
    next : (o : Option MachineState) → ((n : MachineState) → run_from p n ts ≡ Some after → run_from p n (take clock ts) ≡ Some before → ⊥)
        → then_run o (λ n. run_from p n ts) ≡ Some after → then_run o (λ n. run_from p n (take clock ts)) ≡ Some before → ⊥
    next None later w q = cc
    next (Some n) later w q = later n w q

-- a log that runs to its end's kind doesn't diverge
pub doesnt_diverge : (p : PlainProgram) (log : PlainLog) (m : MachineState) (clock : ℕ) (thread : Option ℕ)
    → run p (expansion log) ≡ Some m → option_map kind_of_end (end_of p m log.budget) ≡ Some log.end → Diverges p log clock thread → ⊥
doesnt_diverge p log m clock (Some thread) runs ends d = turns_are_defined p (start_machine p) d.machine m (expansion log) clock thread runs d.runs d.at_clock d.undefined
doesnt_diverge p log m clock None runs ends d =
    let same : d.machine ≡ m = cc in
    d.ends (ap (λ (x : MachineState). option_map kind_of_end (end_of p x log.budget)) same ∙ ends)

early : (threads : List ℕ) (count clock thread : ℕ) → clock < count → slice_get threads clock ≡ Some thread → slice_get (take count threads) clock ≡ Some thread
early [] count clock thread lt there = cc
early (t ∷ ts) zero clock thread lt there = absurd (omega (arith, lt))
early (t ∷ ts) (suc count) zero thread lt there = there
early (t ∷ ts) (suc count) (suc clock) thread lt there = early ts count clock thread (omega (arith, lt)) there

-- a log that runs up to a clock doesn't diverge before it
doesnt_diverge_before : (p : PlainProgram) (log : PlainLog) (m : MachineState) (count clock : ℕ) (thread : Option ℕ) → run p (take count (expansion log)) ≡ Some m → DivergesBefore p log count clock thread → ⊥
doesnt_diverge_before p log m count clock (Some thread) runs d =
    turns_are_defined p (start_machine p) d.0.machine m (take count (expansion log)) clock thread runs
    (ap (run p) (front (expansion log) count clock d.1) ∙ d.0.runs) (early (expansion log) count clock thread d.1 d.0.at_clock) d.0.undefined
  where
    front : (ts : List ℕ) (count clock : ℕ) → clock < count → take clock (take count ts) ≡ take clock ts
    front [] zero clock lt = absurd (omega (arith, lt))
    front [] (suc count) zero lt = refl
    front [] (suc count) (suc clock) lt = refl
    front (t ∷ ts) zero clock lt = absurd (omega (arith, lt))
    front (t ∷ ts) (suc count) zero lt = refl
    front (t ∷ ts) (suc count) (suc clock) lt = ap (λ (us : List ℕ). t ∷ us) (front ts count clock (omega (arith, lt)))
doesnt_diverge_before p log m count clock None runs d = d

-- ---- files

pub never : {A E : Type 0} (r : Result A E) (x : A) (e : E) → r ≡ Ok x → r ≡ Err e → ⊥
never r x e a b = cc

no_some : {A : Type 0} (o : Option A) (x : A) → o ≡ Some x → o ≡ None → ⊥
no_some o x a b = cc

-- the program of the file is the one that is known
same_program : (c : FolderCall) (name : List ℕ) (p : PlainProgram) → (has : HasProgram c name) → LoadsProgram c name p → p ≡ has.of_program
same_program c name p has l =
    let same = same_some (c.before name) l.text has.text (l.loaded has.told) has.there in
    same_ok (linked has.text) p has.of_program (subst (λ (t : List ℕ). linked t ≡ Ok p) same l.accepted.links) has.accepted.links

same_log : (c : FolderCall) (name : List ℕ) (l : PlainLog) → IsTrue c.told → (has : HasLog c name) → LoadsLog c name l → l ≡ has.of_log
same_log c name l told has loads =
    let same = same_some (c.before name) loads.bytes has.bytes (loads.loaded told) has.kept in
    same_ok (read_log has.bytes) l has.of_log (subst (λ (b : List ℕ). read_log b ≡ Ok l) same (spelled_is_read l loads.bytes loads.spelled)) (spelled_is_read has.of_log has.bytes has.spelled)

-- a text that is accepted has no fault
no_fault : (text : List ℕ) (p : PlainProgram) (f : ProgramFault) (printed : List ℕ) → IsAccepted text p → TellsFault text f printed → ⊥
no_fault text p (fault.Text kind line column) printed is h = never (linked text) p (fault.Text kind line column) is.links h.0
no_fault text p (fault.Read kind line) printed is h = never (linked text) p (fault.Read kind line) is.links h.0
no_fault text p (fault.Link kind line) printed is h = never (linked text) p (fault.Link kind line) is.links h.0
no_fault text p (fault.Shape _ method at) printed is h =
    let same = same_ok (linked text) p h.unverified.program is.links h.unverified.links in
    let verified = subst IsVerified same is.verified in h.unverified.refused.none (verified.0, verified.1 method)
no_fault text p fault.NoMemory printed is h = h

file_stops : (c : FolderCall) (s : SinkCall) (name bytes : List ℕ) (answer : Status) (text : List ℕ) → IsTrue c.told → c.before name ≡ Some bytes → IsUnhindered c s → FileStops c name answer text → ⊥
file_stops c s name bytes status.Absent text told there free h = no_some (c.before name) bytes there (h.0 told)
file_stops c s name bytes status.ReadFault text told there free h = free.no_load h.0
file_stops c s name bytes _ text told there free h = h

program_stops : (c : FolderCall) (s : SinkCall) (name : List ℕ) (answer : Status) (text : List ℕ) → HasProgram c name → IsUnhindered c s → ProgramStops c name answer text → ⊥
program_stops c s name status.ProgramRefused text has free h =
    let same = same_some (c.before name) h.text has.text (h.loaded has.told) has.there in
    no_fault has.text has.of_program h.refuses.fault text has.accepted (subst (λ (t : List ℕ). TellsFault t h.refuses.fault text) same h.refuses.tells)
program_stops c s name answer text has free h = file_stops c s name has.text answer text has.told has.there free h

log_stops : (c : FolderCall) (s : SinkCall) (name : List ℕ) (answer : Status) (text : List ℕ) → IsTrue c.told → HasLog c name → IsUnhindered c s → LogStops c name answer text → ⊥
log_stops c s name status.LogRefused text told has free h =
    let same = same_some (c.before name) h.bytes has.bytes (h.loaded told) has.kept in
    never (read_log h.bytes) has.of_log _ (subst (λ (b : List ℕ). read_log b ≡ Ok has.of_log) (sym same) (spelled_is_read has.of_log has.bytes has.spelled)) h.refuses.refused
log_stops c s name answer text told has free h = file_stops c s name has.bytes answer text told has.kept free h

schedule_stops : (c : FolderCall) (s : SinkCall) (events : ℕ) (name : List ℕ) (answer : Status) (text : List ℕ) → IsTrue c.told → HasSchedule c events name → IsUnhindered c s → ScheduleStops c events name answer text → ⊥
schedule_stops c s events name status.ScheduleRefused text told has free h =
    let same = same_some (c.before name) h.bytes has.bytes (h.loaded told) has.kept in
    spelled-faultless events h.refuses.offset has.times h.bytes h.refuses.kind (subst (λ (b : List ℕ). SpellsSchedule events has.times b) (sym same) has.spelled) h.refuses.refused
schedule_stops c s events name answer text told has free h = file_stops c s name has.bytes answer text told has.kept free h

-- ---- runs that were loaded

run_stops : (c : FolderCall) (program log : List ℕ) (answer : Status) (text : List ℕ) → (has : HasProgram c program) → (has_log : HasLog c log) → RunsTo has.of_program has_log.of_log
    → StopsAfterLog c program log (λ p l. RunStops p l answer text) → ⊥
run_stops c program log status.Diverged text has has_log runs h =
    let p = same_program c program h.of_program has h.loads in
    let l = same_log c log h.of_log has.told has_log h.loads_log in
    let d = subst (λ (x : PlainProgram). TellsDivergence x h.of_log text) p h.stop in
    let d' = subst (λ (x : PlainLog). TellsDivergence has.of_program x text) l d in
    doesnt_diverge has.of_program has_log.of_log runs.machine d'.clock d'.thread runs.runs runs.ends d'.diverges
run_stops c program log _ text has has_log runs h = h.stop

state_stops : (c : FolderCall) (program log : List ℕ) (clock : ℕ) (answer : Status) (text : List ℕ) → (has : HasProgram c program) → (has_log : HasLog c log) → RunsUpTo has.of_program has_log.of_log clock
    → StopsAfterLog c program log (λ p l. StateStops p l clock answer text) → ⊥
state_stops c program log clock status.Diverged text has has_log runs h =
    let p = same_program c program h.of_program has h.loads in
    let l = same_log c log h.of_log has.told has_log h.loads_log in
    let d = subst (λ (x : PlainProgram). TellsEarlyDivergence x h.of_log clock text) p h.stop in
    let d' = subst (λ (x : PlainLog). TellsEarlyDivergence has.of_program x clock text) l d in
    doesnt_diverge_before has.of_program has_log.of_log runs.machine clock d'.clock d'.thread runs.runs d'.diverges
state_stops c program log clock _ text has has_log runs h = h.stop

same_times : (c : FolderCall) (events : ℕ) (name times : List ℕ) → IsTrue c.told → (has : HasSchedule c events name) → LoadsSchedule c events name times → times ≡ has.times
same_times c events name times told has loads =
    let same = same_some (c.before name) loads.bytes has.bytes (loads.loaded told) has.kept in
    one-schedule events times has.times has.bytes (subst (λ (b : List ℕ). SpellsSchedule events times b) same loads.spelled) has.spelled

derive_stops : (c : FolderCall) (s : SinkCall) (program log : List ℕ) (answer : Status) (text : List ℕ) → CanDerive c s program log → StopsAfterLog c program log (λ p l. DeriveStops p l answer text) → ⊥
derive_stops c s program log status.Diverged text can h =
    let p = same_program c program h.of_program can.has h.loads in
    let l = same_log c log h.of_log can.has.told can.has_log h.loads_log in
    let d = subst (λ (x : PlainProgram). TellsDivergence x h.of_log text) p h.stop in
    let d' = subst (λ (x : PlainLog). TellsDivergence can.has.of_program x text) l d in
    doesnt_diverge can.has.of_program can.has_log.of_log can.runs.machine d'.clock d'.thread can.runs.runs can.runs.ends d'.diverges
derive_stops c s program log status.ScheduleRefused text can h =
    let p = same_program c program h.of_program can.has h.loads in
    let l = same_log c log h.of_log can.has.told can.has_log h.loads_log in
    let d = subst (λ (x : PlainProgram). TellsTooMany x h.of_log text) p h.stop in
    let d' = subst (λ (x : PlainLog). TellsTooMany can.has.of_program x text) l d in
    can.few d'.clock d'.more
derive_stops c s program log _ text can h = h.stop

seek_stops : (c : FolderCall) (s : SinkCall) (program : List ℕ) (seed tries events : ℕ) (answer : Status) (text : List ℕ) → CanSeek c s program seed tries events
    → StopsAfterProgram c program (λ p. SeekStops p seed tries events answer text) → ⊥
seek_stops c s program seed tries events status.NotFound text can h =
    let p = same_program c program h.of_program can.has h.loads in
    let none = subst (λ (x : PlainProgram). NoneBelow x seed events (tries + 1)) p h.stop.0 in
    let no = none can.at can.counted (omega (arith, can.within)) in
    let bad : true ≡ false = sym can.faulty ∙ no in
    cc
seek_stops c s program seed tries events _ text can h = h.stop

isolate_stops : (c : FolderCall) (s : SinkCall) (program pass fail : List ℕ) (tests events : ℕ) (answer : Status) (text : List ℕ) → CanIsolate c s program pass fail tests events
    → StopsAfterSchedules c program pass fail events (λ p passing failing. IsolateStops p events passing failing tests answer text) → ⊥
isolate_stops c s program pass fail tests events status.NotPassing text can h =
    let p = same_program c program h.of_program can.has h.loads in
    let l = same_times c events pass h.passing can.has.told can.has_pass h.loads_pass in
    let d = subst (λ (x : PlainProgram). TellsNotPassing x events h.passing text) p h.stop in
    let d' = subst (λ (ts : List ℕ). TellsNotPassing can.has.of_program events ts text) l d in
    d'.other (same_some (end_under can.has.of_program events (run can.has.of_program (schedule_threads can.has.of_program can.has_pass.times events))) d'.end end.Done d'.ends can.passes)
isolate_stops c s program pass fail tests events status.NotFailing text can h =
    let p = same_program c program h.of_program can.has h.loads in
    let l = same_times c events fail h.failing can.has.told can.has_fail h.loads_fail in
    let d = subst (λ (x : PlainProgram). TellsNotFailing x events h.passing h.failing text) p h.stop in
    let d' = subst (λ (ts : List ℕ). TellsNotFailing can.has.of_program events h.passing ts text) l d in
    d'.no_fault can.fault (same_some (end_under can.has.of_program events (run can.has.of_program (schedule_threads can.has.of_program can.has_fail.times events))) d'.end (end.Fault can.fault) d'.ends can.fails)
isolate_stops c s program pass fail tests events status.TestsSpent text can h =
    let p = same_program c program h.of_program can.has h.loads in
    let k = same_times c events pass h.passing can.has.told can.has_pass h.loads_pass in
    let l = same_times c events fail h.failing can.has.told can.has_fail h.loads_fail in
    let d = subst (λ (x : PlainProgram). NeedsMore x events h.passing h.failing tests) p h.stop.0 in
    let d' = subst (λ (ts : List ℕ). NeedsMore can.has.of_program events ts h.failing tests) k d in
    let d'' = subst (λ (ts : List ℕ). NeedsMore can.has.of_program events can.has_pass.times ts tests) l d' in
    let ends = same_some (end_under can.has.of_program events (run can.has.of_program (schedule_threads can.has.of_program can.has_fail.times events))) (end.Fault d''.fault) (end.Fault can.fault) d''.fails can.fails in
    let same : d''.fault ≡ can.fault = cc in
    let more = subst (λ f. tests < tests_between can.has.of_program events f can.has_pass.times can.has_fail.times) same d''.more in
    omega (arith, more, can.enough)
isolate_stops c s program pass fail tests events _ text can h = h.stop

reduce_stops : (c : FolderCall) (s : SinkCall) (program fail : List ℕ) (tests events : ℕ) (answer : Status) (text : List ℕ) → CanReduce c s program fail tests events
    → StopsAfterSchedule c program fail events (λ p failing. ReduceStops p events failing tests answer text) → ⊥
reduce_stops c s program fail tests events status.NotFailing text can h =
    let p = same_program c program h.of_program can.has h.loads in
    let l = same_times c events fail h.times can.has.told can.has_fail h.loads_schedule in
    let d = subst (λ (x : PlainProgram). TellsNoFault x events h.times text) p h.stop in
    let d' = subst (λ (ts : List ℕ). TellsNoFault can.has.of_program events ts text) l d in
    d'.no_fault can.fault (same_some (end_under can.has.of_program events (run can.has.of_program (schedule_threads can.has.of_program can.has_fail.times events))) d'.end (end.Fault can.fault) d'.ends can.fails)
reduce_stops c s program fail tests events status.TestsSpent text can h =
    let p = same_program c program h.of_program can.has h.loads in
    let l = same_times c events fail h.times can.has.told can.has_fail h.loads_schedule in
    let d = subst (λ (x : PlainProgram). reduction.NeedsMore x events h.times tests) p h.stop.0 in
    let d' = subst (λ (ts : List ℕ). reduction.NeedsMore can.has.of_program events ts tests) l d in
    let ends = same_some (end_under can.has.of_program events (run can.has.of_program (schedule_threads can.has.of_program can.has_fail.times events))) (end.Fault d'.fault) (end.Fault can.fault) d'.fails can.fails in
    let same : d'.fault ≡ can.fault = cc in
    let more = subst (λ f. tests < reduction.tests_on can.has.of_program events f can.has_fail.times) same d'.more in
    omega (arith, more, can.enough)
reduce_stops c s program fail tests events _ text can h = h.stop

drill_stops : (c : FolderCall) (workers : ℕ) (program : List ℕ) (answer : Status) (text : List ℕ) (p : PlainProgram) → IsAccepted (drill_text workers) p → DrillStops c workers program answer text → ⊥
drill_stops c workers program status.ProgramRefused text p is h = no_fault (drill_text workers) p h.1.fault text is h.1.tells
drill_stops c workers program _ text p is h = h

-- ---- commands

stops_never : (asked : Request) (c : FolderCall) (s : SinkCall) (answer : Status) (text : List ℕ) → CanDo asked c s → Stops asked c answer text → ⊥
stops_never (Check program) c s answer text can h = program_stops c s program answer text can.has can.free h.1
stops_never (Record program log lanes events) c s answer text can h = program_stops c s program answer text can.has can.free h.1
stops_never (Replay program log lanes) c s answer text can h =
    ⊎_elim (program_stops c s program answer text can.has can.free)
    (λ b. ⊎_elim (λ (a : AtLog c program log answer text). log_stops c s log answer text can.has.told can.has_log can.free a.stop) (run_stops c program log answer text can.has can.has_log can.runs) b) h.1
stops_never (Show program log clock) c s answer text can h =
    ⊎_elim (program_stops c s program answer text can.has can.free)
    (λ b. ⊎_elim (λ (a : AtLog c program log answer text). log_stops c s log answer text can.has.told can.has_log can.free a.stop) (state_stops c program log clock answer text can.has can.has_log can.runs) b) h.1
stops_never (Run program schedule events) c s answer text can h =
    ⊎_elim (program_stops c s program answer text can.has can.free)
    (λ (a : AtSchedule c program schedule events answer text). schedule_stops c s events schedule answer text can.has.told can.has_schedule can.free a.stop) h.1
stops_never (Drill workers program) c s answer text can h = drill_stops c workers program answer text can.of_program can.accepted h
stops_never (Derive program log schedule) c s answer text can h =
    ⊎_elim (program_stops c s program answer text can.has can.free)
    (λ b. ⊎_elim (λ (a : AtLog c program log answer text). log_stops c s log answer text can.has.told can.has_log can.free a.stop) (derive_stops c s program log answer text can) b) h.1
stops_never (Seek program seed tries schedule events) c s answer text can h =
    ⊎_elim (program_stops c s program answer text can.has can.free) (seek_stops c s program seed tries events answer text can) h.1
stops_never (Isolate program pass fail tests workers events) c s answer text can h =
    ⊎_elim (program_stops c s program answer text can.has can.free)
    (λ b. ⊎_elim (λ (a : AtSchedule c program pass events answer text). schedule_stops c s events pass answer text can.has.told can.has_pass can.free a.stop)
    (λ d. ⊎_elim (λ (a : StopsAfterSchedule c program pass events (λ p passing. ScheduleStops c events fail answer text)). schedule_stops c s events fail answer text can.has.told can.has_fail can.free a.stop)
    (isolate_stops c s program pass fail tests events answer text can) d) b) h.1
stops_never (Reduce program fail schedule tests events) c s answer text can h =
    ⊎_elim (program_stops c s program answer text can.has can.free)
    (λ b. ⊎_elim (λ (a : AtSchedule c program fail events answer text). schedule_stops c s events fail answer text can.has.told can.has_fail can.free a.stop)
    (reduce_stops c s program fail tests events answer text can) b) h.1
stops_never (Races program log) c s answer text can h =
    ⊎_elim (program_stops c s program answer text can.has can.free)
    (λ b. ⊎_elim (λ (a : AtLog c program log answer text). log_stops c s log answer text can.has.told can.has_log can.free a.stop) (run_stops c program log answer text can.has can.has_log can.runs) b) h.1
stops_never (Tiles log) c s answer text can h = log_stops c s log answer text can.told can.has_log can.free h.1
stops_never Unknown c s answer text can h = can

store_never : (asked : Request) (c : FolderCall) (s : SinkCall) → CanDo asked c s → StoreIsLost asked c → ⊥
store_never (Check program) c s can h = h
store_never (Record program log lanes events) c s can h = can.no_store h.stop.fault
store_never (Replay program log lanes) c s can h = h
store_never (Show program log clock) c s can h = h
store_never (Run program schedule events) c s can h = h
store_never (Drill workers program) c s can h = can.no_store h.fault
store_never (Derive program log schedule) c s can h = can.no_store h.stop.fault
store_never (Seek program seed tries schedule events) c s can h = can.no_store h.stop.fault
store_never (Isolate program pass fail tests workers events) c s can h = h
store_never (Reduce program fail schedule tests events) c s can h = can.no_store h.stop.fault
store_never (Races program log) c s can h = h
store_never (Tiles log) c s can h = h
store_never Unknown c s can h = can

unhindered : (asked : Request) (c : FolderCall) (s : SinkCall) → CanDo asked c s → IsUnhindered c s
unhindered (Check program) c s can = can.free
unhindered (Record program log lanes events) c s can = can.free
unhindered (Replay program log lanes) c s can = can.free
unhindered (Show program log clock) c s can = can.free
unhindered (Run program schedule events) c s can = can.free
unhindered (Drill workers program) c s can = can.free
unhindered (Derive program log schedule) c s can = can.free
unhindered (Seek program seed tries schedule events) c s can = can.free
unhindered (Isolate program pass fail tests workers events) c s can = can.free
unhindered (Reduce program fail schedule tests events) c s can = can.free
unhindered (Races program log) c s can = can.free
unhindered (Tiles log) c s can = can.free
unhindered Unknown c s can = absurd can

pub is_complete : (asked : Request) (c : FolderCall) (s : SinkCall) (answer : Status) → Answers asked c s answer → IsComplete asked c s answer
is_complete asked c s status.Ok a = λ can. inl refl
is_complete asked c s status.OutOfMemory a = λ can. inr refl
is_complete asked c s status.WriteFault a = λ can. absurd (⊎_elim (λ l. store_never asked c s can l.0) (λ l. (unhindered asked c s can).no_put l.lost.fault) a)
is_complete asked c s answer a = λ can. absurd (stops_never asked c s answer a.text can a.tells)
