-- What one of several calls that only read found, of the whole.
use Rattle.std.proofs.Common.{◌≡◌, ℕ, List, Result, Ok, Err, subst, sym, ap, ◌∙◌, IsTrue, inl, inr}
use Rattle.std.specs.Prelude.{IfErr, IfOk}
use Rattle.vm_model.specs.Program.{PlainProgram}
use Rattle.schedule_log.specs.Logs.{PlainLog}
use Rattle.tool_io.specs.Outside.{raised_count}
use Rattle.command_line.specs.Requests.{Isolate}
use Rattle.tool_stages.specs.declared.halt.Halt.{Halt}
use Rattle.tool_stages.specs.declared.halt.Halt.TheVariants as halt
use Rattle.tool_stages.specs.declared.status.Status.{Status}
use Rattle.tool_stages.specs.declared.status.Status.TheVariants as status
use Rattle.tool_stages.specs.Calls.{FolderCall, IsUntouched}
use Rattle.tool_stages.specs.Files.{FileStops, LoadsLog, LoadsProgram, LoadsSchedule, ScheduleStops}
use Rattle.tool_stages.specs.Stages.{HaltsBy}
use Rattle.dejavu_tool.specs.Answers.{Halts, Isolates}
use Rattle.dejavu_tool.specs.Runs.{IsolateStops, TellsIsolated}

-- both began with the same files
pub record Earlier (b c : FolderCall) : Type 0 where
  pub told : c.told ≡ b.told
  pub before : (n : List ℕ) → c.before n ≡ b.before n

pub program_earlier : (b c : FolderCall) (name : List ℕ) (p : PlainProgram) → Earlier b c → LoadsProgram b name p → LoadsProgram c name p
program_earlier b c name p k l = record { text = l.text; loaded = λ t. k.before name ∙ l.loaded (subst IsTrue k.told t); accepted = l.accepted }

pub log_earlier : (b c : FolderCall) (name : List ℕ) (log : PlainLog) → Earlier b c → LoadsLog b name log → LoadsLog c name log
log_earlier b c name log k l = record { bytes = l.bytes; loaded = λ t. k.before name ∙ l.loaded (subst IsTrue k.told t); spelled = l.spelled }

pub schedule_earlier : (b c : FolderCall) (events : ℕ) (name times : List ℕ) → Earlier b c → LoadsSchedule b events name times → LoadsSchedule c events name times
schedule_earlier b c events name times k l = record { bytes = l.bytes; loaded = λ t. k.before name ∙ l.loaded (subst IsTrue k.told t); spelled = l.spelled }

file_earlier : (b c : FolderCall) (name : List ℕ) (st : Status) (line : List ℕ) → Earlier b c → c.loads_before ≡ b.loads_before → c.loads_after ≡ b.loads_after → FileStops b name st line → FileStops c name st line
file_earlier b c name status.Absent line k count same h = (λ t. k.before name ∙ h.0 (subst IsTrue k.told t), h.1)
file_earlier b c name status.ReadFault line k count same h = (same ∙ h.0 ∙ ap raised_count (sym count), h.1)
file_earlier b c name _ line k count same h = absurd h

pub times_stop_earlier : (b c : FolderCall) (events : ℕ) (name : List ℕ) (st : Status) (line : List ℕ) → Earlier b c → c.loads_before ≡ b.loads_before → c.loads_after ≡ b.loads_after → ScheduleStops b events name st line → ScheduleStops c events name st line
times_stop_earlier b c events name status.ScheduleRefused line k count same h = record { bytes = h.bytes; loaded = λ t. k.before name ∙ h.loaded (subst IsTrue k.told t); refuses = h.refuses }
times_stop_earlier b c events name st line k count same h = file_earlier b c name st line k count same h

-- ---- an isolation

-- the second schedule isn't loaded
pub fail_halts : (b c : FolderCall) (program pass fail : List ℕ) (tests workers events : ℕ) (p : PlainProgram) (times : List ℕ) (h : Halt) → Earlier b c → c.loads_before ≡ b.loads_before → c.loads_after ≡ b.loads_after
    → IsUntouched c → LoadsProgram c program p → LoadsSchedule c events pass times → HaltsBy (ScheduleStops b events fail) h → Halts (Isolate program pass fail tests workers events) c h
fail_halts b c program pass fail tests workers events p times (halt.Told st line) k count same u l s h =
    (u, inr (inr (inl (record { of_program = p; loads = l; times = times; loads_schedule = s; stop = times_stop_earlier b c events fail st line.items k count same h }))))
fail_halts b c program pass fail tests workers events p times halt.Memory k count same u l s h = u
fail_halts b c program pass fail tests workers events p times halt.Store k count same u l s h = absurd h

-- nothing is isolated
pub isolate_halts : (c : FolderCall) (program pass fail : List ℕ) (tests workers events : ℕ) (p : PlainProgram) (passing failing : List ℕ) (h : Halt)
    → IsUntouched c → LoadsProgram c program p → LoadsSchedule c events pass passing → LoadsSchedule c events fail failing → HaltsBy (IsolateStops p events passing failing tests) h → Halts (Isolate program pass fail tests workers events) c h
isolate_halts c program pass fail tests workers events p passing failing (halt.Told st line) u l s t h =
    (u, inr (inr (inr (record { of_program = p; loads = l; passing = passing; loads_pass = s; failing = failing; loads_fail = t; stop = h }))))
isolate_halts c program pass fail tests workers events p passing failing halt.Memory u l s t h = u
isolate_halts c program pass fail tests workers events p passing failing halt.Store u l s t h = absurd h

pub isolate_halts_so : {V : Type 0} (r : Result V Halt) (c : FolderCall) (program pass fail : List ℕ) (tests workers events : ℕ) (p : PlainProgram) (passing failing : List ℕ)
    → IsUntouched c → LoadsProgram c program p → LoadsSchedule c events pass passing → LoadsSchedule c events fail failing → IfErr r (HaltsBy (IsolateStops p events passing failing tests)) → IfErr r (Halts (Isolate program pass fail tests workers events) c)
isolate_halts_so (Ok v) c program pass fail tests workers events p passing failing u l s t h = tt
isolate_halts_so (Err e) c program pass fail tests workers events p passing failing u l s t h = isolate_halts c program pass fail tests workers events p passing failing e u l s t h

pub isolates_so : {V E : Type 0} (r : Result V E) (text : V → List ℕ) (c : FolderCall) (program pass fail : List ℕ) (tests events : ℕ) (p : PlainProgram) (passing failing : List ℕ)
    → IsUntouched c → LoadsProgram c program p → LoadsSchedule c events pass passing → LoadsSchedule c events fail failing → IfOk r (λ v. TellsIsolated p events passing failing tests (text v)) → IfOk r (λ v. Isolates c program pass fail tests events (text v))
isolates_so (Ok v) text c program pass fail tests events p passing failing u l s t h =
    record { of_program = p; loads = l; passing = passing; loads_pass = s; failing = failing; loads_fail = t; isolated = h; untouched = u }
isolates_so (Err e) text c program pass fail tests events p passing failing u l s t h = tt
