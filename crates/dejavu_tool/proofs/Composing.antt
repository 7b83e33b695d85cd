-- Calls that only read, and then one more.
use Rattle.std.proofs.Common.{◌≡◌, ℕ, List, sym, subst, ◌∙◌, IsTrue}
use Rattle.vm_model.specs.Program.{PlainProgram}
use Rattle.schedule_log.specs.Logs.{PlainLog}
use Rattle.command_line.specs.Requests.{Derive, Record, Reduce, Seek}
use Rattle.tool_stages.specs.declared.halt.Halt.{Halt}
use Rattle.tool_stages.specs.declared.halt.Halt.TheVariants as halt
use Rattle.tool_stages.specs.declared.status.Status.{Status}
use Rattle.tool_stages.specs.Calls.{FolderCall, IsUntouched}
use Rattle.tool_stages.specs.Files.{LoadsLog, LoadsProgram, LoadsSchedule}
use Rattle.tool_stages.specs.Stages.{HaltsBy, LosesFile, StoreHalts}
use Rattle.dejavu_tool.specs.Answers.{Halts}

-- c is b, which only reads, and then d
pub record Composed (b d c : FolderCall) : Type 0 where
  pub told : d.told ≡ b.told
  pub c_told : c.told ≡ b.told
  pub before : (n : List ℕ) → c.before n ≡ b.before n
  pub between : (n : List ℕ) → d.before n ≡ b.before n
  pub after : (n : List ℕ) → c.after n ≡ d.after n
  pub stores : c.stores_before ≡ d.stores_before
  pub stores_after : c.stores_after ≡ d.stores_after

told_later : (b d c : FolderCall) → Composed b d c → IsTrue c.told → IsTrue d.told
told_later b d c k t = subst IsTrue (k.c_told ∙ sym k.told) t

pub loads_program : (b d c : FolderCall) (name : List ℕ) (p : PlainProgram) → Composed b d c → LoadsProgram b name p → LoadsProgram c name p
loads_program b d c name p k l = record { text = l.text; loaded = λ t. k.before name ∙ l.loaded (subst IsTrue k.c_told t); accepted = l.accepted }

pub untouched : (b d c : FolderCall) → Composed b d c → IsUntouched d → IsUntouched c
untouched b d c k h = λ t name. k.after name ∙ h (told_later b d c k t) name ∙ k.between name ∙ sym (k.before name)

pub loses_file : (b d c : FolderCall) (name : List ℕ) → Composed b d c → LosesFile d name → LosesFile c name
loses_file b d c name k h = record {
  fault = rw (k.stores, k.stores_after) h.fault;
  others = λ t other ne. k.after other ∙ h.others (told_later b d c k t) other ne ∙ k.between other ∙ sym (k.before other);
}

-- a recording that isn't stored
pub then_store : (b d c : FolderCall) (program log : List ℕ) (lanes events : ℕ) (p : PlainProgram) (h : Halt) → Composed b d c → LoadsProgram b program p → StoreHalts d log h → Halts (Record program log lanes events) c h
then_store b d c program log lanes events p (halt.Told st line) k l h = absurd h
then_store b d c program log lanes events p halt.Memory k l h = untouched b d c k h
then_store b d c program log lanes events p halt.Store k l h = record { of_program = p; loads = loads_program b d c program p k l; stop = loses_file b d c log k h }

pub loads_log : (b d c : FolderCall) (name : List ℕ) (l : PlainLog) → Composed b d c → LoadsLog b name l → LoadsLog c name l
loads_log b d c name l k h = record { bytes = h.bytes; loaded = λ t. k.before name ∙ h.loaded (subst IsTrue k.c_told t); spelled = h.spelled }

-- a schedule that was found and isn't stored
pub seek_store : (b d c : FolderCall) (program : List ℕ) (seed tries : ℕ) (schedule : List ℕ) (events : ℕ) (p : PlainProgram) (h : Halt) → Composed b d c → LoadsProgram b program p → StoreHalts d schedule h
    → Halts (Seek program seed tries schedule events) c h
seek_store b d c program seed tries schedule events p (halt.Told st line) k l h = absurd h
seek_store b d c program seed tries schedule events p halt.Memory k l h = untouched b d c k h
seek_store b d c program seed tries schedule events p halt.Store k l h = record { of_program = p; loads = loads_program b d c program p k l; stop = loses_file b d c schedule k h }

-- a schedule that was derived and isn't stored
pub derive_store : (b d c : FolderCall) (program log schedule : List ℕ) (p : PlainProgram) (l : PlainLog) (h : Halt) → Composed b d c → LoadsProgram b program p → LoadsLog b log l → StoreHalts d schedule h
    → Halts (Derive program log schedule) c h
derive_store b d c program log schedule p l (halt.Told st line) k loads kept h = absurd h
derive_store b d c program log schedule p l halt.Memory k loads kept h = untouched b d c k h
derive_store b d c program log schedule p l halt.Store k loads kept h =
    record { of_program = p; loads = loads_program b d c program p k loads; of_log = l; loads_log = loads_log b d c log l k kept; stop = loses_file b d c schedule k h }

pub loads_schedule : (b d c : FolderCall) (events : ℕ) (name times : List ℕ) → Composed b d c → LoadsSchedule b events name times → LoadsSchedule c events name times
loads_schedule b d c events name times k h = record { bytes = h.bytes; loaded = λ t. k.before name ∙ h.loaded (subst IsTrue k.c_told t); spelled = h.spelled }

-- a schedule that was reduced and isn't stored
pub reduce_store : (b d c : FolderCall) (program fail schedule : List ℕ) (tests events : ℕ) (p : PlainProgram) (times : List ℕ) (h : Halt) → Composed b d c → LoadsProgram b program p → LoadsSchedule b events fail times → StoreHalts d schedule h
    → Halts (Reduce program fail schedule tests events) c h
reduce_store b d c program fail schedule tests events p times (halt.Told st line) k loads kept h = absurd h
reduce_store b d c program fail schedule tests events p times halt.Memory k loads kept h = untouched b d c k h
reduce_store b d c program fail schedule tests events p times halt.Store k loads kept h =
    record { of_program = p; loads = loads_program b d c program p k loads; times = times; loads_schedule = loads_schedule b d c events fail times k kept; stop = loses_file b d c schedule k h }

-- a stage that stops so stops the whole
pub stops_so : (A B : Status → List ℕ → Type 0) (h : Halt) → ((st : Status) (line : List ℕ) → A st line → B st line) → HaltsBy A h → HaltsBy B h
stops_so A B (halt.Told st line) f h = f st line.items h
stops_so A B halt.Memory f h = h
stops_so A B halt.Store f h = h
