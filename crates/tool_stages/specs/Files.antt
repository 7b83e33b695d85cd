-- What the files of a command hold, and why one leads to nothing.
use Rattle.std.specs.Prelude.{◌≡◌, ℕ, List, Err}
use Rattle.vm_model.specs.Program.{PlainProgram}
use Rattle.schedule_log.specs.declared.fault.LogKind.{LogKind}
use Rattle.schedule_log.specs.declared.fault.LogFault.TheVariants.{At}
use Rattle.schedule_log.specs.Faults.{kind_number}
use Rattle.schedule_log.specs.Logs.{PlainLog}
use Rattle.schedule_log.specs.Reading.{read_log}
use Rattle.schedule_log.specs.Spelling.{Spells}
use Rattle.switch_schedule.specs.declared.fault.ScheduleKind.{ScheduleKind}
use Rattle.switch_schedule.specs.Texts as times
use Rattle.jasmin_text.specs.Texts as texts
use Rattle.jasmin_lines.specs.Faults as read
use Rattle.name_resolver.specs.Faults as link
use Rattle.shape_lattice.specs.declared.fault.ShapeKind.{ShapeKind}
use Rattle.shape_lattice.specs.Faults as shape
use Rattle.tool_stages.specs.declared.status.Status.{Status}
use Rattle.tool_stages.specs.declared.status.Status.TheVariants as status
use Rattle.tool_stages.specs.declared.programs.ProgramFault.{ProgramFault}
use Rattle.tool_stages.specs.declared.programs.ProgramFault.TheVariants as fault
use Rattle.tool_stages.specs.Accepting.{linked, IsAccepted, IsUnverified}
use Rattle.tool_stages.specs.Calls.{FolderCall, Loads, Misses, LoadFails}
use Rattle.tool_stages.specs.Lines.{absent_line, read_fault_line, text_line, read_line, link_line, shape_line, log_refused_line, schedule_refused_line}

-- ---- what a file holds

-- the file of this name has the accepted text of the program
pub record LoadsProgram (c : FolderCall) (name : List ℕ) (p : PlainProgram) : Type 0 where
  pub text : List ℕ
  pub loaded : Loads c name text
  pub accepted : IsAccepted text p

-- the file of this name has the bytes that spell the log
pub record LoadsLog (c : FolderCall) (name : List ℕ) (log : PlainLog) : Type 0 where
  pub bytes : List ℕ
  pub loaded : Loads c name bytes
  pub spelled : Spells log bytes

-- the file of this name has the bytes that spell these times, none above the number of events
pub record LoadsSchedule (c : FolderCall) (events : ℕ) (name schedule : List ℕ) : Type 0 where
  pub bytes : List ℕ
  pub loaded : Loads c name bytes
  pub spelled : times.SpellsSchedule events schedule bytes

-- ---- why it leads to nothing

-- the line of a text that is linked and not verified, with the method's name in its program
pub record TellsShape (text : List ℕ) (kind : ShapeKind) (method at : ℕ) (printed : List ℕ) : Type 0 where
  pub unverified : IsUnverified text method (record { kind = kind; at = at })
  pub prints : printed ≡ shape_line unverified.program (shape.kind_number kind) method at

-- the line of a text's fault
abbrev pub TellsFault : List ℕ → ProgramFault → List ℕ → Type 0
TellsFault text (fault.Text kind line column) printed = (linked text ≡ Err (fault.Text kind line column)) × (printed ≡ text_line (texts.kind_number kind) line column)
TellsFault text (fault.Read kind line) printed = (linked text ≡ Err (fault.Read kind line)) × (printed ≡ read_line (read.kind_number kind) line)
TellsFault text (fault.Link kind line) printed = (linked text ≡ Err (fault.Link kind line)) × (printed ≡ link_line (link.kind_number kind) line)
TellsFault text (fault.Shape kind method at) printed = TellsShape text kind method at printed
TellsFault text fault.NoMemory printed = ⊥

-- why a text isn't accepted
pub record RefusesText (text printed : List ℕ) : Type 0 where
  pub fault : ProgramFault
  pub tells : TellsFault text fault printed

-- the first fault of bytes that spell no log
pub record RefusesBytes (bytes printed : List ℕ) : Type 0 where
  pub kind : LogKind
  pub offset : ℕ
  pub refused : read_log bytes ≡ Err (At kind offset)
  pub prints : printed ≡ log_refused_line (kind_number kind) offset

-- the first fault of bytes that spell no schedule for so many events
pub record RefusesTimes (events : ℕ) (bytes printed : List ℕ) : Type 0 where
  pub kind : ScheduleKind
  pub offset : ℕ
  pub refused : times.FaultsAt kind offset events bytes
  pub prints : printed ≡ schedule_refused_line (times.kind_number kind) offset

-- the file of this name has a text that isn't accepted
pub record RefusesProgram (c : FolderCall) (name printed : List ℕ) : Type 0 where
  pub text : List ℕ
  pub loaded : Loads c name text
  pub refuses : RefusesText text printed

-- the file of this name has bytes that spell no log
pub record RefusesLog (c : FolderCall) (name printed : List ℕ) : Type 0 where
  pub bytes : List ℕ
  pub loaded : Loads c name bytes
  pub refuses : RefusesBytes bytes printed

-- the file of this name has bytes that spell no schedule for so many events
pub record RefusesSchedule (c : FolderCall) (events : ℕ) (name printed : List ℕ) : Type 0 where
  pub bytes : List ℕ
  pub loaded : Loads c name bytes
  pub refuses : RefusesTimes events bytes printed

-- ---- stops: the status that comes, and its line

-- the file isn't there, or can't be loaded
abbrev pub FileStops : FolderCall → List ℕ → Status → List ℕ → Type 0
FileStops c name status.Absent printed = Misses c name × (printed ≡ absent_line name)
FileStops c name status.ReadFault printed = LoadFails c × (printed ≡ read_fault_line name)
FileStops c name _ printed = ⊥

-- the file of the program leads to no program
abbrev pub ProgramStops : FolderCall → List ℕ → Status → List ℕ → Type 0
ProgramStops c name status.ProgramRefused printed = RefusesProgram c name printed
ProgramStops c name status printed = FileStops c name status printed

-- the file of the log leads to no log
abbrev pub LogStops : FolderCall → List ℕ → Status → List ℕ → Type 0
LogStops c name status.LogRefused printed = RefusesLog c name printed
LogStops c name status printed = FileStops c name status printed

-- the file of the schedule leads to no schedule
abbrev pub ScheduleStops : FolderCall → ℕ → List ℕ → Status → List ℕ → Type 0
ScheduleStops c events name status.ScheduleRefused printed = RefusesSchedule c events name printed
ScheduleStops c events name status printed = FileStops c name status printed
