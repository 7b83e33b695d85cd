-- What the stages of a command leave.
use Rattle.std.specs.Prelude.{◌≡◌, ℕ, ◌≤◌, List, ◌⊎◌, Result, Ok, Err, IsTrue}
use Rattle.tool_io.specs.Outside.{SameButOne, raised_count}
use Rattle.tool_stages.specs.declared.halt.Halt.{Halt}
use Rattle.tool_stages.specs.declared.halt.Halt.TheVariants as halt
use Rattle.tool_stages.specs.declared.status.Status.{Status}
use Rattle.tool_stages.specs.declared.status.Status.TheVariants as status
use Rattle.tool_stages.specs.Calls.{FolderCall, IsUntouched, StoreFails}
use Rattle.tool_stages.specs.Files.{RefusesBytes, RefusesText, RefusesTimes}

-- the folder was read at most
pub record OnlyReads (c : FolderCall) : Type 0 where
  pub files : (name : List ℕ) → c.after name ≡ c.before name
  pub loads : c.loads_before ≤ c.loads_after
  pub stores : c.stores_after ≡ c.stores_before

-- the count of failed loads by the status that comes: one load failed where that is the cause, else none did
abbrev pub CountsTold : ℕ → ℕ → Status → Type 0
CountsTold old new status.ReadFault = new ≡ raised_count old
CountsTold old new _ = new ≡ old

-- the same of a stage; where memory was missing it may have been for the line of a load that failed
abbrev pub CountsLoads : {X : Type 0} → ℕ → ℕ → Result X Halt → Type 0
CountsLoads old new (Ok x) = new ≡ old
CountsLoads old new (Err (halt.Told status line)) = CountsTold old new status
CountsLoads old new (Err halt.Memory) = (new ≡ old) ⊎ (new ≡ raised_count old)
CountsLoads old new (Err halt.Store) = new ≡ old

-- a stage that stores nothing: why it doesn't go on, by the status and its line
abbrev pub HaltsBy : (Status → List ℕ → Type 0) → Halt → Type 0
HaltsBy stops (halt.Told status line) = stops status line.items
HaltsBy stops halt.Memory = Unit {0}
HaltsBy stops halt.Store = ⊥

-- a text isn't accepted
abbrev pub TextStops : List ℕ → Status → List ℕ → Type 0
TextStops text status.ProgramRefused line = RefusesText text line
TextStops text _ line = ⊥

-- bytes spell no log
abbrev pub BytesStop : List ℕ → Status → List ℕ → Type 0
BytesStop bytes status.LogRefused line = RefusesBytes bytes line
BytesStop bytes _ line = ⊥

-- bytes spell no schedule
abbrev pub TimesStop : ℕ → List ℕ → Status → List ℕ → Type 0
TimesStop events bytes status.ScheduleRefused line = RefusesTimes events bytes line
TimesStop events bytes _ line = ⊥

-- the file wasn't stored, and no other file changed
pub record LosesFile (c : FolderCall) (name : List ℕ) : Type 0 where
  pub fault : StoreFails c
  pub others : IsTrue c.told → SameButOne c.before c.after name

-- the bytes aren't stored
abbrev pub StoreHalts : FolderCall → List ℕ → Halt → Type 0
StoreHalts c name (halt.Told status line) = ⊥
StoreHalts c name halt.Memory = IsUntouched c
StoreHalts c name halt.Store = LosesFile c name
