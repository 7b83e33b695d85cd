-- What a command was given and left: in the folder, and in the sink.
use Rattle.std.specs.Prelude.{◌≡◌, ℕ, Bool, List, ◌++◌, Option, Some, None, IsTrue}
use Rattle.tool_io.specs.Outside.{SameFiles, SetsFile, TakesPrefix, raised_count}

-- whether the folder tells its files, the bytes under each name before and after, and its counts of failed loads and stores
pub record FolderCall : Type 0 where
  pub told : Bool
  pub before : List ℕ → Option (List ℕ)
  pub after : List ℕ → Option (List ℕ)
  pub loads_before : ℕ
  pub loads_after : ℕ
  pub stores_before : ℕ
  pub stores_after : ℕ

-- whether the sink tells what it took, the bytes that it took before and after, and its count of failed puts
pub record SinkCall : Type 0 where
  pub told : Bool
  pub before : List ℕ
  pub after : List ℕ
  pub faults_before : ℕ
  pub faults_after : ℕ

-- these bytes were under the name
abbrev pub Loads : FolderCall → List ℕ → List ℕ → Type 0
Loads c name bytes = IsTrue c.told → c.before name ≡ Some bytes

-- nothing was under the name
abbrev pub Misses : FolderCall → List ℕ → Type 0
Misses c name = IsTrue c.told → c.before name ≡ None

-- one load failed
abbrev pub LoadFails : FolderCall → Type 0
LoadFails c = c.loads_after ≡ raised_count c.loads_before

-- one store failed
abbrev pub StoreFails : FolderCall → Type 0
StoreFails c = c.stores_after ≡ raised_count c.stores_before

-- no file changed
abbrev pub IsUntouched : FolderCall → Type 0
IsUntouched c = IsTrue c.told → SameFiles c.before c.after

-- the bytes are stored under the name, and no other file changed
abbrev pub Stores : FolderCall → List ℕ → List ℕ → Type 0
Stores c name bytes = IsTrue c.told → SetsFile c.before c.after name bytes

-- the whole text was put
abbrev pub Puts : SinkCall → List ℕ → Type 0
Puts s text = IsTrue s.told → s.after ≡ s.before ++ text

-- nothing was put
abbrev pub PutsNothing : SinkCall → Type 0
PutsNothing s = IsTrue s.told → s.after ≡ s.before

-- one put failed
abbrev pub HasPutFault : SinkCall → Type 0
HasPutFault s = s.faults_after ≡ raised_count s.faults_before

-- a put failed, when a prefix of the text was taken
pub record PutFails (s : SinkCall) (text : List ℕ) : Type 0 where
  pub fault : HasPutFault s
  pub prefix : TakesPrefix s.told s.before s.after text

-- a folder's call, of its four members and the folder before and after
abbrev pub folder_call : {F : Type 0} → (F → Bool) → (F → List ℕ → Option (List ℕ)) → (F → ℕ) → (F → ℕ) → F → F → FolderCall
folder_call told file loads stores old new =
    record { told = told old; before = file old; after = file new; loads_before = loads old; loads_after = loads new; stores_before = stores old; stores_after = stores new }

-- a sink's call, of its three members and the sink before and after
abbrev pub sink_call : {O : Type 0} → (O → Bool) → (O → List ℕ) → (O → ℕ) → O → O → SinkCall
sink_call told taken faults old new = record { told = told old; before = taken old; after = taken new; faults_before = faults old; faults_after = faults new }
