-- What folders and sinks answer, and what they hold.
use Rattle.std.specs.Prelude.{◌≡◌, ◌≢◌, ℕ, ◌+◌, ◌-◌, ◌^◌, ◌==◌, if◌then◌else◌, ◌<◌, ◌≤◌, Bool, List, ◌++◌, length, take, Option, Some, None, IsTrue}
use Rattle.tool_io.specs.declared.folder.Load.{Load}
use Rattle.tool_io.specs.declared.folder.Load.TheVariants as load
use Rattle.tool_io.specs.declared.folder.Store.{Store}
use Rattle.tool_io.specs.declared.folder.Store.TheVariants as store
use Rattle.tool_io.specs.declared.sink.Put.{Put}
use Rattle.tool_io.specs.declared.sink.Put.TheVariants as put

-- a count after one call more, of those that it counts: it ends at 2^64 - 1
abbrev pub raised_count : ℕ → ℕ
raised_count count = if count == 2 ^ 64 - 1 then count else count + 1

-- what a load gives, where the folder tells what it holds under the name
abbrev pub LoadGives : Bool → Option (List ℕ) → Load → Type 0
LoadGives told file (load.Loaded bytes) = IsTrue told → file ≡ Some bytes.items
LoadGives told file load.Absent = IsTrue told → file ≡ None
LoadGives told file load.Failed = Unit {0}
LoadGives told file load.NoMemory = Unit {0}

-- a load that fails raises the count of failed loads, and no other one does
abbrev pub LoadFails : ℕ → ℕ → Load → Type 0
LoadFails old new (load.Loaded bytes) = new ≡ old
LoadFails old new load.Absent = new ≡ old
LoadFails old new load.Failed = new ≡ raised_count old
LoadFails old new load.NoMemory = new ≡ old

abbrev pub HasLoadFailed : Load → Type 0
HasLoadFailed (load.Loaded bytes) = ⊥
HasLoadFailed load.Absent = ⊥
HasLoadFailed load.Failed = Unit {0}
HasLoadFailed load.NoMemory = ⊥

-- all files but the one of this name are as they were
abbrev pub SameButOne : (List ℕ → Option (List ℕ)) → (List ℕ → Option (List ℕ)) → List ℕ → Type 0
SameButOne old new name = (other : List ℕ) → other ≢ name → new other ≡ old other

-- the name has these bytes now, and all other files are as they were
abbrev pub SetsFile : (List ℕ → Option (List ℕ)) → (List ℕ → Option (List ℕ)) → List ℕ → List ℕ → Type 0
SetsFile old new name bytes = (new name ≡ Some bytes) × SameButOne old new name

abbrev pub SameFiles : (List ℕ → Option (List ℕ)) → (List ℕ → Option (List ℕ)) → Type 0
SameFiles old new = (name : List ℕ) → new name ≡ old name

-- what a store leaves, where the folder tells what it holds
abbrev pub StoreGives : Bool → (List ℕ → Option (List ℕ)) → (List ℕ → Option (List ℕ)) → List ℕ → List ℕ → Store → Type 0
StoreGives told old new name bytes store.Stored = IsTrue told → SetsFile old new name bytes
StoreGives told old new name bytes store.Failed = IsTrue told → SameButOne old new name
StoreGives told old new name bytes store.NoMemory = IsTrue told → SameFiles old new

-- a store that fails raises the count of failed stores, and no other one does
abbrev pub StoreFails : ℕ → ℕ → Store → Type 0
StoreFails old new store.Stored = new ≡ old
StoreFails old new store.Failed = new ≡ raised_count old
StoreFails old new store.NoMemory = new ≡ old

abbrev pub HasStoreFailed : Store → Type 0
HasStoreFailed store.Stored = ⊥
HasStoreFailed store.Failed = Unit {0}
HasStoreFailed store.NoMemory = ⊥

-- what a put takes, where the sink tells the bytes taken so far
abbrev pub PutGives : Bool → List ℕ → List ℕ → List ℕ → Put → Type 0
PutGives told old new piece (put.Taken n) = IsTrue told → new ≡ old ++ take n piece
PutGives told old new piece put.Failed = IsTrue told → new ≡ old

-- a put takes some of a piece that isn't empty, and no more than it has
abbrev pub PutTakes : List ℕ → Put → Type 0
PutTakes piece (put.Taken n) = (0 < length piece → 0 < n) × (n ≤ length piece)
PutTakes piece put.Failed = Unit {0}

-- a put that doesn't fail takes so many bytes
abbrev pub PutCounts : ℕ → Put → Type 0
PutCounts count (put.Taken n) = n ≡ count
PutCounts count put.Failed = Unit {0}

-- a put that fails raises the count of failed puts, and no other one does
abbrev pub PutFails : ℕ → ℕ → Put → Type 0
PutFails old new (put.Taken n) = new ≡ old
PutFails old new put.Failed = new ≡ raised_count old

abbrev pub HasPutFailed : Put → Type 0
HasPutFailed (put.Taken n) = ⊥
HasPutFailed put.Failed = Unit {0}

-- the sink took a prefix of the bytes
abbrev pub TakesPrefix : Bool → List ℕ → List ℕ → List ℕ → Type 0
TakesPrefix told old new bytes = (n : ℕ) × (IsTrue told → new ≡ old ++ take n bytes)
