-- The folder and the sink in memory.
use Rattle.std.specs.Prelude.{◌≡◌, ◌<◌, length, take, slice_index_or, ℕ, ◌+◌, ◌-◌, ◌^◌, ◌==◌, if◌then◌else◌, List, [], ◌∷◌, Option, Some, None, Vec}
use Rattle.std.specs.Str.{bytes_eq}
use Rattle.std.specs.Global.{Global}

-- a name and its bytes
abbrev pub Stored : Type 0
Stored = List ℕ × Vec ℕ Global

abbrev pub name_of : Stored → List ℕ
name_of f = f.0

-- the bytes of the first file of a name
abbrev pub file_in : List Stored → List ℕ → Option (List ℕ)
file_in [] name = None
file_in (f ∷ fs) name = if bytes_eq f.0 name then Some f.1.items else file_in fs name

pub record FolderValue : Type 0 where
  pub files : List Stored
  pub failing : List ℕ
  pub calls : ℕ
  pub load_faults : ℕ
  pub store_faults : ℕ

-- the bytes taken so far, the room for more, the most that a put takes, and the puts that are to fail
pub record SinkValue : Type 0 where
  pub taken : List ℕ
  pub room : ℕ
  pub most : ℕ
  pub failing : List ℕ
  pub calls : ℕ
  pub faults : ℕ

-- the first file of the name stands at this place
pub record IsPlaceOf (files : List Stored) (name : List ℕ) (i : ℕ) : Type 0 where
  pub within : i < length files
  pub before : file_in (take i files) name ≡ None
  pub there : (d : Stored) → (slice_index_or files i d).0 ≡ name

-- no two files have one name
abbrev pub AreDistinct : List Stored → Type 0
AreDistinct [] = Unit {0}
AreDistinct (f ∷ fs) = (file_in fs f.0 ≡ None) × AreDistinct fs
