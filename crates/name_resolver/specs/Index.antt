-- Byte strings and their numbers.
use Rattle.std.specs.Prelude.{ℕ, List, [], ◌∷◌, ◌++◌, bytes_eq, is_some, Option, if◌then◌else◌}
use Rattle.std.specs.Map.{lookup}

abbrev pub Rows : Type 0
Rows = List (List ℕ × ℕ)

-- the number of the first row of this key
abbrev pub value_of : List ℕ → Rows → Option ℕ
value_of key rows = lookup (bytes_eq key) rows

-- a key that is there keeps its number
abbrev pub with_row : List ℕ → ℕ → Rows → Rows
with_row key n rows = if is_some (value_of key rows) then rows else rows ++ (key, n) ∷ []
