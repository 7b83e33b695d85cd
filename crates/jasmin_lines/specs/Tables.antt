-- Tables with a row for each word.
use Rattle.std.specs.Prelude.{ℕ, List, [], ◌∷◌, map, bytes_eq, Option, Some, None, if◌then◌else◌}
use denote.Ref.{Bor}

-- the rows, with the bytes that the references of the code's table point to
abbrev pub rows_of : {A : Type 0} → List (Bor (List ℕ) × A) → List (List ℕ × A)
rows_of rows = map (λ row. (row.0.now, row.1)) rows

-- what the first row of this word says
abbrev pub row_of : {A : Type 0} → List ℕ → List (List ℕ × A) → Option A
row_of word [] = None
row_of word (row ∷ rows) = if bytes_eq row.0 word then Some row.1 else row_of word rows
