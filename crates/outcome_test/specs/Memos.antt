-- What tests showed, by their times in order.
use Rattle.std.specs.Prelude.{◌≡◌, ℕ, nat_eq, List, ◌∷◌, ◌++◌, [], length, All, Option, sum_by, ◌⊎◌}
use Rattle.std.specs.Map.{lookup}
use Rattle.std.specs.Cmp.Lexicographic.{pointwise}
use Rattle.schedule_model.specs.declared.outcome.Outcome.{Outcome}

abbrev pub Rows : Type 0
Rows = List (List ℕ × Outcome)

-- what the first row of these times says
abbrev pub shown_of : List ℕ → Rows → Option Outcome
shown_of times rows = lookup (pointwise nat_eq times) rows

-- each row says what its times show
abbrev pub Remembers : (List ℕ → Outcome) → Rows → Type 0
Remembers outcome rows = All (λ row. outcome row.0 ≡ row.1) rows

-- how many times they have in all
abbrev pub times_in : Rows → ℕ
times_in rows = sum_by (λ row. length row.0) rows

-- the rows with one more at the end, or as they were
abbrev pub MayAdd : List ℕ → Outcome → Rows → Rows → Type 0
MayAdd times shown before after = (after ≡ before) ⊎ (after ≡ before ++ (times, shown) ∷ [])
