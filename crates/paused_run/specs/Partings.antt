-- Where two schedules part.
use Rattle.std.specs.Prelude.{◌≡◌, ◌≢◌, ℕ, List}
use Rattle.schedule_model.specs.Schedules.{Agree, occurrences}

-- each time occurs as often in both
abbrev pub AreAlike : List ℕ → List ℕ → Type 0
AreAlike xs ys = (time : ℕ) → occurrences xs time ≡ occurrences ys time

-- they agree below this time, which doesn't occur as often in both
pub record PartAt (time : ℕ) (xs ys : List ℕ) : Type 0 where
  pub agree : Agree time xs ys
  pub differ : occurrences xs time ≢ occurrences ys time
