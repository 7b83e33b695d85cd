-- The times of a schedule that are still to come.
use Rattle.std.specs.Prelude.{◌≡◌, ◌≤◌, ℕ, List, [], ◌∷◌}
use Rattle.machine_model.specs.Ring.{switches_at}

-- the times stand in rising order, from this one on
abbrev pub Rises : ℕ → List ℕ → Type 0
Rises from [] = Unit {0}
Rises from (time ∷ times) = (from ≤ time) × Rises time times

-- what is left of the times from this event on, in rising order
pub record Awaits (times : List ℕ) (event : ℕ) (rest : List ℕ) : Type 0 where
  pub rising : Rises event rest
  pub same : (later : ℕ) → event ≤ later → switches_at times later ≡ switches_at rest later
