-- States of whatever kind that follow one another, each at most one follower.
use Rattle.std.specs.Prelude.{ℕ, zero, suc, List, [], ◌∷◌, Option, Some, None}

module _ {S : Type 0} where
  abbrev pub then_states : Option S → (S → List S) → List S
  then_states None go = []
  then_states (Some s) go = go s

  -- a state and at most so many that follow it, one after another
  unfoldable pub states_within : (S → Option S) → ℕ → S → List S
  states_within next zero s = s ∷ []
  states_within next (suc n) s = s ∷ then_states (next s) (λ t. states_within next n t)

  -- the last one of a state and those that follow it
  abbrev pub last_of : S → List S → S
  last_of s [] = s
  last_of s (t ∷ ts) = last_of t ts
