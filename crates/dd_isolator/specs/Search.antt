-- The whole search between a passing and a failing schedule: its states, its tests, and where it ends.
use Rattle.std.specs.Prelude.{ℕ, ◌+◌, ◌-◌, ◌*◌, List, length, flat_map}
use Rattle.schedule_model.specs.declared.outcome.Outcome.{Outcome}
use Rattle.schedule_model.specs.Outcomes.{unresolved_among}
use Rattle.dd_isolator.specs.Following.{states_within, last_of}
use Rattle.dd_isolator.specs.Rounds.{State, units_of, start, round_of, follower, made}

-- It falls from each state to its follower: fewer units, or as many and more parts.
abbrev pub measure : State → ℕ
measure s = units_of s * units_of s + (units_of s - s.parts)

-- a state and all that follow it, to the one that has no follower
unfoldable pub states_from : (List ℕ → Outcome) → State → List State
states_from outcome s = states_within (follower outcome) (measure s) s

-- the tests that are made from a state on, in order
unfoldable pub tests_from : (List ℕ → Outcome) → State → List (List ℕ)
tests_from outcome s = flat_map (λ t. made outcome (round_of t)) (states_from outcome s)

unfoldable pub last_from : (List ℕ → Outcome) → State → State
last_from outcome s = last_of s (states_from outcome s)

-- ---- of two schedules

-- all tests of the search
abbrev pub tests_of : (List ℕ → Outcome) → List ℕ → List ℕ → List (List ℕ)
tests_of outcome passing failing = tests_from outcome (start passing failing)

abbrev pub tests_needed : (List ℕ → Outcome) → List ℕ → List ℕ → ℕ
tests_needed outcome passing failing = length (tests_of outcome passing failing)

abbrev pub unresolved_count : (List ℕ → Outcome) → List ℕ → List ℕ → ℕ
unresolved_count outcome passing failing = unresolved_among outcome (tests_of outcome passing failing)

-- the schedules of the state at the end
abbrev pub last_pair : (List ℕ → Outcome) → List ℕ → List ℕ → List ℕ × List ℕ
last_pair outcome passing failing = let s = last_from outcome (start passing failing) in (s.passing, s.failing)
