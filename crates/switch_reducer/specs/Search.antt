-- The whole search from a failing schedule: its states, its tests, and where it ends.
use Rattle.std.specs.Prelude.{ℕ, ◌+◌, ◌-◌, ◌*◌, cond, List, [], ◌∷◌, length, flat_map}
use Rattle.schedule_model.specs.declared.outcome.Outcome.{Outcome}
use Rattle.schedule_model.specs.Outcomes.{unresolved_among}
use Rattle.dd_isolator.specs.Following.{states_within, last_of}
use Rattle.switch_reducer.specs.Sorted.{sorted}
use Rattle.switch_reducer.specs.Rounds.{State, is_fail, start, round_of, follower, made}

-- It falls from each state to its follower: fewer times, or as many and more parts.
abbrev pub measure : State → ℕ
measure s = length s.times * length s.times + (length s.times - s.parts)

-- a state and all that follow it, to the one that has no follower
unfoldable pub states_from : (List ℕ → Outcome) → State → List State
states_from outcome s = states_within (follower outcome) (measure s) s

-- the schedules that are tested from a state on, in order
unfoldable pub tests_from : (List ℕ → Outcome) → State → List (List ℕ)
tests_from outcome s = flat_map (λ t. made outcome (round_of t)) (states_from outcome s)

unfoldable pub last_from : (List ℕ → Outcome) → State → State
last_from outcome s = last_of s (states_from outcome s)

-- ---- of a schedule in order: the empty schedule is tested first, and where it doesn't fail the search begins

abbrev pub tests_in_order : (List ℕ → Outcome) → List ℕ → List (List ℕ)
tests_in_order outcome [] = []
tests_in_order outcome (first ∷ rest) = [] ∷ cond (is_fail (outcome [])) [] (tests_from outcome (start (first ∷ rest)))

abbrev pub reduced_in_order : (List ℕ → Outcome) → List ℕ → List ℕ
reduced_in_order outcome [] = []
reduced_in_order outcome (first ∷ rest) = cond (is_fail (outcome [])) [] (last_from outcome (start (first ∷ rest))).times

-- ---- of any schedule

-- the schedule at the end
abbrev pub reduced_schedule : (List ℕ → Outcome) → List ℕ → List ℕ
reduced_schedule outcome fail = reduced_in_order outcome (sorted fail)

abbrev pub tests_needed : (List ℕ → Outcome) → List ℕ → ℕ
tests_needed outcome fail = length (tests_in_order outcome (sorted fail))

abbrev pub unresolved_count : (List ℕ → Outcome) → List ℕ → ℕ
unresolved_count outcome fail = unresolved_among outcome (tests_in_order outcome (sorted fail))
