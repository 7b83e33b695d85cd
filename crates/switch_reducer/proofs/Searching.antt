-- The states of a search, one step at a time.
use Rattle.std.proofs.Common.{◌≡◌, ℕ, ◌+◌, ◌<◌, ◌≤◌, List, [], ◌∷◌, ◌++◌, length, refl, sym, ◌∙◌, ap, arith, append-nil, length-append}
use Rattle.std.specs.Prelude.{Option, Some, None, flat_map}
use Rattle.std.proofs.lemmas.List.Sums.{sum_by-append}
use Rattle.std.specs.Prelude.{cond, not}
use Rattle.schedule_model.specs.declared.outcome.Outcome.{Outcome}
use Rattle.schedule_model.specs.Outcomes.{is_resolved, unresolved_among}
use Rattle.switch_reducer.specs.Rounds.{State, IsState, follower, made, round_of}
use Rattle.switch_reducer.specs.Search.{measure, states_from, tests_from, last_from}
use Rattle.dd_isolator.specs.Following.{last_of}
use Rattle.dd_isolator.proofs.Following.{within_end, all_more, last_all_more, last_all_ends}
use Rattle.switch_reducer.proofs.Falling.{follower_lowers}

lowers : (outcome : List ℕ → Outcome) (s t : State) → IsState s → follower outcome s ≡ Some t → IsState t × (measure t < measure s)
lowers outcome s t ok e = let lower = follower_lowers outcome s t ok e in (lower.ok, lower.less)

pub states_end : (outcome : List ℕ → Outcome) (s : State) → follower outcome s ≡ None → states_from outcome s ≡ s ∷ []
unfolding states_from
states_end outcome s e = within_end (follower outcome) (measure s) s e

pub states_more : (outcome : List ℕ → Outcome) (s t : State) → IsState s → follower outcome s ≡ Some t → states_from outcome s ≡ s ∷ states_from outcome t
unfolding states_from
states_more outcome s t ok e = all_more (follower outcome) IsState measure (lowers outcome) s t ok e

-- ---- the tests

pub tests_end : (outcome : List ℕ → Outcome) (s : State) → follower outcome s ≡ None → tests_from outcome s ≡ made outcome (round_of s)
unfolding tests_from
tests_end outcome s e = ap (flat_map (λ t. made outcome (round_of t))) (states_end outcome s e) ∙ append-nil (made outcome (round_of s))

pub tests_more : (outcome : List ℕ → Outcome) (s t : State) → IsState s → follower outcome s ≡ Some t → tests_from outcome s ≡ made outcome (round_of s) ++ tests_from outcome t
unfolding tests_from
tests_more outcome s t ok e = ap (flat_map (λ t. made outcome (round_of t))) (states_more outcome s t ok e)

pub needed_more : (outcome : List ℕ → Outcome) (s t : State) → IsState s → follower outcome s ≡ Some t → length (tests_from outcome s) ≡ length (made outcome (round_of s)) + length (tests_from outcome t)
needed_more outcome s t ok e = ap length (tests_more outcome s t ok e) ∙ length-append (made outcome (round_of s)) (tests_from outcome t)

pub unresolved_more : (outcome : List ℕ → Outcome) (s t : State) → IsState s → follower outcome s ≡ Some t → unresolved_among outcome (tests_from outcome s) ≡ unresolved_among outcome (made outcome (round_of s)) + unresolved_among outcome (tests_from outcome t)
unresolved_more outcome s t ok e = ap (unresolved_among outcome) (tests_more outcome s t ok e) ∙ sum_by-append (λ l. cond (not (is_resolved (outcome l))) 1 0) (made outcome (round_of s)) (tests_from outcome t)

-- a round is a part of the tests from its state on
pub round-le : (outcome : List ℕ → Outcome) (s : State) → IsState s → length (made outcome (round_of s)) ≤ length (tests_from outcome s)
round-le outcome s ok = by_next (follower outcome s) refl
  where
    by_next : (next : Option State) → follower outcome s ≡ next → length (made outcome (round_of s)) ≤ length (tests_from outcome s)
    by_next None e = omega (arith, ap length (tests_end outcome s e))
    by_next (Some t) e = omega (arith, needed_more outcome s t ok e)

-- ---- the end

pub last_end : (outcome : List ℕ → Outcome) (s : State) → follower outcome s ≡ None → last_from outcome s ≡ s
unfolding last_from
last_end outcome s e = ap (last_of s) (states_end outcome s e)

pub last_more : (outcome : List ℕ → Outcome) (s t : State) → IsState s → follower outcome s ≡ Some t → last_from outcome s ≡ last_from outcome t
unfolding last_from states_from
last_more outcome s t ok e = last_all_more (follower outcome) IsState measure (lowers outcome) s t ok e

-- the last state has no follower
pub last_ends : (outcome : List ℕ → Outcome) (s : State) → IsState s → follower outcome (last_from outcome s) ≡ None
unfolding last_from states_from
last_ends outcome s ok = last_all_ends (follower outcome) IsState measure (lowers outcome) s ok
