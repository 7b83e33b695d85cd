-- The search as the code goes through it.
use Rattle.std.proofs.Common.{◌≡◌, ℕ, ◌+◌, ◌<◌, ◌≤◌, true, false, cond, not, List, [], ◌∷◌, length, refl, sym, ◌∙◌, ap, subst, arith}
use Rattle.std.specs.Prelude.{Some, None}
use Rattle.std.proofs.lemmas.List.Sums.{sum_by-cons}
use Rattle.schedule_model.specs.declared.outcome.Outcome.{Outcome}
use Rattle.schedule_model.specs.Outcomes.{is_resolved, unresolved_among}
use Rattle.switch_reducer.specs.declared.fault.ReduceFault.{ReduceFault}
use Rattle.switch_reducer.specs.declared.fault.ReduceFault.TheVariants.{TestsSpent, NoMemory}
use Rattle.switch_reducer.specs.Answers.{IsSpent}
use Rattle.switch_reducer.specs.Rounds.{State, IsState, is_fail, start, follower, made, round_of}
use Rattle.switch_reducer.specs.Search.{measure, tests_from, tests_in_order, last_from, reduced_in_order}
use Rattle.switch_reducer.proofs.Falling.{follower_lowers}
use Rattle.switch_reducer.proofs.Searching.{needed_more, unresolved_more, last_more, tests_end, last_end, round-le}

-- one step on: what was counted and what is left
pub record Steps (outcome : List ℕ → Outcome) (s t : State) (a a' u u' : ℕ) : Type 0 where
  pub fine : IsState t
  pub asked : a' + length (tests_from outcome t) ≡ a + length (tests_from outcome s)
  pub unresolved : u' + unresolved_among outcome (tests_from outcome t) ≡ u + unresolved_among outcome (tests_from outcome s)
  pub last : last_from outcome t ≡ last_from outcome s
  pub less : measure t < measure s

pub step : (outcome other : List ℕ → Outcome) (s t : State) (a a' u u' : ℕ) → IsState s → other ≡ outcome → Some t ≡ follower other s → a' ≡ a + length (made other (round_of s)) → u' ≡ u + unresolved_among other (made other (round_of s)) → Steps outcome s t a a' u u'
step outcome other s t a a' u u' ok same next asked unresolved =
    let goes : follower outcome s ≡ Some t = ap (λ (f : List ℕ → Outcome). follower f s) (sym same) ∙ sym next in
    let asked' : a' ≡ a + length (made outcome (round_of s)) = asked ∙ ap (λ (f : List ℕ → Outcome). a + length (made f (round_of s))) same in
    let unresolved' : u' ≡ u + unresolved_among outcome (made outcome (round_of s)) = unresolved ∙ ap (λ (f : List ℕ → Outcome). u + unresolved_among f (made f (round_of s))) same in
    let lower = follower_lowers outcome s t ok goes in
    record {
      fine = lower.ok;
      asked = omega (arith, needed_more outcome s t ok goes);
      unresolved = omega (arith, unresolved_more outcome s t ok goes);
      last = sym (last_more outcome s t ok goes);
      less = lower.less;
    }

pub record Ends (outcome : List ℕ → Outcome) (s : State) (a a' u u' : ℕ) : Type 0 where
  pub asked : a' ≡ a + length (tests_from outcome s)
  pub unresolved : u' ≡ u + unresolved_among outcome (tests_from outcome s)
  pub last : last_from outcome s ≡ s

pub end : (outcome other : List ℕ → Outcome) (s : State) (a a' u u' : ℕ) → other ≡ outcome → None ≡ follower other s → a' ≡ a + length (made other (round_of s)) → u' ≡ u + unresolved_among other (made other (round_of s)) → Ends outcome s a a' u u'
end outcome other s a a' u u' same next asked unresolved =
    let goes : follower outcome s ≡ None = ap (λ (f : List ℕ → Outcome). follower f s) (sym same) ∙ sym next in
    record {
      asked = asked ∙ ap (λ (f : List ℕ → Outcome). a + length (made f (round_of s))) same ∙ ap (λ l. a + length l) (sym (tests_end outcome s goes));
      unresolved = unresolved ∙ ap (λ (f : List ℕ → Outcome). u + unresolved_among f (made f (round_of s))) same ∙ ap (λ l. u + unresolved_among outcome l) (sym (tests_end outcome s goes));
      last = last_end outcome s goes;
    }

spent : (outcome other : List ℕ → Outcome) (s : State) (budget a needed : ℕ) → IsState s → other ≡ outcome → budget < a + length (made other (round_of s)) → a + length (tests_from outcome s) ≡ needed → budget < needed
spent outcome other s budget a needed ok same h e =
    let h' : budget < a + length (made outcome (round_of s)) = subst (λ (f : List ℕ → Outcome). budget < a + length (made f (round_of s))) same h in
    omega (arith, round-le outcome s ok)

pub spent_still : (outcome other : List ℕ → Outcome) (s : State) (budget a needed : ℕ) (f : ReduceFault) → IsState s → other ≡ outcome → a + length (tests_from outcome s) ≡ needed → IsSpent budget (a + length (made other (round_of s))) f → IsSpent budget needed f
spent_still outcome other s budget a needed (TestsSpent asked) ok same e h = (h.0, spent outcome other s budget a needed ok same h.1 e)
spent_still outcome other s budget a needed NoMemory ok same e h = tt

-- a budget that is no less than a bound on what is needed is never spent
pub never_spent : (budget needed bound : ℕ) (f : ReduceFault) → needed ≤ bound → bound ≤ budget → IsSpent budget needed f → f ≡ NoMemory
never_spent budget needed bound (TestsSpent asked) few ample spent = absurd (omega (arith, spent.1))
never_spent budget needed bound NoMemory few ample spent = refl

-- ---- the empty schedule first

-- no times
pub record NoTimes (outcome : List ℕ → Outcome) (times : List ℕ) : Type 0 where
  pub asked : length (tests_in_order outcome times) ≡ 0
  pub unresolved : unresolved_among outcome (tests_in_order outcome times) ≡ 0
  pub last : times ≡ reduced_in_order outcome times

pub no_times : (outcome : List ℕ → Outcome) (times : List ℕ) → length times ≡ 0 → NoTimes outcome times
no_times outcome [] e = record { asked = refl; unresolved = refl; last = refl }
no_times outcome (x ∷ xs) e = absurd (omega arith)

-- the empty schedule fails
pub record EmptyFails (outcome : List ℕ → Outcome) (times : List ℕ) : Type 0 where
  pub asked : length (tests_in_order outcome times) ≡ 1
  pub unresolved : unresolved_among outcome (tests_in_order outcome times) ≡ unresolved_among outcome ([] ∷ [])
  pub last : reduced_in_order outcome times ≡ []

pub empty_fails : (outcome : List ℕ → Outcome) (times : List ℕ) → 0 < length times → is_fail (outcome []) ≡ true → EmptyFails outcome times
empty_fails outcome [] some e = absurd (omega arith)
empty_fails outcome (x ∷ xs) some e = record {
  asked = ap (λ b. length ([] ∷ cond b [] (tests_from outcome (start (x ∷ xs))))) e;
  unresolved = ap (λ b. unresolved_among outcome ([] ∷ cond b [] (tests_from outcome (start (x ∷ xs))))) e;
  last = ap (λ b. cond b [] (last_from outcome (start (x ∷ xs))).times) e;
}

-- it doesn't
pub record EmptyHolds (outcome : List ℕ → Outcome) (times : List ℕ) : Type 0 where
  pub asked : length (tests_in_order outcome times) ≡ 1 + length (tests_from outcome (start times))
  pub unresolved : unresolved_among outcome (tests_in_order outcome times) ≡ unresolved_among outcome ([] ∷ []) + unresolved_among outcome (tests_from outcome (start times))
  pub last : reduced_in_order outcome times ≡ (last_from outcome (start times)).times

pub empty_holds : (outcome : List ℕ → Outcome) (times : List ℕ) → 0 < length times → is_fail (outcome []) ≡ false → EmptyHolds outcome times
empty_holds outcome [] some e = absurd (omega arith)
empty_holds outcome (x ∷ xs) some e = record {
  asked = ap (λ b. length ([] ∷ cond b [] (tests_from outcome (start (x ∷ xs))))) e ∙ omega arith;
  unresolved =
      ap (λ b. unresolved_among outcome ([] ∷ cond b [] (tests_from outcome (start (x ∷ xs))))) e
      ∙ omega (arith, sum_by-cons (λ l. cond (not (is_resolved (outcome l))) 1 0) [] (tests_from outcome (start (x ∷ xs))), sum_by-cons (λ l. cond (not (is_resolved (outcome l))) 1 0) [] []);
  last = ap (λ b. cond b [] (last_from outcome (start (x ∷ xs))).times) e;
}

pub counted_both : (outcome other : List ℕ → Outcome) (times : List ℕ) (u u' u'' : ℕ) → other ≡ outcome → EmptyHolds outcome times → u' ≡ u + unresolved_among outcome ([] ∷ []) → u'' ≡ u' + unresolved_among other (tests_from other (start times)) → u'' ≡ u + unresolved_among outcome (tests_in_order outcome times)
counted_both outcome other times u u' u'' same holds h k =
    omega (arith, holds.unresolved, ap (λ (f : List ℕ → Outcome). unresolved_among f (tests_from f (start times))) same)
