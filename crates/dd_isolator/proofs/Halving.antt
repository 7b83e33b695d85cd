-- Where no test is unresolved each test halves what is left.
use Rattle.std.proofs.Common.{◌≡◌, ℕ, zero, suc, ◌+◌, ◌-◌, ◌*◌, ◌/◌, ◌^◌, ◌<◌, ◌≤◌, Bool, true, false, cond, not, List, [], ◌∷◌, length, map, refl, sym, ◌∙◌, ap, subst, arith, inl, inr}
use Rattle.std.specs.Prelude.{◌⊎◌, Option, Some, None, nat_lt, find}
use Rattle.std.specs.List.{range_with_len}
use Rattle.std.proofs.lemmas.Bool.{cases_lt, cond-true, cond-false, lt-ltb, le-ltb}
use Rattle.std.proofs.lemmas.Nat.{mul-le, pow-add}
use Rattle.std.proofs.lemmas.List.Sums.{sum_by-cons}
use Rattle.schedule_model.specs.declared.outcome.Outcome.{Outcome}
use Rattle.schedule_model.specs.declared.outcome.Outcome.TheVariants.{Pass, Fail, Unresolved}
use Rattle.schedule_model.specs.Outcomes.{is_resolved, unresolved_among}
use Rattle.dd_isolator.specs.Shifts.{cut, units, with_units}
use Rattle.dd_isolator.specs.Rounds.{State, IsState, Added, units_of, state, start, added, taken, test, round_size, round_of, decided, after, follower, made}
use Rattle.dd_isolator.specs.Search.{measure, tests_from}
use Rattle.dd_isolator.proofs.Shifting.{units_with}
use Rattle.dd_isolator.proofs.Parts.{cut_none, cut_half}
use Rattle.dd_isolator.proofs.Falling.{follower_lowers}
use Rattle.dd_isolator.proofs.Searching.{tests_end, needed_more, unresolved_more}
use Rattle.dd_isolator.proofs.Keeping.{start_is}

record Halves (v needed : ℕ) : Type 0 where
  one : v ≤ 1 → needed ≡ 0
  more : 1 < v → 2 ^ needed ≤ 2 * (v - 1)

twice : (n : ℕ) → 2 ^ (1 + n) ≡ 2 * 2 ^ n
twice n = pow-add 2 1 n

halved : (v w later : ℕ) → 1 < v → w ≤ v - v / 2 → Halves w later → Halves v (1 + later)
halved v w later h k b = record { one = λ small. absurd (omega arith); more = λ two. by_cases (cases_lt 1 w) }
  where
    by_cases : (1 < w) ⊎ (w ≤ 1) → 2 ^ (1 + later) ≤ 2 * (v - 1)
    by_cases (inl more) = let bound : 2 ^ later ≤ 2 * (w - 1) = b.more more in omega (arith, twice later)
    by_cases (inr one) = let none : later ≡ 0 = b.one one in let two : 2 ^ (1 + later) ≡ 2 = ap (λ n. 2 ^ (1 + n)) none in omega arith

-- ---- one unit

no_round : (s : State) → units_of s ≤ 1 → round_of s ≡ []
unfolding round_of round_size
no_round s h = ap (λ n. map (test s) (range_with_len 0 n)) (cond-false (nat_lt 1 (units_of s)) (2 * s.parts) 0 (le-ltb 1 (units_of s) h))

no_follower : (outcome : List ℕ → Outcome) (s : State) → IsState s → units_of s ≤ 1 → follower outcome s ≡ None
unfolding follower
no_follower outcome s ok h =
    ap (λ ts. decided outcome s (find (λ t. is_resolved (outcome t.times)) ts)) (no_round s h)
    ∙ cond-false (nat_lt s.parts (units_of s)) (Some (state s.passing s.failing (2 * s.parts))) None (le-ltb s.parts (units_of s) (omega (arith, ok.least)))

none_needed : (outcome : List ℕ → Outcome) (s : State) → IsState s → units_of s ≤ 1 → length (tests_from outcome s) ≡ 0
none_needed outcome s ok h = ap length (tests_end outcome s (no_follower outcome s ok h)) ∙ ap (λ ts. length (made outcome ts)) (no_round s h)

-- ---- two parts

module _ (outcome : List ℕ → Outcome) (s : State) (ok : IsState s) (two : 1 < units_of s) (parts : s.parts ≤ 2) where
  parts_is : s.parts ≡ 2
  parts_is = omega (arith, ok.least)

  four : round_size s ≡ 4
  unfolding round_size
  four = cond-true (nat_lt 1 (units_of s)) (2 * s.parts) 0 (lt-ltb 1 (units_of s) two) ∙ ap (λ n. 2 * n) parts_is

  begins : round_of s ≡ test s 0 ∷ map (test s) (range_with_len 1 3)
  unfolding round_of
  begins = ap (λ n. map (test s) (range_with_len 0 n)) four

  first_is : test s 0 ≡ added s 0
  unfolding test
  first_is = cond-true (nat_lt 0 s.parts) (added s 0) (taken s (0 - s.parts)) (lt-ltb 0 s.parts (omega (arith, parts_is)))

  first_times : (added s 0).times ≡ with_units 0 (units_of s / 2) s.passing s.failing
  first_times =
      ap (λ n. with_units (cut (units_of s) n 0) (cut (units_of s) n (0 + 1)) s.passing s.failing) parts_is
      ∙ ap (λ n. with_units n (cut (units_of s) 2 1) s.passing s.failing) (cut_none (units_of s) 2 (omega arith))
      ∙ ap (λ n. with_units 0 n s.passing s.failing) (cut_half (units_of s))

  -- what the first test leaves, whichever way it goes
  half : (o : Outcome) → is_resolved o ≡ true → (units_of (after s Added (added s 0).times o) ≤ units_of s - units_of s / 2) × ((after s Added (added s 0).times o).parts ≤ 2)
  half o is = by_outcome o is (units_with 0 (units_of s / 2) s.passing s.failing (omega arith) (omega arith))
    where
      by_outcome : (o : Outcome) → is_resolved o ≡ true → (units s.passing (with_units 0 (units_of s / 2) s.passing s.failing) ≡ units_of s / 2 - 0) × (units (with_units 0 (units_of s / 2) s.passing s.failing) s.failing + (units_of s / 2 - 0) ≡ units_of s) → (units_of (after s Added (added s 0).times o) ≤ units_of s - units_of s / 2) × ((after s Added (added s 0).times o).parts ≤ 2)
      by_outcome Pass is both =
          let e : units (added s 0).times s.failing ≡ units (with_units 0 (units_of s / 2) s.passing s.failing) s.failing = ap (λ l. units l s.failing) first_times in
          (omega (arith, both.1), omega (arith, parts_is))
      by_outcome Fail is both =
          let e : units s.passing (added s 0).times ≡ units s.passing (with_units 0 (units_of s / 2) s.passing s.failing) = ap (units s.passing) first_times in
          (omega (arith, both.0), omega arith)
      by_outcome Unresolved is both = absurd (cc)

  made_one : is_resolved (outcome (added s 0).times) ≡ true → made outcome (round_of s) ≡ (added s 0).times ∷ []
  made_one is =
      ap (made outcome) begins
      ∙ ap (λ t. made outcome (t ∷ map (test s) (range_with_len 1 3))) first_is
      ∙ ap (λ b. (added s 0).times ∷ cond b [] (made outcome (map (test s) (range_with_len 1 3)))) is

  follower_is : is_resolved (outcome (added s 0).times) ≡ true → follower outcome s ≡ Some (after s Added (added s 0).times (outcome (added s 0).times))
  unfolding follower
  follower_is is =
      ap (λ ts. decided outcome s (find (λ t. is_resolved (outcome t.times)) ts)) begins
      ∙ ap (λ t. decided outcome s (find (λ t. is_resolved (outcome t.times)) (t ∷ map (test s) (range_with_len 1 3)))) first_is
      ∙ ap (λ b. decided outcome s (cond b (Some (added s 0)) (find (λ t. is_resolved (outcome t.times)) (map (test s) (range_with_len 1 3))))) is

  counts_one : is_resolved (outcome (added s 0).times) ≡ false → 0 < unresolved_among outcome (made outcome (round_of s))
  counts_one is =
      let e : unresolved_among outcome (made outcome (round_of s)) ≡ 1 + unresolved_among outcome (made outcome (map (test s) (range_with_len 1 3))) =
      ap (λ ts. unresolved_among outcome (made outcome ts)) begins
      ∙ ap (λ t. unresolved_among outcome (made outcome (t ∷ map (test s) (range_with_len 1 3)))) first_is
      ∙ ap (λ b. unresolved_among outcome ((added s 0).times ∷ cond b [] (made outcome (map (test s) (range_with_len 1 3))))) is
      ∙ sum_by-cons (λ l. cond (not (is_resolved (outcome l))) 1 0) (added s 0).times (made outcome (map (test s) (range_with_len 1 3)))
      ∙ ap (λ b. cond {A = ℕ} (not b) 1 0 + unresolved_among outcome (made outcome (map (test s) (range_with_len 1 3)))) is in
      omega arith

round_unresolved-le : (outcome : List ℕ → Outcome) (s : State) → IsState s → unresolved_among outcome (made outcome (round_of s)) ≤ unresolved_among outcome (tests_from outcome s)
round_unresolved-le outcome s ok = by_next (follower outcome s) refl
  where
    by_next : (next : Option State) → follower outcome s ≡ next → unresolved_among outcome (made outcome (round_of s)) ≤ unresolved_among outcome (tests_from outcome s)
    by_next None e = omega (arith, ap (unresolved_among outcome) (tests_end outcome s e))
    by_next (Some t) e = omega (arith, unresolved_more outcome s t ok e)

halves_within : (n : ℕ) (outcome : List ℕ → Outcome) (s : State) → measure s ≤ n → IsState s → s.parts ≤ 2 → unresolved_among outcome (tests_from outcome s) ≡ 0 → Halves (units_of s) (length (tests_from outcome s))
halves_within zero outcome s h ok parts all = record { one = none_needed outcome s ok; more = λ two. let square : 2 * 2 ≤ units_of s * units_of s = mul-le 2 2 (units_of s) (units_of s) two two in absurd (omega arith) }
halves_within (suc n) outcome s h ok parts all = by_size (cases_lt 1 (units_of s)) (λ t. halves_within n outcome t)
  where
    by_test : (b : Bool) → 1 < units_of s → is_resolved (outcome (added s 0).times) ≡ b → ((t : State) → measure t ≤ n → IsState t → t.parts ≤ 2 → unresolved_among outcome (tests_from outcome t) ≡ 0 → Halves (units_of t) (length (tests_from outcome t))) → Halves (units_of s) (length (tests_from outcome s))
    by_test false two e later = absurd (omega (arith, counts_one outcome s ok two parts e, round_unresolved-le outcome s ok))
    by_test true two e later =
        let t : State = after s Added (added s 0).times (outcome (added s 0).times) in
        let goes : follower outcome s ≡ Some (after s Added (added s 0).times (outcome (added s 0).times)) = follower_is outcome s ok two parts e in
        let lower = follower_lowers outcome s (after s Added (added s 0).times (outcome (added s 0).times)) ok goes in
        let left = half outcome s ok two parts (outcome (added s 0).times) e in
        let none : unresolved_among outcome (tests_from outcome (after s Added (added s 0).times (outcome (added s 0).times))) ≡ 0 = omega (arith, unresolved_more outcome s (after s Added (added s 0).times (outcome (added s 0).times)) ok goes) in
        let rest = later (after s Added (added s 0).times (outcome (added s 0).times)) (omega (arith, lower.less)) lower.ok left.1 none in
        subst (Halves (units_of s)) (sym (needed_more outcome s _ ok goes ∙ ap (λ l. length l + length (tests_from outcome (after s Added (added s 0).times (outcome (added s 0).times)))) (made_one outcome s ok two parts e)))
        (halved (units_of s) _ _ two left.0 rest)

    by_size : (1 < units_of s) ⊎ (units_of s ≤ 1) → ((t : State) → measure t ≤ n → IsState t → t.parts ≤ 2 → unresolved_among outcome (tests_from outcome t) ≡ 0 → Halves (units_of t) (length (tests_from outcome t))) → Halves (units_of s) (length (tests_from outcome s))
    by_size (inl two) later = by_test (is_resolved (outcome (added s 0).times)) two refl later
    by_size (inr one) later = record { one = none_needed outcome s ok; more = λ two. absurd (omega arith) }

-- where no test is unresolved, 2 to the number of tests is at most twice the units
pub halving : (outcome : List ℕ → Outcome) (p f : List ℕ) → length f ≡ length p → 0 < units p f → unresolved_among outcome (tests_from outcome (start p f)) ≡ 0 → 2 ^ length (tests_from outcome (start p f)) ≤ 2 * units p f
halving outcome p f same some none = by_cases (cases_lt 1 (units p f)) (halves_within (measure (start p f)) outcome (start p f) (omega arith) (start_is p f same) (omega arith) none)
  where
    by_cases : (1 < units p f) ⊎ (units p f ≤ 1) → Halves (units p f) (length (tests_from outcome (start p f))) → 2 ^ length (tests_from outcome (start p f)) ≤ 2 * units p f
    by_cases (inl two) h = let bound : 2 ^ length (tests_from outcome (start p f)) ≤ 2 * (units p f - 1) = h.more two in omega arith
    by_cases (inr one) h = let e : 2 ^ length (tests_from outcome (start p f)) ≡ 1 = ap (λ n. 2 ^ n) (h.one one) in omega arith
