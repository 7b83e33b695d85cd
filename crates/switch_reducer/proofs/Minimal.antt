-- Where a search ends no single time can be left out.
use Rattle.std.proofs.Common.{◌≡◌, ◌≢◌, ℕ, zero, suc, ◌+◌, ◌-◌, ◌*◌, ◌<◌, ◌≤◌, max, Bool, true, false, cond, List, [], ◌∷◌, length, refl, sym, ◌∙◌, ap, subst, arith, inl, inr}
use Rattle.std.specs.Prelude.{◌⊎◌, Option, Some, None, nat_lt, find}
use Rattle.std.specs.List.{AllByRecursion, remove, remove_range, slice_range}
use Rattle.std.proofs.lemmas.Bool.{ltb-false, lt-ltb, le-ltb, cond-true, cond-false, cases_lt}
use Rattle.std.proofs.lemmas.List.Elements.{All-from_recursion}
use Rattle.schedule_model.specs.declared.outcome.Outcome.{Outcome}
use Rattle.schedule_model.specs.declared.outcome.Outcome.TheVariants.{Fail}
use Rattle.schedule_model.specs.Outcomes.{ReadsCounts}
use Rattle.schedule_model.specs.Schedules.{occurrences}
use Rattle.switch_reducer.specs.Reduced.{IsReduced}
use Rattle.switch_reducer.specs.Rounds.{State, IsState, is_fail, part, complement, state, start, test, round_size, round_of, decided, follower}
use Rattle.switch_reducer.specs.Search.{measure, last_from, reduced_in_order, reduced_schedule}
use Rattle.switch_reducer.specs.Sorted.{sorted}
use Rattle.dd_isolator.specs.Shifts.{cut}
use Rattle.dd_isolator.proofs.Parts.{cut_units}
use Rattle.switch_reducer.proofs.Ordered.{occurrences_sorted}
use Rattle.switch_reducer.proofs.Cutting.{state_is, length-round, get_or-round}
use Rattle.switch_reducer.proofs.Falling.{fails_from, follower_lowers}
use Rattle.switch_reducer.proofs.Searching.{last_end, last_more, last_ends}

-- where nothing is found, none passes
find_none : {X : Type 0} (p : X → Bool) (xs : List X) → find p xs ≡ None → AllByRecursion (λ x. p x ≡ false) xs
find_none p [] e = tt
find_none p (y ∷ ys) e = by_test (p y) refl e (find_none p ys)
  where
    by_test : (b : Bool) → p y ≡ b → cond b (Some y) (find p ys) ≡ None → (find p ys ≡ None → AllByRecursion (λ x. p x ≡ false) ys) → (p y ≡ false) × AllByRecursion (λ x. p x ≡ false) ys
    by_test true t e later = absurd (cc)
    by_test false t e later = (t, later e)

-- what the end of a search says of its state
record AtEnd (outcome : List ℕ → Outcome) (s : State) : Type 0 where
  none : find (λ t. is_fail (outcome t.times)) (round_of s) ≡ None
  finest : length s.times ≤ s.parts

at_end : (outcome : List ℕ → Outcome) (s : State) → follower outcome s ≡ None → AtEnd outcome s
unfolding follower
at_end outcome s e = by_find (find (λ t. is_fail (outcome t.times)) (round_of s)) refl e
  where
    by_test : (b : Bool) → nat_lt s.parts (length s.times) ≡ b → cond b (Some (state s.times (2 * s.parts))) None ≡ None → length s.times ≤ s.parts
    by_test true t e = absurd (cc)
    by_test false t e = ltb-false s.parts (length s.times) t

    by_find : (found : Option State) → find (λ t. is_fail (outcome t.times)) (round_of s) ≡ found → decided s found ≡ None → AtEnd outcome s
    by_find None f e = record { none = f; finest = by_test (nat_lt s.parts (length s.times)) refl e }
    by_find (Some x) f e = absurd (cc)

-- no test of the last round fails
none_fails : (outcome : List ℕ → Outcome) (s : State) → AtEnd outcome s → (i : ℕ) → i < round_size s → is_fail (outcome (test s i).times) ≡ false
none_fails outcome s end i h =
    let all = All-from_recursion (λ t. is_fail (outcome t.times) ≡ false) (round_of s) (find_none (λ t. is_fail (outcome t.times)) (round_of s) end.none) in
    subst (λ t. is_fail (outcome t.times) ≡ false) (get_or-round s i (test s 0) h) (all i (test s 0) (omega (arith, length-round s)))

-- of two times the one without the other
two_without : (xs : List ℕ) (i : ℕ) → length xs ≡ 2 → i < 2 → slice_range xs (1 - i) (1 - i + 1) ≡ remove xs i
two_without [] i e h = absurd (omega arith)
two_without (x ∷ []) i e h = absurd (omega arith)
two_without (x ∷ y ∷ []) zero e h = refl
two_without (x ∷ y ∷ []) (suc zero) e h = refl
two_without (x ∷ y ∷ []) (suc (suc i)) e h = absurd (omega arith)
two_without (x ∷ y ∷ z ∷ zs) i e h = absurd (omega arith)

one_without : (xs : List ℕ) (i : ℕ) → length xs ≤ 1 → i < length xs → remove xs i ≡ []
one_without [] i e h = absurd (omega arith)
one_without (x ∷ []) zero e h = refl
one_without (x ∷ []) (suc i) e h = absurd (omega arith)
one_without (x ∷ y ∷ ys) i e h = absurd (omega arith)

module _ (outcome : List ℕ → Outcome) (s : State) (ok : IsState s) (end : AtEnd outcome s) (two : 1 < length s.times) where
  part_is : (i : ℕ) → cut (length s.times) s.parts i ≡ i
  part_is i =
      let e : s.parts ≡ length s.times = omega (arith, ok.most, end.finest) in
      ap (λ n. cut (length s.times) n i) e ∙ cut_units (length s.times) i (omega arith)

  size_of_two : s.parts ≡ 2 → round_size s ≡ 2
  unfolding round_size
  size_of_two e = cond-true (nat_lt 1 (length s.times)) (cond (nat_lt 2 s.parts) (2 * s.parts) s.parts) 0 (lt-ltb 1 (length s.times) two) ∙ cond-false (nat_lt 2 s.parts) (2 * s.parts) s.parts (le-ltb 2 s.parts (omega arith)) ∙ e

  size_of_more : 2 < s.parts → round_size s ≡ 2 * s.parts
  unfolding round_size
  size_of_more h = cond-true (nat_lt 1 (length s.times)) (cond (nat_lt 2 s.parts) (2 * s.parts) s.parts) 0 (lt-ltb 1 (length s.times) two) ∙ cond-true (nat_lt 2 s.parts) (2 * s.parts) s.parts (lt-ltb 2 s.parts h)

  part_times : (i : ℕ) → i < s.parts → (test s i).times ≡ slice_range s.times i (i + 1)
  unfolding test
  part_times i h =
      ap (λ (t : State). t.times) (cond-true (nat_lt i s.parts) (state (part s i) 2) (state (complement s (i - s.parts)) (max (s.parts - 1) 2)) (lt-ltb i s.parts h))
      ∙ ap (λ n. slice_range s.times n (cut (length s.times) s.parts (i + 1))) (part_is i)
      ∙ ap (λ n. slice_range s.times i n) (part_is (i + 1))

  complement_times : (i : ℕ) → (test s (s.parts + i)).times ≡ remove s.times i
  unfolding test
  complement_times i =
      let e : s.parts + i - s.parts ≡ i = omega arith in
      let one : i + 1 ≡ suc i = omega arith in
      ap (λ (t : State). t.times) (cond-false (nat_lt (s.parts + i) s.parts) (state (part s (s.parts + i)) 2) (state (complement s (s.parts + i - s.parts)) (max (s.parts - 1) 2)) (le-ltb (s.parts + i) s.parts (omega arith)))
      ∙ ap (complement s) e
      ∙ ap (λ n. remove_range s.times n (cut (length s.times) s.parts (i + 1))) (part_is i)
      ∙ ap (λ n. remove_range s.times i n) (part_is (i + 1) ∙ one)

  without_open : (i : ℕ) → i < length s.times → is_fail (outcome (remove s.times i)) ≡ false
  without_open i h = by_parts (cases_lt 2 s.parts)
    where
      by_parts : (2 < s.parts) ⊎ (s.parts ≤ 2) → is_fail (outcome (remove s.times i)) ≡ false
      by_parts (inl more) = subst (λ l. is_fail (outcome l) ≡ false) (complement_times i) (none_fails outcome s end (s.parts + i) (omega (arith, size_of_more more, end.finest)))
      by_parts (inr few) =
          let both : s.parts ≡ 2 = omega (arith, ok.least, end.finest) in
          let long : length s.times ≡ 2 = omega (arith, ok.most, end.finest) in
          subst (λ l. is_fail (outcome l) ≡ false) (part_times (1 - i) (omega arith) ∙ two_without s.times i long (omega arith)) (none_fails outcome s end (1 - i) (omega (arith, size_of_two both)))

not_fail : (outcome : List ℕ → Outcome) (times : List ℕ) → is_fail (outcome times) ≡ false → outcome times ≢ Fail
not_fail outcome times e h = let bad : true ≡ false = sym (ap is_fail h) ∙ e in absurd (cc)

-- what a state that ends a search keeps of the first one
record Keeps (outcome : List ℕ → Outcome) (s t : State) : Type 0 where
  ok : IsState t
  no_more : (time : ℕ) → occurrences t.times time ≤ occurrences s.times time
  fails : outcome s.times ≡ Fail → outcome t.times ≡ Fail

keeps_within : (n : ℕ) (outcome : List ℕ → Outcome) (s : State) → measure s ≤ n → IsState s → Keeps outcome s (last_from outcome s)
keeps_within zero outcome s h ok = by_next (follower outcome s) refl
  where
    by_next : (next : Option State) → follower outcome s ≡ next → Keeps outcome s (last_from outcome s)
    by_next None e = subst (Keeps outcome s) (sym (last_end outcome s e)) (record { ok = ok; no_more = λ time. omega arith; fails = λ f. f })
    by_next (Some t) e = absurd (omega (arith, (follower_lowers outcome s t ok e).less))
keeps_within (suc n) outcome s h ok = by_next (follower outcome s) refl (λ t. keeps_within n outcome t)
  where
    by_next : (next : Option State) → follower outcome s ≡ next → ((t : State) → measure t ≤ n → IsState t → Keeps outcome t (last_from outcome t)) → Keeps outcome s (last_from outcome s)
    by_next None e later = subst (Keeps outcome s) (sym (last_end outcome s e)) (record { ok = ok; no_more = λ time. omega arith; fails = λ f. f })
    by_next (Some t) e later =
        let lower = follower_lowers outcome s t ok e in
        let rest : Keeps outcome t (last_from outcome t) = later t (omega (arith, lower.less)) lower.ok in
        subst (Keeps outcome s) (sym (last_more outcome s t ok e)) (record {
          ok = rest.ok;
          no_more = λ time. omega (arith, rest.no_more time, lower.no_more time);
          fails = λ f. rest.fails (lower.fails f);
        })

last_minimal : (outcome : List ℕ → Outcome) (s : State) → IsState s → is_fail (outcome []) ≡ false → follower outcome s ≡ None → (i : ℕ) → i < length s.times → outcome (remove s.times i) ≢ Fail
last_minimal outcome s ok empty e i h = by_length (cases_lt 1 (length s.times))
  where
    by_length : (1 < length s.times) ⊎ (length s.times ≤ 1) → outcome (remove s.times i) ≢ Fail
    by_length (inl two) = not_fail outcome (remove s.times i) (without_open outcome s ok (at_end outcome s e) two i h)
    by_length (inr one) = not_fail outcome (remove s.times i) (ap (λ l. is_fail (outcome l)) (one_without s.times i one h) ∙ empty)

pub reduced_from : (outcome : List ℕ → Outcome) (given times : List ℕ) → outcome times ≡ Fail → ((time : ℕ) → occurrences times time ≤ occurrences given time) → IsReduced outcome given (reduced_in_order outcome times)
reduced_from outcome given [] f no_more = record { no_more = no_more; fails = f; minimal = λ i h. absurd (omega arith) }
reduced_from outcome given (x ∷ xs) f no_more = by_test (is_fail (outcome [])) refl
  where
    ok : IsState (start (x ∷ xs))
    ok = state_is (x ∷ xs) 2 (omega arith)

    by_test : (b : Bool) → is_fail (outcome []) ≡ b → IsReduced outcome given (cond b [] (last_from outcome (start (x ∷ xs))).times)
    by_test true e = record { no_more = λ time. omega arith; fails = fails_from (outcome []) e; minimal = λ i h. absurd (omega arith) }
    by_test false e =
        let keeps = keeps_within (measure (start (x ∷ xs))) outcome (start (x ∷ xs)) (omega arith) ok in
        record {
          no_more = λ time. omega (arith, keeps.no_more time, no_more time);
          fails = keeps.fails f;
          minimal = last_minimal outcome (last_from outcome (start (x ∷ xs))) keeps.ok e (last_ends outcome (start (x ∷ xs)) ok);
        }

pub reduced_is : (outcome : List ℕ → Outcome) (events : ℕ) (fail : List ℕ) → ReadsCounts events outcome → outcome fail ≡ Fail → IsReduced outcome fail (reduced_schedule outcome fail)
reduced_is outcome events fail reads f =
    let f' : outcome (sorted fail) ≡ Fail = reads (sorted fail) fail (λ event _. occurrences_sorted fail event) ∙ f in
    reduced_from outcome fail (sorted fail) f' (λ time. omega (arith, occurrences_sorted fail time))
