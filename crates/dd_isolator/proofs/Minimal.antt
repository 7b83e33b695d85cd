-- Where a search ends the difference is one-minimal.
use Rattle.std.proofs.Common.{◌≡◌, ◌≢◌, ℕ, zero, suc, ◌+◌, ◌-◌, ◌*◌, ◌<◌, ◌≤◌, Bool, true, false, cond, List, length, refl, sym, ◌∙◌, ap, subst, arith, inl, inr}
use Rattle.std.specs.Prelude.{◌⊎◌, Option, Some, None, nat_lt, find}
use Rattle.std.proofs.lemmas.Bool.{ltb-false, lt-ltb, le-ltb, cond-true, cond-false, cases_lt}
use Rattle.std.proofs.lemmas.List.Elements.{All-from_recursion}
use Rattle.schedule_model.specs.declared.outcome.Outcome.{Outcome}
use Rattle.schedule_model.specs.declared.outcome.Outcome.TheVariants.{Pass, Fail}
use Rattle.schedule_model.specs.Outcomes.{is_resolved}
use Rattle.dd_isolator.specs.Shifts.{cut, units, with_units, IsUnitShift}
use Rattle.dd_isolator.specs.OneMinimal.{IsOneMinimal}
use Rattle.dd_isolator.specs.Rounds.{State, IsState, Test, units_of, state, start, added, taken, test, round_size, round_of, decided, follower}
use Rattle.dd_isolator.specs.Search.{measure, last_from}
use Rattle.dd_isolator.proofs.Shifting.{length-with_units, units_sym, units_with, shift_is_unit, same_from_units}
use Rattle.dd_isolator.proofs.Single.{shift_differs, shift_is}
use Rattle.dd_isolator.proofs.Parts.{cut_units}
use Rattle.dd_isolator.proofs.Finding.{find_none}
use Rattle.dd_isolator.proofs.Testing.{length-round, get_or-round}
use Rattle.dd_isolator.proofs.Falling.{follower_lowers}
use Rattle.dd_isolator.proofs.Searching.{last_end, last_more}
use Rattle.dd_isolator.proofs.Keeping.{Keeps, follower_keeps, start_keeps, start_is}

-- what the end of a search says of its state
record AtEnd (outcome : List ℕ → Outcome) (s : State) : Type 0 where
  none : find (λ t. is_resolved (outcome t.times)) (round_of s) ≡ None
  finest : units_of s ≤ s.parts

at_end : (outcome : List ℕ → Outcome) (s : State) → follower outcome s ≡ None → AtEnd outcome s
unfolding follower
at_end outcome s e = by_find (find (λ t. is_resolved (outcome t.times)) (round_of s)) refl e
  where
    by_test : (b : Bool) → nat_lt s.parts (units_of s) ≡ b → cond b (Some (state s.passing s.failing (2 * s.parts))) None ≡ None → units_of s ≤ s.parts
    by_test true t e = absurd (cc)
    by_test false t e = ltb-false s.parts (units_of s) t

    by_find : (found : Option Test) → find (λ t. is_resolved (outcome t.times)) (round_of s) ≡ found → decided outcome s found ≡ None → AtEnd outcome s
    by_find None f e = record { none = f; finest = by_test (nat_lt s.parts (units_of s)) refl e }
    by_find (Some x) f e = absurd (cc)

-- no test of the last round is resolved
none_resolved : (outcome : List ℕ → Outcome) (s : State) → AtEnd outcome s → (i : ℕ) → i < round_size s → is_resolved (outcome (test s i).times) ≡ false
none_resolved outcome s end i h =
    let all = All-from_recursion (λ t. is_resolved (outcome t.times) ≡ false) (round_of s) (find_none (λ t. is_resolved (outcome t.times)) (round_of s) end.none) in
    subst (λ t. is_resolved (outcome t.times) ≡ false) (get_or-round s i (test s 0) h) (all i (test s 0) (omega (arith, length-round s)))

module _ (outcome : List ℕ → Outcome) (s : State) (ok : IsState s) (end : AtEnd outcome s) (two : 1 < units_of s) where
  whole_size : round_size s ≡ units_of s + units_of s
  unfolding round_size
  whole_size = cond-true (nat_lt 1 (units_of s)) (2 * s.parts) 0 (lt-ltb 1 (units_of s) two) ∙ omega (arith, ok.most, end.finest)

  part_is : (i : ℕ) → cut (units_of s) s.parts i ≡ i
  part_is i =
      let e : s.parts ≡ units_of s = omega (arith, ok.most, end.finest) in
      ap (λ n. cut (units_of s) n i) e ∙ cut_units (units_of s) i (omega arith)

  added_unit : (i : ℕ) → i < units_of s → (test s i).times ≡ with_units i (i + 1) s.passing s.failing
  unfolding test
  added_unit i h =
      ap (λ t. t.times) (cond-true (nat_lt i s.parts) (added s i) (taken s (i - s.parts)) (lt-ltb i s.parts (omega (arith, end.finest))))
      ∙ ap (λ n. with_units n (cut (units_of s) s.parts (i + 1)) s.passing s.failing) (part_is i)
      ∙ ap (λ n. with_units i n s.passing s.failing) (part_is (i + 1))

  taken_unit : (i : ℕ) → i < units_of s → (test s (s.parts + i)).times ≡ with_units i (i + 1) s.failing s.passing
  unfolding test
  taken_unit i h =
      let e : s.parts + i - s.parts ≡ i = omega arith in
      ap (λ t. t.times) (cond-false (nat_lt (s.parts + i) s.parts) (added s (s.parts + i)) (taken s (s.parts + i - s.parts)) (le-ltb (s.parts + i) s.parts (omega arith)))
      ∙ ap (λ n. (taken s n).times) e
      ∙ ap (λ n. with_units n (cut (units_of s) s.parts (i + 1)) s.failing s.passing) (part_is i)
      ∙ ap (λ n. with_units i n s.failing s.passing) (part_is (i + 1))

  added_open : (i : ℕ) → i < units_of s → is_resolved (outcome (with_units i (i + 1) s.passing s.failing)) ≡ false
  added_open i h = subst (λ l. is_resolved (outcome l) ≡ false) (added_unit i h) (none_resolved outcome s end i (omega (arith, whole_size)))

  taken_open : (i : ℕ) → i < units_of s → is_resolved (outcome (with_units i (i + 1) s.failing s.passing)) ≡ false
  taken_open i h = subst (λ l. is_resolved (outcome l) ≡ false) (taken_unit i h) (none_resolved outcome s end (s.parts + i) (omega (arith, whole_size, ok.most)))

-- one unit leads all the way
last_unit : (xs ys : List ℕ) → length ys ≡ length xs → units xs ys ≡ 1 → with_units 0 1 xs ys ≡ ys
last_unit xs ys same one =
    let both = units_with 0 1 xs ys (omega arith) (omega arith) in
    same_from_units (with_units 0 1 xs ys) ys (same ∙ sym (length-with_units 0 1 xs ys)) (omega (arith, both.1))

not_pass : (o : Outcome) → is_resolved o ≡ false → o ≢ Pass
not_pass o h e = let t : true ≡ false = ap is_resolved (sym e) ∙ h in absurd (cc)

not_fail : (o : Outcome) → is_resolved o ≡ false → o ≢ Fail
not_fail o h e = let t : true ≡ false = ap is_resolved (sym e) ∙ h in absurd (cc)

-- a unit shift is one of the units
some_shift : (i : ℕ) (xs ys shifted : List ℕ) → length ys ≡ length xs → IsUnitShift i xs ys shifted → (j : ℕ) × (j < units xs ys) × (with_units j (j + 1) xs ys ≡ shifted)
some_shift i xs ys shifted same shift =
    let j = shift_is_unit xs ys i same (shift_differs i xs ys shifted shift) in
    (j.0, j.1, j.2 ∙ sym (shift_is i xs ys shifted same shift))

only_unit : (outcome : List ℕ → Outcome) (xs ys shifted : List ℕ) (a b : Outcome) → a ≢ b → outcome ys ≡ a → length ys ≡ length xs → units xs ys ≡ 1 → (i : ℕ) → IsUnitShift i xs ys shifted → outcome shifted ≢ b
only_unit outcome xs ys shifted a b ne e same one i shift =
    let j = some_shift i xs ys shifted same shift in
    let zero_is : j.0 ≡ 0 = omega (arith, j.1) in
    let is : shifted ≡ ys = sym j.2 ∙ ap (λ n. with_units n (n + 1) xs ys) zero_is ∙ last_unit xs ys same one in
    λ f. ne (sym e ∙ ap outcome (sym is) ∙ f)

some_unit : (outcome : List ℕ → Outcome) (p f : List ℕ) (s : State) → IsState s → Keeps outcome p f s → 0 < units_of s
some_unit outcome p f s ok k = by_cases (cases_lt 0 (units_of s))
  where
    by_cases : (0 < units_of s) ⊎ (units_of s ≤ 0) → 0 < units_of s
    by_cases (inl h) = h
    by_cases (inr h) =
        let same : s.passing ≡ s.failing = same_from_units s.passing s.failing ok.same (omega arith) in
        let e : Pass ≡ Fail = sym k.passes ∙ ap outcome same ∙ k.fails in
        absurd (cc)

pub minimal_at_end : (outcome : List ℕ → Outcome) (p f : List ℕ) (s : State) → IsState s → Keeps outcome p f s → follower outcome s ≡ None → IsOneMinimal outcome p f s.passing s.failing
minimal_at_end outcome p f s ok k e = by_cases (cases_lt 1 (units_of s)) (at_end outcome s e)
  where
    by_cases : (1 < units_of s) ⊎ (units_of s ≤ 1) → AtEnd outcome s → IsOneMinimal outcome p f s.passing s.failing
    by_cases (inl two) end = record {
      between = k.between;
      passes = k.passes;
      fails = k.fails;
      none_passes = λ i shifted shift. let j = some_shift i s.passing s.failing shifted ok.same shift in
          subst (λ l. outcome l ≢ Pass) j.2 (not_pass _ (added_open outcome s ok end two j.0 j.1));
      none_fails = λ i shifted shift. let j = some_shift i s.failing s.passing shifted (sym ok.same) shift in
          subst (λ l. outcome l ≢ Fail) j.2 (not_fail _ (taken_open outcome s ok end two j.0 (omega (arith, j.1, units_sym s.failing s.passing))));
    }
    by_cases (inr one) end =
        let is : units_of s ≡ 1 = omega (arith, some_unit outcome p f s ok k) in
        record {
          between = k.between;
          passes = k.passes;
          fails = k.fails;
          none_passes = λ i shifted shift. only_unit outcome s.passing s.failing shifted Fail Pass (λ q. absurd (cc)) k.fails ok.same is i shift;
          none_fails = λ i shifted shift. only_unit outcome s.failing s.passing shifted Pass Fail (λ q. absurd (cc)) k.passes (sym ok.same) (units_sym s.failing s.passing ∙ is) i shift;
        }

minimal_within : (n : ℕ) (outcome : List ℕ → Outcome) (p f : List ℕ) (s : State) → measure s ≤ n → IsState s → Keeps outcome p f s → IsOneMinimal outcome p f (last_from outcome s).passing (last_from outcome s).failing
minimal_within zero outcome p f s h ok k = by_next (follower outcome s) refl
  where
    by_next : (next : Option State) → follower outcome s ≡ next → IsOneMinimal outcome p f (last_from outcome s).passing (last_from outcome s).failing
    by_next None e = subst (λ t. IsOneMinimal outcome p f t.passing t.failing) (sym (last_end outcome s e)) (minimal_at_end outcome p f s ok k e)
    by_next (Some t) e = absurd (omega (arith, (follower_lowers outcome s t ok e).less))
minimal_within (suc n) outcome p f s h ok k = by_next (follower outcome s) refl (λ t. minimal_within n outcome p f t)
  where
    by_next : (next : Option State) → follower outcome s ≡ next → ((t : State) → measure t ≤ n → IsState t → Keeps outcome p f t → IsOneMinimal outcome p f (last_from outcome t).passing (last_from outcome t).failing) → IsOneMinimal outcome p f (last_from outcome s).passing (last_from outcome s).failing
    by_next None e later = subst (λ t. IsOneMinimal outcome p f t.passing t.failing) (sym (last_end outcome s e)) (minimal_at_end outcome p f s ok k e)
    by_next (Some t) e later =
        let lower = follower_lowers outcome s t ok e in
        subst (λ t. IsOneMinimal outcome p f t.passing t.failing) (sym (last_more outcome s t ok e)) (later t (omega (arith, lower.less)) lower.ok (follower_keeps outcome p f s t ok k e))

-- where the whole search ends
pub minimal_last : (outcome : List ℕ → Outcome) (p f : List ℕ) → length f ≡ length p → outcome p ≡ Pass → outcome f ≡ Fail → IsOneMinimal outcome p f (last_from outcome (start p f)).passing (last_from outcome (start p f)).failing
minimal_last outcome p f same passes fails = minimal_within (measure (start p f)) outcome p f (start p f) (omega arith) (start_is p f same) (start_keeps outcome p f same passes fails)
