-- Where intervals leave a gap.
use Rattle.std.proofs.Common.{◌≡◌, ℕ, zero, suc, ◌+◌, ◌<◌, ◌≤◌, Bool, true, false, not, cond, eqb, List, [], ◌∷◌, Ok, refl, sym, ap, ◌∙◌, inl, inr, eq-eqb, arith}
use Rattle.std.specs.Prelude.{Contains, count_by}
use Rattle.std.specs.List.{AllByRecursion, list_any}
use Rattle.std.proofs.lemmas.Bool.{cases_lt, cases_Bool, false_from_ne_true, or_left, or_right}
use Rattle.std.proofs.lemmas.List.Sums.{sum_by-cons}
use Rattle.schedule_log.specs.declared.interval.Interval.{Interval}
use Rattle.schedule_log.specs.declared.fault.LogKind.TheVariants.{Gap}
use Rattle.schedule_log.specs.Intervals.{numbers, holds}
use Rattle.schedule_log.specs.Ordered.{reach, ApartFrom, ContiguousFrom, is_contiguous_from}
use Rattle.schedule_log.specs.Reading.{refuse, greatest_last, has_gap, gapless_at}
use Rattle.schedule_log.proofs.Placed.{shares_none, last_bound, contiguous_from_test, none_behind}
use Rattle.schedule_log.proofs.Tiling.{one_holds, contains_cases, contains_first, contains_more}

-- ---- a test on numbers in a row

any_at : (p : ℕ → Bool) (start count k : ℕ) → start ≤ k → k < start + count → p k ≡ true → list_any p (numbers start count) ≡ true
any_at p start zero k lo hi h = absurd (omega arith)
any_at p start (suc count) k lo hi h =
    elim (cases_lt start k) [
      | inl lt ↦ or_right (p start) (list_any p (numbers (start + 1) count)) (any_at p (start + 1) count k (omega arith) (omega arith) h)
      | inr ge ↦ let same : k ≡ start = omega arith in or_left (p start) (list_any p (numbers (start + 1) count)) (ap p (sym same) ∙ h)
    ]

pub record Found (p : ℕ → Bool) (start count : ℕ) : Type 0 where
  pub at : ℕ
  pub low : start ≤ at
  pub high : at < start + count
  pub holds : p at ≡ true

any_found : (p : ℕ → Bool) (start count : ℕ) → list_any p (numbers start count) ≡ true → Found p start count
any_found p start zero e = absurd cc
any_found p start (suc count) e =
    elim (cases_Bool (p start)) [
      | inl here ↦ record { at = start; low = omega arith; high = omega arith; holds = here }
      | inr not_here ↦
          let later : list_any p (numbers (start + 1) count) ≡ true = rw not_here at e in
          let f = any_found p (start + 1) count later in
          record { at = f.at; low = omega (arith, f.low); high = omega (arith, f.high); holds = f.holds }
    ]

-- ---- a clock in none

any_holds : (k : ℕ) (is : List Interval) (i : Interval) → Contains is i → holds k i ≡ true → list_any (holds k) is ≡ true
any_holds k [] i c h = absurd (omega (arith, c.1))
any_holds k (j ∷ is) i c h =
    elim (contains_cases j i is c) [
      | inl here ↦ or_left (holds k j) (list_any (holds k) is) (ap (holds k) here ∙ h)
      | inr there ↦ or_right (holds k j) (list_any (holds k) is) (any_holds k is i there h)
    ]

none_holds : (k : ℕ) (is : List Interval) → ((i : Interval) → Contains is i → holds k i ≡ true → ⊥) → list_any (holds k) is ≡ false
none_holds k [] none = refl
none_holds k (i ∷ is) none =
    rw (false_from_ne_true (holds k i) (none i (contains_first i is)), none_holds k is (λ j c h. none j (contains_more i j is c) h)) refl

pub gap_from : (is : List Interval) → has_gap is ≡ true → (k : ℕ) × (k < greatest_last is) × ((i : Interval) → Contains is i → holds k i ≡ true → ⊥)
gap_from is e =
    let f = any_found (λ k. not (list_any (holds k) is)) 0 (greatest_last is) e in
    (f.at, omega (arith, f.high), λ i c h. let any = any_holds f.at is i c h in let no : not true ≡ true = rw any at f.holds in cc)

pub gap_of : (is : List Interval) (k : ℕ) → k < greatest_last is → ((i : Interval) → Contains is i → holds k i ≡ true → ⊥) → has_gap is ≡ true
gap_of is k lt none = any_at (λ k. not (list_any (holds k) is)) 0 (greatest_last is) k (omega arith) (omega arith) (ap not (none_holds k is none))

-- ---- intervals in order

counted_holds : (k : ℕ) (is : List Interval) → list_any (holds k) is ≡ false → count_by (holds k) is ≡ 0
counted_holds k [] e = refl
counted_holds k (i ∷ is) e =
    elim (cases_Bool (holds k i)) [
      | inl here ↦ absurd (let yes = or_left (holds k i) (list_any (holds k) is) here in let no : true ≡ false = sym yes ∙ e in cc)
      | inr other ↦
          let rest : list_any (holds k) is ≡ false = rw other at e in
          sum_by-cons (λ (j : Interval). cond (holds k j) 1 0) i is ∙ ap (λ (b : Bool). cond b 1 0 + count_by (holds k) is) other ∙ omega (arith, counted_holds k is rest)
    ]

greatest_below : (top : ℕ) (is : List Interval) → AllByRecursion (λ j. j.last < top) is → greatest_last is ≤ top
greatest_below top [] all = omega arith
greatest_below top (i ∷ is) all = omega (arith, all.0, greatest_below top is all.1)

-- where they follow directly, each clock below the end is in one
none_missing : (is : List Interval) → ContiguousFrom 0 is → has_gap is ≡ false
none_missing is f = false_from_ne_true (has_gap is) (λ e.
    let g = gap_from is e in
    let none = counted_holds g.0 is (none_holds g.0 is g.2) in
    let one = one_holds g.0 0 is f (omega arith) (omega (arith, g.1, greatest_below (reach 0 is) is (last_bound 0 is f))) in
    omega (arith, none, one))

-- and where they don't, the first clock that is missed
missing : (from : ℕ) (is : List Interval) → ApartFrom from is → is_contiguous_from from is ≡ false → (k : ℕ) × (from ≤ k) × (k < greatest_last is) × (list_any (holds k) is ≡ false)
missing from [] s e = absurd (let no = e in cc)
missing from (i ∷ is) s e =
    elim (cases_lt from i.first) [
      | inl lt ↦ (from, omega arith, omega (arith, s.1, lt), rw (shares_none from from i (inl lt), none_behind (i.last + 1) from from is s.2 (omega (arith, s.1, lt))) refl)
      | inr ge ↦
          let begins : eqb i.first from ≡ true = eq-eqb i.first from (omega (arith, s.0, ge)) in
          let rest : is_contiguous_from (i.last + 1) is ≡ false = rw begins at e in
          let m = missing (i.last + 1) is s.2 rest in
          (m.0, omega (arith, m.1, s.0, s.1), omega (arith, m.2), rw (shares_none m.0 m.0 i (inr (omega (arith, m.1)))) m.3)
    ]

pub gap-contiguous : (is : List Interval) → ApartFrom 0 is → has_gap is ≡ not (is_contiguous_from 0 is)
gap-contiguous is s =
    elim (cases_Bool (is_contiguous_from 0 is)) [
      | inl contiguous ↦ none_missing is (contiguous_from_test 0 is s contiguous) ∙ ap not (sym contiguous)
      | inr gap ↦
          let m = missing 0 is s gap in
          any_at (λ k. not (list_any (holds k) is)) 0 (greatest_last is) m.0 (omega arith) (omega (arith, m.2)) (ap not m.3) ∙ ap not (sym gap)
    ]

pub no_gap_contiguous : (is : List Interval) → ContiguousFrom 0 is → has_gap is ≡ false
no_gap_contiguous is f = none_missing is f

pub contiguous_from_gapless : (is : List Interval) → ApartFrom 0 is → has_gap is ≡ false → ContiguousFrom 0 is
contiguous_from_gapless is s e =
    elim (cases_Bool (is_contiguous_from 0 is)) [
      | inl contiguous ↦ contiguous_from_test 0 is s contiguous
      | inr gap ↦ absurd (let there : has_gap is ≡ true = gap-contiguous is s ∙ ap not gap in let bad : true ≡ false = sym there ∙ e in cc)
    ]

-- ---- the reader of it

pub gapless_yes : (placed : List Interval) (bytes : List ℕ) → ApartFrom 0 placed → is_contiguous_from 0 placed ≡ true → gapless_at placed bytes ≡ Ok bytes
unfolding gapless_at
gapless_yes placed bytes s e = rw (gap-contiguous placed s, e) refl

pub gapless_no : (placed : List Interval) (bytes : List ℕ) → ApartFrom 0 placed → is_contiguous_from 0 placed ≡ false → gapless_at placed bytes ≡ refuse Gap bytes
unfolding gapless_at
gapless_no placed bytes s e = rw (gap-contiguous placed s, e) refl
