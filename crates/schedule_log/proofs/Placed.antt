-- Intervals in order of first that share no clock, one more among them, and those of one thread.
use Rattle.std.proofs.Common.{◌≡◌, ℕ, ◌+◌, ◌<◌, ◌≤◌, Bool, true, false, eqb, ◌&&◌, ◌||◌, List, [], ◌∷◌, ◌++◌, length, refl, sym, ap, subst, ◌∙◌, ◌⊎◌, inl, inr, eq-eqb, arith}
use Rattle.std.specs.List.{AllByRecursion, list_any}
use Rattle.std.proofs.lemmas.Bool.{cases_lt, lt-ltb, le-ltb, ne_eqb, cases_Bool, eqb-true, eqb-false}
use Rattle.schedule_log.specs.declared.interval.Interval.{Interval}
use Rattle.schedule_log.specs.Ordered.{reach, ApartFrom}
use Rattle.schedule_log.specs.Intervals.{MaximalFrom}
use Rattle.schedule_log.specs.Ordered.{ContiguousFrom, NeighboursDiffer}
use Rattle.schedule_log.specs.Logs.{put}
use Rattle.schedule_log.specs.Spelling.{part, thread_count}
use Rattle.schedule_log.specs.Intervals.{shares}
use Rattle.schedule_log.specs.Ordered.{is_contiguous_from}
use Rattle.schedule_log.proofs.Orders.{reach_grows}

pub and_true : (a b : Bool) → (a && b) ≡ true → (a ≡ true) × (b ≡ true)
and_true true b e = (refl, e)
and_true false b e = absurd cc

or_false : (a b : Bool) → (a || b) ≡ false → (a ≡ false) × (b ≡ false)
or_false true b e = absurd cc
or_false false b e = (refl, e)

-- two intervals that share no clock
pub sides : (first last : ℕ) (j : Interval) → shares first last j ≡ false → (last < j.first) ⊎ (j.last < first)
sides first last j e =
    elim (cases_lt last j.first) [
      | inl lt ↦ inl lt
      | inr ge ↦
          elim (cases_lt j.last first) [
            | inl lt ↦ inr lt
            | inr ge2 ↦ absurd (grind (arith, e, ge, ge2))
          ]
    ]

pub shares_none : (first last : ℕ) (j : Interval) → (last < j.first) ⊎ (j.last < first) → shares first last j ≡ false
shares_none first last j (inl lt) = grind arith
shares_none first last j (inr lt) = grind arith

pub put_apart : (from : ℕ) (i : Interval) (is : List Interval) → ApartFrom from is → from ≤ i.first → i.first ≤ i.last → list_any (shares i.first i.last) is ≡ false → ApartFrom from (put i is)
put_apart from i [] s lo hi free = (lo, hi, tt)
put_apart from i (j ∷ is) s lo hi free =
    let f = or_false (shares i.first i.last j) (list_any (shares i.first i.last) is) free in
    let a = sides i.first i.last j f.0 in
    elim (cases_lt i.first j.first) [
      | inl lt ↦
          let before : i.last < j.first = elim a [ inl x ↦ x | inr x ↦ omega (arith, s.1) ] in
          rw (lt-ltb _ _ lt) (lo, hi, (omega arith, s.1, s.2))
      | inr ge ↦
          let behind : j.last < i.first = elim a [ inl x ↦ omega arith | inr x ↦ x ] in
          rw (le-ltb _ _ ge) (s.0, s.1, put_apart (j.last + 1) i is s.2 (omega arith) hi f.1)
    ]

-- what holds of each
pub all_put : (P : Interval → Type 0) (i : Interval) (is : List Interval) → P i → AllByRecursion P is → AllByRecursion P (put i is)
all_put P i [] p all = (p, tt)
all_put P i (j ∷ is) p all =
    elim (cases_lt i.first j.first) [
      | inl lt ↦ rw (lt-ltb _ _ lt) (p, all)
      | inr ge ↦ rw (le-ltb _ _ ge) (all.0, all_put P i is p all.1)
    ]

pub all_weaken : (P Q : Interval → Type 0) (is : List Interval) → ((i : Interval) → P i → Q i) → AllByRecursion P is → AllByRecursion Q is
all_weaken P Q [] f all = tt
all_weaken P Q (i ∷ is) f all = (f i all.0, all_weaken P Q is f all.1)

-- ---- one thread

pub part_cons_yes : (t : ℕ) (i : Interval) (is : List Interval) → i.thread ≡ t → part t (i ∷ is) ≡ i ∷ part t is
part_cons_yes t i is e = rw (eq-eqb _ _ e) refl

pub part_cons_no : (t : ℕ) (i : Interval) (is : List Interval) → (i.thread ≡ t → ⊥) → part t (i ∷ is) ≡ part t is
part_cons_no t i is ne = rw (ne_eqb _ _ ne) refl

pub same_or_other : (a b : ℕ) → (a ≡ b) ⊎ (a ≡ b → ⊥)
same_or_other a b = elim (cases_Bool (eqb a b)) [ inl e ↦ inl (eqb-true a b e) | inr e ↦ inr (eqb-false a b e) ]

pub part_put_other : (t : ℕ) (i : Interval) (is : List Interval) → (i.thread ≡ t → ⊥) → part t (put i is) ≡ part t is
part_put_other t i [] ne = part_cons_no t i [] ne
part_put_other t i (j ∷ is) ne =
    elim (cases_lt i.first j.first) [
      | inl lt ↦ rw (lt-ltb _ _ lt) (part_cons_no t i (j ∷ is) ne)
      | inr ge ↦ rw (le-ltb _ _ ge) (
          elim (same_or_other j.thread t) [
            | inl e ↦ part_cons_yes t j (put i is) e ∙ ap (λ (r : List Interval). j ∷ r) (part_put_other t i is ne) ∙ sym (part_cons_yes t j is e)
            | inr e ↦ part_cons_no t j (put i is) e ∙ part_put_other t i is ne ∙ sym (part_cons_no t j is e)
          ])
    ]

-- a thread whose intervals all begin below x has none in what begins after x
pub part_none : (t x from : ℕ) (is : List Interval) → ApartFrom from is → x ≤ from → AllByRecursion (λ j. j.thread ≡ t → j.first < x) is → part t is ≡ []
part_none t x from [] s le all = refl
part_none t x from (j ∷ is) s le all =
    part_cons_no t j is (λ e. let b = all.0 e in omega (arith, b, s.0)) ∙ part_none t x (j.last + 1) is s.2 (omega (arith, s.0, s.1)) all.1

pub part_put_same : (t from : ℕ) (i : Interval) (is : List Interval) → ApartFrom from is → i.thread ≡ t → AllByRecursion (λ j. j.thread ≡ t → j.first < i.first) is → part t (put i is) ≡ part t is ++ i ∷ []
part_put_same t from i [] s e all = part_cons_yes t i [] e
part_put_same t from i (j ∷ is) s e all =
    elim (cases_lt i.first j.first) [
      | inl lt ↦ rw (lt-ltb _ _ lt) (
          let none : part t (j ∷ is) ≡ [] = part_none t i.first i.first (j ∷ is) (omega arith, s.1, s.2) (omega arith) all in
          part_cons_yes t i (j ∷ is) e ∙ ap (λ (r : List Interval). i ∷ r) none ∙ ap (λ (r : List Interval). r ++ i ∷ []) (sym none))
      | inr ge ↦ rw (le-ltb _ _ ge) (
          elim (same_or_other j.thread t) [
            | inl e2 ↦ part_cons_yes t j (put i is) e2 ∙ ap (λ (r : List Interval). j ∷ r) (part_put_same t (j.last + 1) i is s.2 e all.1) ∙ ap (λ (r : List Interval). r ++ i ∷ []) (sym (part_cons_yes t j is e2))
            | inr e2 ↦ part_cons_no t j (put i is) e2 ∙ part_put_same t (j.last + 1) i is s.2 e all.1 ∙ ap (λ (r : List Interval). r ++ i ∷ []) (sym (part_cons_no t j is e2))
          ])
    ]

-- ---- where each interval begins right after the one before it

pub contiguous_from_test : (from : ℕ) (is : List Interval) → ApartFrom from is → is_contiguous_from from is ≡ true → ContiguousFrom from is
contiguous_from_test from [] s e = tt
contiguous_from_test from (i ∷ is) s e =
    let both = and_true (eqb i.first from) (is_contiguous_from (i.last + 1) is) e in
    (eqb-true _ _ both.0, s.1, contiguous_from_test (i.last + 1) is s.2 both.1)

pub test_from_contiguous : (from : ℕ) (is : List Interval) → ContiguousFrom from is → is_contiguous_from from is ≡ true
test_from_contiguous from [] f = refl
test_from_contiguous from (i ∷ is) f = rw (eq-eqb _ _ f.0) (test_from_contiguous (i.last + 1) is f.2)

pub apart_from_contiguous : (from : ℕ) (is : List Interval) → ContiguousFrom from is → ApartFrom from is
apart_from_contiguous from [] f = tt
apart_from_contiguous from (i ∷ is) f = (omega (arith, f.0), f.1, apart_from_contiguous (i.last + 1) is f.2)

-- the part of a thread after a first interval
maximal_part_rest : (u : ℕ) (i : Interval) (is : List Interval) (from : ℕ) → MaximalFrom u from (part u (i ∷ is)) → (low : ℕ) × MaximalFrom u low (part u is)
maximal_part_rest u i is from s =
    elim (same_or_other i.thread u) [
      | inl e ↦ let t : MaximalFrom u from (i ∷ part u is) = subst (MaximalFrom u from) (part_cons_yes u i is e) s in (i.last + 2, t.3)
      | inr e ↦ let t : MaximalFrom u from (part u is) = subst (MaximalFrom u from) (part_cons_no u i is e) s in (from, t)
    ]

-- neighbours of one thread would leave no clock between them
pub neighbours_differ : (from : ℕ) (is : List Interval) → ContiguousFrom from is → ((u : ℕ) → (low : ℕ) × MaximalFrom u low (part u is)) → NeighboursDiffer is
neighbours_differ from [] f maximal = tt
neighbours_differ from (i ∷ []) f maximal = (tt, tt)
neighbours_differ from (i ∷ (j ∷ is)) f maximal =
    let differ : j.thread ≡ i.thread → ⊥ = λ e.
    let s = maximal i.thread in
    let t : MaximalFrom i.thread s.0 (i ∷ (j ∷ part i.thread is)) = subst (MaximalFrom i.thread s.0) (part_cons_yes i.thread i (j ∷ is) refl ∙ ap (λ (r : List Interval). i ∷ r) (part_cons_yes i.thread j is e)) s.1 in
    omega (arith, t.3.1, f.2.0) in
    (differ, neighbours_differ (i.last + 1) (j ∷ is) f.2 (λ u. maximal_part_rest u i (j ∷ is) (maximal u).0 (maximal u).1))

-- ---- the number of threads

pub thread_in_count : (t : ℕ) (is : List Interval) → 0 < length (part t is) → t + 1 ≤ thread_count is
thread_in_count t [] lt = absurd (omega arith)
thread_in_count t (i ∷ is) lt =
    elim (same_or_other i.thread t) [
      | inl e ↦ omega (arith, e)
      | inr e ↦ let l : 0 < length (part t is) = rw (← part_cons_no t i is e) lt in omega (arith, thread_in_count t is l)
    ]

pub last_thread_has : (t : ℕ) (is : List Interval) → thread_count is ≡ t + 1 → 0 < length (part t is)
last_thread_has t [] e = absurd (omega arith)
last_thread_has t (i ∷ is) e =
    elim (same_or_other i.thread t) [
      | inl f ↦ rw (part_cons_yes t i is f) (omega arith)
      | inr f ↦ rw (part_cons_no t i is f) (last_thread_has t is (omega (arith, f)))
    ]

-- ---- bounds

pub reach_bound : (from top : ℕ) (is : List Interval) → from ≤ top → AllByRecursion (λ j. j.last < top) is → reach from is ≤ top
reach_bound from top [] le all = le
reach_bound from top (i ∷ is) le all = let b = all.0 in reach_bound (i.last + 1) top is (omega arith) all.1

pub length_bound : (from : ℕ) (is : List Interval) → ContiguousFrom from is → from + length is ≤ reach from is
length_bound from [] f = omega arith
length_bound from (i ∷ is) f = let r = length_bound (i.last + 1) is f.2 in omega (arith, r, f.0, f.1)

pub part_shorter : (t : ℕ) (is : List Interval) → length (part t is) ≤ length is
part_shorter t [] = omega arith
part_shorter t (i ∷ is) =
    elim (same_or_other i.thread t) [
      | inl e ↦ rw (part_cons_yes t i is e) (omega (arith, part_shorter t is))
      | inr e ↦ rw (part_cons_no t i is e) (omega (arith, part_shorter t is))
    ]

pub last_bound : (from : ℕ) (is : List Interval) → ContiguousFrom from is → AllByRecursion (λ j. j.last < reach from is) is
last_bound from [] f = tt
last_bound from (i ∷ is) f = (let r = reach_grows (i.last + 1) is f.2 in omega (arith, r), last_bound (i.last + 1) is f.2)

-- ---- what lies after

pub none_behind : (from first last : ℕ) (is : List Interval) → ApartFrom from is → last < from → list_any (shares first last) is ≡ false
none_behind from first last [] s lt = refl
none_behind from first last (j ∷ is) s lt = rw (shares_none first last j (inl (omega (arith, s.0)))) (none_behind (j.last + 1) first last is s.2 (omega (arith, s.0, s.1)))
