-- Intervals in order of first tile the numbers exactly where each follows directly on the one before it.
use Rattle.std.proofs.Common.{◌≡◌, ℕ, zero, suc, ◌+◌, ◌-◌, ◌<◌, ◌≤◌, Bool, true, false, cond, leb, ◌&&◌, List, [], ◌∷◌, length, get_or, refl, sym, ap, ◌∙◌, ◌⊎◌, inl, inr, arith}
use Rattle.std.specs.Prelude.{All, Contains, count_by}
use Rattle.std.specs.List.{AllByRecursion}
use Rattle.std.proofs.lemmas.Bool.{cases_lt}
use Rattle.std.proofs.lemmas.List.Elements.{All-from_recursion, recursion_from_All, All-contains, Contains-get_or, Contains-append_right}
use Rattle.std.proofs.lemmas.List.Sums.{sum_by-cons}
use Rattle.std.proofs.lemmas.List.Kept.{AllPairs-cons}
use Rattle.schedule_log.specs.declared.interval.Interval.{Interval}
use Rattle.schedule_log.specs.Intervals.{holds, clock_count, IsInOrder, Tiles}
use Rattle.schedule_log.specs.Ordered.{reach, next_of, ApartFrom, ContiguousFrom, BeginsOther, NeighboursDiffer}
use Rattle.schedule_log.proofs.Placed.{all_weaken, apart_from_contiguous, shares_none, last_bound}

-- ---- how many intervals hold a clock

pub count_yes : (k : ℕ) (i : Interval) (is : List Interval) → holds k i ≡ true → count_by (holds k) (i ∷ is) ≡ 1 + count_by (holds k) is
count_yes k i is e = sum_by-cons (λ (j : Interval). cond (holds k j) 1 0) i is ∙ ap (λ (b : Bool). cond b 1 0 + count_by (holds k) is) e

pub count_no : (k : ℕ) (i : Interval) (is : List Interval) → holds k i ≡ false → count_by (holds k) (i ∷ is) ≡ count_by (holds k) is
count_no k i is e = sum_by-cons (λ (j : Interval). cond (holds k j) 1 0) i is ∙ ap (λ (b : Bool). cond b 1 0 + count_by (holds k) is) e ∙ omega arith

pub held : (k : ℕ) (i : Interval) → i.first ≤ k → k ≤ i.last → (leb i.first k && leb k i.last) ≡ true
held k i lo hi = grind arith

pub held_parts : (k : ℕ) (i : Interval) → (leb i.first k && leb k i.last) ≡ true → (i.first ≤ k) × (k ≤ i.last)
held_parts k i e =
    elim (cases_lt k i.first) [
      | inl lt ↦ absurd (let no : (leb i.first k && leb k i.last) ≡ false = grind arith in let bad : true ≡ false = sym e ∙ no in cc)
      | inr lo ↦
          elim (cases_lt i.last k) [
            | inl lt ↦ absurd (let no : (leb i.first k && leb k i.last) ≡ false = grind arith in let bad : true ≡ false = sym e ∙ no in cc)
            | inr hi ↦ (lo, hi)
          ]
    ]

none_before : (k from : ℕ) (is : List Interval) → ApartFrom from is → k < from → count_by (holds k) is ≡ 0
none_before k from [] s lt = refl
none_before k from (i ∷ is) s lt = count_no k i is (shares_none k k i (inl (omega (arith, s.0)))) ∙ none_before k (i.last + 1) is s.2 (omega (arith, s.0, s.1))

pub one_holds : (k from : ℕ) (is : List Interval) → ContiguousFrom from is → from ≤ k → k < reach from is → count_by (holds k) is ≡ 1
one_holds k from [] f lo hi = absurd (omega arith)
one_holds k from (i ∷ is) f lo hi =
    elim (cases_lt i.last k) [
      | inl behind ↦ count_no k i is (shares_none k k i (inr behind)) ∙ one_holds k (i.last + 1) is f.2 (omega arith) hi
      | inr within ↦ count_yes k i is (held k i (omega (arith, f.0)) within) ∙ ap (λ (n : ℕ). 1 + n) (none_before k (i.last + 1) is (apart_from_contiguous (i.last + 1) is f.2) (omega arith))
    ]

-- ---- an element of a list

contains_at : {X : Type 0} (x y : X) (xs : List X) (k : ℕ) → k < length (x ∷ xs) → get_or (x ∷ xs) k y ≡ y → (x ≡ y) ⊎ Contains xs y
contains_at x y xs zero lt e = inl e
contains_at x y xs (suc k) lt e = inr (k, omega arith, e)

pub contains_cases : {X : Type 0} (x y : X) (xs : List X) → Contains (x ∷ xs) y → (x ≡ y) ⊎ Contains xs y
contains_cases x y xs c = contains_at x y xs c.0 c.1 c.2

pub contains_more : {X : Type 0} (x y : X) (xs : List X) → Contains xs y → Contains (x ∷ xs) y
contains_more x y xs c = Contains-append_right (x ∷ []) xs y c

pub contains_first : {X : Type 0} (x : X) (xs : List X) → Contains (x ∷ xs) x
contains_first x xs = (0, omega arith, refl)

pub by_recursion_at : (P : Interval → Type 0) (is : List Interval) (i : Interval) → AllByRecursion P is → Contains is i → P i
by_recursion_at P is i all c = All-contains P is i (All-from_recursion P is all) c

-- ---- what follows directly tiles

pub apart_firsts : (from : ℕ) (is : List Interval) → ApartFrom from is → AllByRecursion (λ j. from ≤ j.first) is
apart_firsts from [] s = tt
apart_firsts from (i ∷ is) s = (s.0, all_weaken (λ j. i.last + 1 ≤ j.first) (λ j. from ≤ j.first) is (λ j h. omega (arith, h, s.0, s.1)) (apart_firsts (i.last + 1) is s.2))

pub apart_ordered : (from : ℕ) (is : List Interval) → ApartFrom from is → AllByRecursion (λ j. j.first ≤ j.last) is
apart_ordered from [] s = tt
apart_ordered from (i ∷ is) s = (s.1, apart_ordered (i.last + 1) is s.2)

pub apart_in_order : (from : ℕ) (is : List Interval) → ApartFrom from is → IsInOrder is
apart_in_order from [] s = λ i j d lt bound. absurd (omega (arith, bound))
apart_in_order from (i ∷ is) s =
    let behind : AllByRecursion (λ j. i.first < j.first) is = all_weaken (λ j. i.last + 1 ≤ j.first) (λ j. i.first < j.first) is (λ j h. omega (arith, h, s.1)) (apart_firsts (i.last + 1) is s.2) in
    AllPairs-cons (λ (a b : Interval). a.first < b.first) i is (All-from_recursion (λ j. i.first < j.first) is behind) (apart_in_order (i.last + 1) is s.2)

-- the interval that begins where a list goes on is the list's first
other_thread : (t from : ℕ) (is : List Interval) (j : Interval) → ContiguousFrom from is → BeginsOther t is → Contains is j → j.first ≡ from → t ≡ j.thread → ⊥
other_thread t from [] j f b c e same = absurd (omega (arith, c.1))
other_thread t from (i ∷ is) j f b c e same =
    elim (contains_cases i j is c) [
      | inl here ↦ b (ap (λ (k : Interval). k.thread) here ∙ sym same)
      | inr there ↦
          let low : i.last + 1 ≤ j.first = by_recursion_at (λ k. i.last + 1 ≤ k.first) is j (apart_firsts (i.last + 1) is (apart_from_contiguous (i.last + 1) is f.2)) there in
          omega (arith, low, e, f.0, f.1)
    ]

pub neighbours_apart : (from : ℕ) (is : List Interval) (i j : Interval) → ContiguousFrom from is → NeighboursDiffer is → Contains is i → Contains is j → j.first ≡ i.last + 1 → i.thread ≡ j.thread → ⊥
neighbours_apart from [] i j f d ci cj e same = absurd (omega (arith, ci.1))
neighbours_apart from (a ∷ is) i j f d ci cj e same =
    let apart : ApartFrom (a.last + 1) is = apart_from_contiguous (a.last + 1) is f.2 in
    elim (contains_cases a i is ci) [
      | inl here ↦
          elim (contains_cases a j is cj) [
            | inl also ↦
                let one : i.last ≡ a.last = ap (λ (k : Interval). k.last) (sym here) in
                let two : j.first ≡ a.first = ap (λ (k : Interval). k.first) (sym also) in
                omega (arith, one, two, e, f.1)
            | inr there ↦ other_thread a.thread (a.last + 1) is j f.2 d.0 there (e ∙ ap (λ (k : Interval). k.last + 1) (sym here)) (ap (λ (k : Interval). k.thread) here ∙ same)
          ]
      | inr there ↦
          let low : a.last + 1 ≤ i.first = by_recursion_at (λ k. a.last + 1 ≤ k.first) is i (apart_firsts (a.last + 1) is apart) there in
          let ordered : i.first ≤ i.last = by_recursion_at (λ k. k.first ≤ k.last) is i (apart_ordered (a.last + 1) is apart) there in
          elim (contains_cases a j is cj) [
            | inl also ↦ let two : j.first ≡ a.first = ap (λ (k : Interval). k.first) (sym also) in omega (arith, two, e, low, ordered, f.1)
            | inr also ↦ neighbours_apart (a.last + 1) is i j f.2 d.1 there also e same
          ]
    ]

pub tiles_contiguous : (n : ℕ) (is : List Interval) → ContiguousFrom 0 is → NeighboursDiffer is → next_of is ≡ n → IsInOrder is × Tiles n is
tiles_contiguous n is f d e =
    let apart : ApartFrom 0 is = apart_from_contiguous 0 is f in (
      apart_in_order 0 is apart,
      record {
        ordered = All-from_recursion (λ i. i.first ≤ i.last) is (apart_ordered 0 is apart);
        once = λ k lt. one_holds k 0 is f (omega arith) (omega (arith, lt, e));
        within = All-from_recursion (λ i. i.last < n) is (all_weaken (λ i. i.last < reach 0 is) (λ i. i.last < n) is (λ i h. omega (arith, h, e)) (last_bound 0 is f));
        neighbours = λ i j ci cj h same. neighbours_apart 0 is i j f d ci cj h same;
      },
    )

-- ---- what tiles follows directly

none_at : (k : ℕ) (is : List Interval) → AllByRecursion (λ j. k < j.first) is → count_by (holds k) is ≡ 0
none_at k [] all = refl
none_at k (i ∷ is) all = count_no k i is (shares_none k k i (inl all.0)) ∙ none_at k is all.1

some_at : (k : ℕ) (is : List Interval) (j : Interval) → Contains is j → holds k j ≡ true → 1 ≤ count_by (holds k) is
some_at k [] j c h = absurd (omega (arith, c.1))
some_at k (i ∷ is) j c h =
    elim (contains_cases i j is c) [
      | inl here ↦ omega (arith, count_yes k i is (ap (holds k) here ∙ h))
      | inr there ↦
          let more : 1 ≤ count_by (holds k) is = some_at k is j there h in
          let total : count_by (holds k) (i ∷ is) ≡ cond (holds k i) 1 0 + count_by (holds k) is = sum_by-cons (λ (a : Interval). cond (holds k a) 1 0) i is in
          omega (arith, more, total)
    ]

firsts_behind : (i : Interval) (is : List Interval) → IsInOrder (i ∷ is) → All (λ j. i.first < j.first) is
firsts_behind i is order = λ k d lt. order 0 (suc k) d (omega arith) (omega (arith, lt))

order_rest : (i : Interval) (is : List Interval) → IsInOrder (i ∷ is) → IsInOrder is
order_rest i is order = λ a b d lt bound. order (suc a) (suc b) d (omega (arith, lt)) (omega (arith, bound))

all_rest : (P : Interval → Type 0) (i : Interval) (is : List Interval) → All P (i ∷ is) → All P is
all_rest P i is all = λ k d lt. all (suc k) d (omega (arith, lt))

pub record TilesFrom (from n : ℕ) (is : List Interval) : Type 0 where
  pub low : from ≤ n
  pub order : IsInOrder is
  pub firsts : All (λ j. from ≤ j.first) is
  pub ordered : All (λ j. j.first ≤ j.last) is
  pub within : All (λ j. j.last < n) is
  pub once : (k : ℕ) → from ≤ k → k < n → count_by (holds k) is ≡ 1

-- the first interval begins where the numbers do
begins_at : (from n : ℕ) (i : Interval) (is : List Interval) → TilesFrom from n (i ∷ is) → i.first ≡ from
begins_at from n i is t =
    let low : from ≤ i.first = t.firsts 0 i (omega arith) in
    let ordered : i.first ≤ i.last = t.ordered 0 i (omega arith) in
    let within : i.last < n = t.within 0 i (omega arith) in
    elim (cases_lt from i.first) [
      | inl lt ↦
          let rest : AllByRecursion (λ j. from < j.first) is = all_weaken (λ j. i.first < j.first) (λ j. from < j.first) is (λ j h. omega (arith, h, lt)) (recursion_from_All (λ j. i.first < j.first) is (firsts_behind i is t.order)) in
          let none : count_by (holds from) (i ∷ is) ≡ 0 = none_at from (i ∷ is) (lt, rest) in
          let one : count_by (holds from) (i ∷ is) ≡ 1 = t.once from (omega arith) (omega (arith, low, ordered, within)) in
          absurd (omega (arith, none, one))
      | inr ge ↦ omega arith
    ]

-- and no other begins before its end
behind_first : (from n : ℕ) (i : Interval) (is : List Interval) → TilesFrom from n (i ∷ is) → All (λ j. i.last + 1 ≤ j.first) is
behind_first from n i is t = λ k d lt.
    let j = get_or is k d in
    let above : i.first < j.first = firsts_behind i is t.order k d lt in
    let low : from ≤ j.first = t.firsts (suc k) d (omega (arith, lt)) in
    let ordered : j.first ≤ j.last = t.ordered (suc k) d (omega (arith, lt)) in
    let within : j.last < n = t.within (suc k) d (omega (arith, lt)) in
    elim (cases_lt i.last j.first) [
      | inl behind ↦ omega (arith, behind)
      | inr inside ↦
          let two : 1 ≤ count_by (holds j.first) is = some_at j.first is j (Contains-get_or is k d lt) (held j.first j (omega arith) ordered) in
          let both : count_by (holds j.first) (i ∷ is) ≡ 1 + count_by (holds j.first) is = count_yes j.first i is (held j.first i (omega (arith, above)) inside) in
          let one : count_by (holds j.first) (i ∷ is) ≡ 1 = t.once j.first low (omega (arith, ordered, within)) in
          absurd (omega (arith, two, both, one))
    ]

pub contiguous_tiles : (is : List Interval) (from n : ℕ) → TilesFrom from n is → ContiguousFrom from is × (reach from is ≡ n)
contiguous_tiles [] from n t =
    elim (cases_lt from n) [
      | inl lt ↦ absurd (let none = t.once from (omega arith) lt in cc)
      | inr ge ↦ (tt, omega (arith, ge, t.low))
    ]
contiguous_tiles (i ∷ is) from n t =
    let begins = begins_at from n i is t in
    let ordered : i.first ≤ i.last = t.ordered 0 i (omega arith) in
    let within : i.last < n = t.within 0 i (omega arith) in
    let rest : TilesFrom (i.last + 1) n is = record {
      low = omega (arith, within);
      order = order_rest i is t.order;
      firsts = behind_first from n i is t;
      ordered = all_rest (λ j. j.first ≤ j.last) i is t.ordered;
      within = all_rest (λ j. j.last < n) i is t.within;
      once = λ k lo hi. sym (count_no k i is (shares_none k k i (inr (omega (arith, lo))))) ∙ t.once k (omega (arith, lo, begins, ordered)) hi;
    } in
    let r = contiguous_tiles is (i.last + 1) n rest in
    ((begins, ordered, r.0), r.1)

neighbours_of : (from : ℕ) (is : List Interval) → ContiguousFrom from is → ((i j : Interval) → Contains is i → Contains is j → j.first ≡ i.last + 1 → i.thread ≡ j.thread → ⊥) → NeighboursDiffer is
neighbours_of from [] f apart = tt
neighbours_of from (i ∷ []) f apart = (tt, tt)
neighbours_of from (i ∷ (j ∷ is)) f apart = (
  λ same. apart i j (contains_first i (j ∷ is)) (contains_more i j (j ∷ is) (contains_first j is)) f.2.0 (sym same),
  neighbours_of (i.last + 1) (j ∷ is) f.2 (λ a b ca cb e same. apart a b (contains_more i a (j ∷ is) ca) (contains_more i b (j ∷ is) cb) e same),
)

pub contiguous_from_tiles : (n : ℕ) (is : List Interval) → IsInOrder is → Tiles n is → ContiguousFrom 0 is × NeighboursDiffer is × (next_of is ≡ n)
contiguous_from_tiles n is order t =
    let r = contiguous_tiles is 0 n (record {
      low = omega arith;
      order = order;
      firsts = λ k d lt. omega arith;
      ordered = t.ordered;
      within = t.within;
      once = λ k lo hi. t.once k hi;
    }) in
    (r.0, neighbours_of 0 is r.0 (λ i j ci cj e same. t.neighbours i j ci cj e same), r.1)

-- ---- how many clocks there are

pub counted : (from : ℕ) (is : List Interval) → ContiguousFrom from is → from + clock_count is ≡ reach from is
counted from [] f = omega arith
counted from (i ∷ is) f =
    let rest : i.last + 1 + clock_count is ≡ reach (i.last + 1) is = counted (i.last + 1) is f.2 in
    let total : clock_count (i ∷ is) ≡ i.last + 1 - i.first + clock_count is = sum_by-cons (λ (j : Interval). j.last + 1 - j.first) i is in
    omega (arith, rest, total, f.0, f.1)

pub counted_all : (is : List Interval) → ContiguousFrom 0 is → clock_count is ≡ next_of is
counted_all is f = omega (arith, counted 0 is f)
