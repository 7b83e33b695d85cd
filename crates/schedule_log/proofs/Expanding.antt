-- The thread of each clock, and the intervals put in order.
use Rattle.std.proofs.Common.{◌≡◌, ℕ, zero, suc, ◌+◌, ◌-◌, ◌<◌, ◌≤◌, true, List, [], ◌∷◌, ◌++◌, length, replicate, refl, sym, ap, subst, ◌∙◌, inl, inr, arith}
use Rattle.std.specs.Prelude.{Some, Contains, slice_get, IsPermutation}
use Rattle.std.specs.List.{flat_map}
use Rattle.std.proofs.lemmas.Bool.{cases_lt, lt-ltb, le-ltb}
use Rattle.std.proofs.lemmas.List.{length-append, length-replicate, append-nil}
use Rattle.std.proofs.lemmas.List.Sums.{sum_by-cons}
use Rattle.std.proofs.lemmas.List.Sorted.{IsPermutation-refl, IsPermutation-sym, IsPermutation-trans, IsPermutation-cons, IsPermutation-middle, IsPermutation-append_left}
use Rattle.schedule_log.specs.declared.interval.Interval.{Interval}
use Rattle.schedule_log.specs.Intervals.{holds, clock_count}
use Rattle.schedule_log.specs.Ordered.{ContiguousFrom}
use Rattle.schedule_log.specs.Logs.{threads_in, put, put_all}
use Rattle.schedule_log.proofs.Placed.{apart_from_contiguous}
use Rattle.schedule_log.proofs.Tiling.{contains_cases, held_parts, apart_firsts, by_recursion_at}

-- ---- the thread of each clock

pub length-threads : (is : List Interval) → length (flat_map threads_in is) ≡ clock_count is
length-threads [] = refl
length-threads (i ∷ is) =
    length-append (threads_in i) (flat_map threads_in is)
    ∙ ap (λ (n : ℕ). n + length (flat_map threads_in is)) (length-replicate (i.last + 1 - i.first) i.thread)
    ∙ ap (λ (n : ℕ). i.last + 1 - i.first + n) (length-threads is)
    ∙ sym (sum_by-cons (λ (j : Interval). j.last + 1 - j.first) i is)

get_front : (n k t : ℕ) (rest : List ℕ) → k < n → slice_get (replicate n t ++ rest) k ≡ Some t
get_front zero k t rest lt = absurd (omega arith)
get_front (suc n) zero t rest lt = refl
get_front (suc n) (suc k) t rest lt = get_front n k t rest (omega arith)

get_behind : (n k m t : ℕ) (rest : List ℕ) → m ≡ n + k → slice_get (replicate n t ++ rest) m ≡ slice_get rest k
get_behind zero k m t rest e = ap (slice_get rest) (let same : m ≡ k = omega arith in same)
get_behind (suc n) k zero t rest e = absurd (omega arith)
get_behind (suc n) k (suc m) t rest e = get_behind n k m t rest (omega arith)

pub thread_at_clock : (from k clock : ℕ) (is : List Interval) (i : Interval) → ContiguousFrom from is → clock ≡ from + k → Contains is i → holds clock i ≡ true → slice_get (flat_map threads_in is) k ≡ Some i.thread
thread_at_clock from k clock [] i f e c h = absurd (omega (arith, c.1))
thread_at_clock from k clock (a ∷ is) i f e c h =
    let b = held_parts clock i h in
    let n : ℕ = a.last + 1 - a.first in
    elim (contains_cases a i is c) [
      | inl here ↦
          let last : i.last ≡ a.last = ap (λ (j : Interval). j.last) (sym here) in
          get_front n k a.thread (flat_map threads_in is) (omega (arith, f.0, f.1, b.1, last, e)) ∙ ap (λ (j : Interval). Some j.thread) here
      | inr there ↦
          let low : a.last + 1 ≤ i.first = by_recursion_at (λ j. a.last + 1 ≤ j.first) is i (apart_firsts (a.last + 1) is (apart_from_contiguous (a.last + 1) is f.2)) there in
          let rest : ℕ = clock - (a.last + 1) in
          get_behind n rest k a.thread (flat_map threads_in is) (omega (arith, f.0, f.1, b.0, low, e)) ∙ thread_at_clock (a.last + 1) rest clock is i f.2 (omega (arith, b.0, low)) there h
    ]

-- ---- in order

put-permutation : (i : Interval) (is : List Interval) → IsPermutation (put i is) (i ∷ is)
put-permutation i [] = IsPermutation-refl (i ∷ [])
put-permutation i (j ∷ is) =
    elim (cases_lt i.first j.first) [
      | inl lt ↦ rw (lt-ltb _ _ lt) (IsPermutation-refl (i ∷ (j ∷ is)))
      | inr ge ↦ rw (le-ltb _ _ ge) (IsPermutation-trans (j ∷ put i is) (j ∷ (i ∷ is)) (i ∷ (j ∷ is)) (IsPermutation-cons j (put i is) (i ∷ is) (put-permutation i is)) (IsPermutation-middle (j ∷ []) i is))
    ]

put_all-permutation : (placed is : List Interval) → IsPermutation (put_all placed is) (placed ++ is)
put_all-permutation placed [] = subst (IsPermutation placed) (sym (append-nil placed)) (IsPermutation-refl placed)
put_all-permutation placed (i ∷ is) =
    IsPermutation-trans (put_all (put i placed) is) (put i placed ++ is) (placed ++ i ∷ is) (put_all-permutation (put i placed) is)
    (IsPermutation-trans (put i placed ++ is) (i ∷ (placed ++ is)) (placed ++ i ∷ is) (IsPermutation-append_left is (put i placed) (i ∷ placed) (put-permutation i placed))
    (IsPermutation-sym (placed ++ i ∷ is) (i ∷ (placed ++ is)) (IsPermutation-middle placed i is)))

pub in_order-permutation : (is : List Interval) → IsPermutation (put_all [] is) is
in_order-permutation is = put_all-permutation [] is
