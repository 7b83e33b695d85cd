-- The times in order are the one list that is in order and has the same times.
use Rattle.std.proofs.Common.{◌≡◌, ℕ, zero, suc, ◌+◌, ◌<◌, ◌≤◌, Bool, true, false, cond, List, [], ◌∷◌, length, refl, sym, ◌∙◌, ap, arith}
use Rattle.std.specs.Prelude.{nat_lt, ◌==◌, slice_index_or}
use Rattle.std.specs.List.{AllByRecursion, sum_by}
use Rattle.std.specs.List.Sorted.{IsNonDecreasing, IsPermutation}
use Rattle.std.proofs.lemmas.Bool.{ltb-true, ltb-false, eqb-true, eq-eqb}
use Rattle.std.proofs.lemmas.List.Elements.{recursion_from_All, All-from_recursion}
use Rattle.std.proofs.lemmas.List.Sums.{sum_by-cons}
use Rattle.std.proofs.lemmas.List.Sorted.{sum_by-IsPermutation}
use Rattle.schedule_model.specs.Schedules.{occurrences}
use Rattle.switch_reducer.specs.Sorted.{inserted, sorted}

abbrev pub Rises : List ℕ → Type 0
Rises [] = Unit {0}
Rises (x ∷ xs) = AllByRecursion (λ y. x ≤ y) xs × Rises xs

lower : (a b : ℕ) → a ≤ b → (xs : List ℕ) → AllByRecursion (λ y. b ≤ y) xs → AllByRecursion (λ y. a ≤ y) xs
lower a b h [] all = tt
lower a b h (x ∷ xs) all = (omega (arith, all.0), lower a b h xs all.1)

all_inserted : (P : ℕ → Type 0) (t : ℕ) (xs : List ℕ) → P t → AllByRecursion P xs → AllByRecursion P (inserted t xs)
all_inserted P t [] p all = (p, tt)
all_inserted P t (x ∷ xs) p all = by_test (nat_lt x t) (all_inserted P t xs p all.1)
  where
    by_test : (b : Bool) → AllByRecursion P (inserted t xs) → AllByRecursion P (cond b (x ∷ inserted t xs) (t ∷ x ∷ xs))
    by_test true rest = (all.0, rest)
    by_test false rest = (p, all)

rises_inserted : (t : ℕ) (xs : List ℕ) → Rises xs → Rises (inserted t xs)
rises_inserted t [] r = (tt, tt)
rises_inserted t (x ∷ xs) r = by_test (nat_lt x t) refl (rises_inserted t xs r.1)
  where
    by_test : (b : Bool) → nat_lt x t ≡ b → Rises (inserted t xs) → Rises (cond b (x ∷ inserted t xs) (t ∷ x ∷ xs))
    by_test true e rest = (all_inserted (λ y. x ≤ y) t xs (omega (arith, ltb-true x t e)) r.0, rest)
    by_test false e rest = ((ltb-false x t e, lower t x (ltb-false x t e) xs r.0), r)

pub rises_sorted : (xs : List ℕ) → Rises (sorted xs)
unfolding sorted
rises_sorted [] = tt
rises_sorted (x ∷ xs) = rises_inserted x (sorted xs) (rises_sorted xs)

sum_inserted : (f : ℕ → ℕ) (t : ℕ) (xs : List ℕ) → sum_by f (inserted t xs) ≡ f t + sum_by f xs
sum_inserted f t [] = sum_by-cons f t []
sum_inserted f t (x ∷ xs) = by_test (nat_lt x t) (sum_inserted f t xs)
  where
    by_test : (b : Bool) → sum_by f (inserted t xs) ≡ f t + sum_by f xs → sum_by f (cond b (x ∷ inserted t xs) (t ∷ x ∷ xs)) ≡ f t + sum_by f (x ∷ xs)
    by_test true rest = omega (arith, sum_by-cons f x (inserted t xs), sum_by-cons f x xs, rest)
    by_test false rest = sum_by-cons f t (x ∷ xs)

pub sum_sorted : (f : ℕ → ℕ) (xs : List ℕ) → sum_by f (sorted xs) ≡ sum_by f xs
unfolding sorted
sum_sorted f [] = refl
sum_sorted f (x ∷ xs) = omega (arith, sum_inserted f x (sorted xs), sum_sorted f xs, sum_by-cons f x xs)

length_inserted : (t : ℕ) (xs : List ℕ) → length (inserted t xs) ≡ suc (length xs)
length_inserted t [] = refl
length_inserted t (x ∷ xs) = by_test (nat_lt x t) (length_inserted t xs)
  where
    by_test : (b : Bool) → length (inserted t xs) ≡ suc (length xs) → length (cond b (x ∷ inserted t xs) (t ∷ x ∷ xs)) ≡ suc (suc (length xs))
    by_test true rest = ap suc rest
    by_test false rest = refl

pub length_sorted : (xs : List ℕ) → length (sorted xs) ≡ length xs
unfolding sorted
length_sorted [] = refl
length_sorted (x ∷ xs) = length_inserted x (sorted xs) ∙ ap suc (length_sorted xs)

pub occurrences_sorted : (xs : List ℕ) (t : ℕ) → occurrences (sorted xs) t ≡ occurrences xs t
occurrences_sorted xs t = sum_sorted (λ x. cond (x == t) 1 0) xs

rises_from : (xs : List ℕ) → IsNonDecreasing xs → Rises xs
rises_from [] n = tt
rises_from (x ∷ xs) n = (
  recursion_from_All (λ y. x ≤ y) xs (λ k d h. n 0 (suc k) d (omega arith) (omega arith)),
  rises_from xs (λ i j d k h. n (suc i) (suc j) d (omega arith) (omega arith)),
)

pub in_order_from : (xs : List ℕ) → Rises xs → IsNonDecreasing xs
in_order_from [] r = λ i j d k h. absurd (omega arith)
in_order_from (x ∷ xs) r = by_places (All-from_recursion (λ y. x ≤ y) xs r.0) (in_order_from xs r.1)
  where
    by_places : ((k : ℕ) (d : ℕ) → k < length xs → x ≤ slice_index_or xs k d) → IsNonDecreasing xs → IsNonDecreasing (x ∷ xs)
    by_places all rest zero zero d k h = omega arith
    by_places all rest zero (suc j) d k h = all j d (omega arith)
    by_places all rest (suc i) zero d k h = absurd (omega arith)
    by_places all rest (suc i) (suc j) d k h = rest i j d (omega arith) (omega arith)

pub occurs_more : (x : ℕ) (xs : List ℕ) (t : ℕ) → occurrences (x ∷ xs) t ≡ cond {A = ℕ} (x == t) 1 0 + occurrences xs t
occurs_more x xs t = sum_by-cons (λ y. cond (y == t) 1 0) x xs

-- what occurs is no lower than what is below all
occurs_above : (a t : ℕ) (xs : List ℕ) → AllByRecursion (λ y. a ≤ y) xs → 0 < occurrences xs t → a ≤ t
occurs_above a t [] all h = absurd (omega arith)
occurs_above a t (x ∷ xs) all h = by_test (x == t) refl (occurs_more x xs t) (occurs_above a t xs all.1)
  where
    by_test : (b : Bool) → (x == t) ≡ b → occurrences (x ∷ xs) t ≡ cond {A = ℕ} b 1 0 + occurrences xs t → (0 < occurrences xs t → a ≤ t) → a ≤ t
    by_test true e count rest = omega (arith, all.0, eqb-true x t e)
    by_test false e count rest = rest (omega arith)

pub occurs_first : (x : ℕ) (xs : List ℕ) → 0 < occurrences (x ∷ xs) x
occurs_first x xs = omega (arith, occurs_more x xs x, ap (λ b. cond {A = ℕ} b 1 0) (eq-eqb x x refl))

same_rising : (xs ys : List ℕ) → Rises xs → Rises ys → ((t : ℕ) → occurrences xs t ≡ occurrences ys t) → xs ≡ ys
same_rising [] [] r q h = refl
same_rising [] (y ∷ ys) r q h = absurd (omega (arith, occurs_first y ys, h y))
same_rising (x ∷ xs) [] r q h = absurd (omega (arith, occurs_first x xs, h x))
same_rising (x ∷ xs) (y ∷ ys) r q h =
    let low : y ≤ x = occurs_above y x (y ∷ ys) (omega arith, q.0) (omega (arith, occurs_first x xs, h x)) in
    let high : x ≤ y = occurs_above x y (x ∷ xs) (omega arith, r.0) (omega (arith, occurs_first y ys, h y)) in
    let same : x ≡ y = omega arith in
    ap (λ z. z ∷ xs) same ∙ ap (λ l. y ∷ l) (same_rising xs ys r.1 q.1 (λ t. omega (arith, occurs_more x xs t, occurs_more y ys t, h t, ap (λ z. cond {A = ℕ} (z == t) 1 0) same)))

pub sorted_is : (xs ys : List ℕ) → IsPermutation xs ys → IsNonDecreasing ys → ys ≡ sorted xs
sorted_is xs ys p n = same_rising ys (sorted xs) (rises_from ys n) (rises_sorted xs) (λ t. sum_by-IsPermutation (λ x. cond (x == t) 1 0) xs ys p ∙ sym (occurrences_sorted xs t))
