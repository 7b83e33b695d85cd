-- What a list keeps of another that has each time at least as often.
use Rattle.std.proofs.Common.{◌≡◌, ℕ, suc, ◌+◌, ◌<◌, ◌≤◌, Bool, true, false, cond, List, [], ◌∷◌, length, refl, ap, arith}
use Rattle.std.specs.Prelude.{◌==◌, All}
use Rattle.std.specs.List.{AllByRecursion}
use Rattle.std.proofs.lemmas.Bool.{eqb-true}
use Rattle.std.proofs.lemmas.List.Elements.{recursion_from_All, All-from_recursion}
use Rattle.schedule_model.specs.declared.outcome.Outcome.{Outcome}
use Rattle.schedule_model.specs.Schedules.{occurrences}
use Rattle.switch_reducer.specs.Reduced.{IsReduced}
use Rattle.switch_reducer.proofs.Ordered.{occurs_more, occurs_first}

-- without the first such time
erased : ℕ → List ℕ → List ℕ
erased t [] = []
erased t (y ∷ ys) = cond (y == t) ys (y ∷ erased t ys)

length_erased : (t : ℕ) (ys : List ℕ) → 0 < occurrences ys t → suc (length (erased t ys)) ≡ length ys
unfolding erased
length_erased t [] h = absurd (omega arith)
length_erased t (y ∷ ys) h = by_test (y == t) (occurs_more y ys t) (length_erased t ys)
  where
    by_test : (b : Bool) → occurrences (y ∷ ys) t ≡ cond {A = ℕ} b 1 0 + occurrences ys t → (0 < occurrences ys t → suc (length (erased t ys)) ≡ length ys) → suc (length (cond b ys (y ∷ erased t ys))) ≡ suc (length ys)
    by_test true count later = refl
    by_test false count later = ap suc (later (omega arith))

occurs_erased : (t u : ℕ) (ys : List ℕ) → 0 < occurrences ys t → occurrences (erased t ys) u + cond {A = ℕ} (t == u) 1 0 ≡ occurrences ys u
unfolding erased
occurs_erased t u [] h = absurd (omega arith)
occurs_erased t u (y ∷ ys) h = by_test (y == t) refl (occurs_more y ys t) (occurs_erased t u ys)
  where
    by_test : (b : Bool) → (y == t) ≡ b → occurrences (y ∷ ys) t ≡ cond {A = ℕ} b 1 0 + occurrences ys t → (0 < occurrences ys t → occurrences (erased t ys) u + cond {A = ℕ} (t == u) 1 0 ≡ occurrences ys u) → occurrences (cond b ys (y ∷ erased t ys)) u + cond {A = ℕ} (t == u) 1 0 ≡ occurrences (y ∷ ys) u
    by_test true e count later =
        let same : y ≡ t = eqb-true y t e in
        omega (arith, occurs_more y ys u, ap (λ z. cond {A = ℕ} (z == u) 1 0) same)
    by_test false e count later = omega (arith, occurs_more y ys u, occurs_more y (erased t ys) u, later (omega arith))

pub length_within : (xs ys : List ℕ) → ((t : ℕ) → occurrences xs t ≤ occurrences ys t) → length xs ≤ length ys
length_within [] ys h = omega arith
length_within (x ∷ xs) ys h =
    let some : 0 < occurrences ys x = omega (arith, occurs_first x xs, h x) in
    omega (arith, length_erased x ys some, length_within xs (erased x ys) (λ t. omega (arith, h t, occurs_more x xs t, occurs_erased x t ys some)))

occurs_below : (most t : ℕ) (xs : List ℕ) → AllByRecursion (λ y. y ≤ most) xs → 0 < occurrences xs t → t ≤ most
occurs_below most t [] all h = absurd (omega arith)
occurs_below most t (x ∷ xs) all h = by_test (x == t) refl (occurs_more x xs t) (occurs_below most t xs all.1)
  where
    by_test : (b : Bool) → (x == t) ≡ b → occurrences (x ∷ xs) t ≡ cond {A = ℕ} b 1 0 + occurrences xs t → (0 < occurrences xs t → t ≤ most) → t ≤ most
    by_test true e count rest = omega (arith, all.0, eqb-true x t e)
    by_test false e count rest = rest (omega arith)

all_below : (most : ℕ) (xs : List ℕ) → ((t : ℕ) → 0 < occurrences xs t → t ≤ most) → AllByRecursion (λ y. y ≤ most) xs
all_below most [] h = tt
all_below most (x ∷ xs) h = (h x (occurs_first x xs), all_below most xs (λ t k. h t (omega (arith, occurs_more x xs t))))

pub reduced_no_longer : (outcome : List ℕ → Outcome) (given c : List ℕ) → IsReduced outcome given c → length c ≤ length given
reduced_no_longer outcome given c r = length_within c given r.no_more

pub reduced_within : (outcome : List ℕ → Outcome) (given c : List ℕ) (most : ℕ) → IsReduced outcome given c → All (λ time. time ≤ most) given → All (λ time. time ≤ most) c
reduced_within outcome given c most r all =
    All-from_recursion (λ y. y ≤ most) c (all_below most c (λ t k. occurs_below most t given (recursion_from_All (λ y. y ≤ most) given all) (omega (arith, r.no_more t))))
