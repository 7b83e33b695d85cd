-- Tests that hold, as facts, and what holds of each element of a list.
use Rattle.std.proofs.Common.{◌≡◌, ℕ, zero, suc, ◌<◌, ◌≤◌, Bool, true, false, List, [], ◌∷◌, ◌++◌, length, Option, Some, None, refl, subst, arith, ◌⊎◌, inl, inr}
use Rattle.std.specs.Prelude.{◌==◌, ◌&&◌, ◌||◌, nat_lt, nat_le, slice_get, slice_set, is_some}
use Rattle.std.specs.List.{AllByRecursion}
use Rattle.std.proofs.lemmas.Bool.{false≢true}
use Rattle.std.proofs.lemmas.Bool.Decides.{nat_tests}

pub same : (a b : ℕ) → (a == b) ≡ true → a ≡ b
same a b e = grind (arith, nat_tests)

pub same_self : (a : ℕ) → (a == a) ≡ true
same_self a = grind (arith, nat_tests)

pub either : (a b : Bool) → (a || b) ≡ true → (a ≡ true) ⊎ (b ≡ true)
either true b e = inl refl
either false b e = inr e

pub on_left : (a b : Bool) → a ≡ true → (a || b) ≡ true
on_left true b e = refl
on_left false b e = absurd (false≢true e)

pub on_right : (a b : Bool) → b ≡ true → (a || b) ≡ true
on_right true b e = refl
on_right false b e = e

pub of_left : (b : Bool) → (b || false) ≡ true → b ≡ true
of_left true e = refl
of_left false e = e

pub both : (a b : Bool) → (a && b) ≡ true → (a ≡ true) × (b ≡ true)
both true b e = (refl, e)
both false b e = absurd (false≢true e)

pub joined : (a b : Bool) → a ≡ true → b ≡ true → (a && b) ≡ true
joined true b e g = g
joined false b e g = absurd (false≢true e)

pub below_true : (a b : ℕ) → a < b → nat_lt a b ≡ true
below_true a b lt = grind (arith, nat_tests)

pub true_below : (a b : ℕ) → nat_lt a b ≡ true → a < b
true_below a b e = grind (arith, nat_tests)

pub at_most : (a b : ℕ) → nat_le a b ≡ true → a ≤ b
at_most a b e = grind (arith, nat_tests)

-- ---- lists

none_some : {A : Type 0} (x : A) → None ≡ Some x → ⊥
none_some x e = cc

some_same : {A : Type 0} (x y : A) → Some x ≡ Some y → x ≡ y
some_same x y e = cc

-- what holds of each element holds of the one at a place
pub all_there : {A : Type 0} (P : A → Type 0) (xs : List A) (i : ℕ) (x : A) → AllByRecursion P xs → slice_get xs i ≡ Some x → P x
all_there P [] i x all e = absurd (none_some x e)
all_there P (y ∷ xs) zero x all e = subst P (some_same y x e) all.0
all_there P (y ∷ xs) (suc i) x all e = all_there P xs i x all.1 e

pub all_set : {A : Type 0} (P : A → Type 0) (xs : List A) (i : ℕ) (x : A) → AllByRecursion P xs → P x → AllByRecursion P (slice_set xs i x)
all_set P [] i x all h = tt
all_set P (y ∷ xs) zero x all h = (h, all.1)
all_set P (y ∷ xs) (suc i) x all h = (all.0, all_set P xs i x all.1 h)

pub all_both : {A : Type 0} (P : A → Type 0) (xs ys : List A) → AllByRecursion P xs → AllByRecursion P ys → AllByRecursion P (xs ++ ys)
all_both P [] ys h k = k
all_both P (x ∷ xs) ys h k = (h.0, all_both P xs ys h.1 k)

-- there is an element at each place below the length
pub some_there : {A : Type 0} (xs : List A) (i : ℕ) → i < length xs → (x : A) × (slice_get xs i ≡ Some x)
some_there [] i h = absurd (omega arith)
some_there (x ∷ xs) zero h = (x, refl)
some_there (x ∷ xs) (suc i) h = some_there xs i (omega arith)

pub has_value : {A : Type 0} (o : Option A) → is_some o ≡ true → (x : A) × (o ≡ Some x)
has_value None h = absurd (false≢true h)
has_value (Some x) h = (x, refl)
