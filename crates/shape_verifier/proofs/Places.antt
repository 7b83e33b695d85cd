-- What a list has at its places, before and after one of them is written.
use Rattle.std.proofs.Common.{◌≡◌, ℕ, zero, suc, ◌+◌, ◌-◌, ◌<◌, List, [], ◌∷◌, ◌++◌, length, replicate, get_or, Option, Some, None, refl, sym, ◌∙◌, ap, arith, append_assoc}
use Rattle.std.specs.Prelude.{slice_get, slice_set}
use Rattle.std.specs.List.{AllByRecursion}
use Rattle.std.proofs.lemmas.Option.{slice_get-get_or}

-- the element that was read at a place
pub there : {A : Type 0} (xs : List A) (i : ℕ) (x : A) → i < length xs → x ≡ get_or xs i x → slice_get xs i ≡ Some x
there xs i x low is = slice_get-get_or xs i x low ∙ ap Some (sym is)

-- what a list has at a place below its length, whatever stands for it elsewhere
pub read : {A : Type 0} (xs : List A) (i : ℕ) (d : A) → i < length xs → slice_get xs i ≡ Some (get_or xs i d)
read xs i d low = slice_get-get_or xs i d low

pub written : {A : Type 0} (xs : List A) (i : ℕ) (x y : A) → slice_get xs i ≡ Some y → slice_get (slice_set xs i x) i ≡ Some x
written [] i x y is = cc
written (z ∷ xs) zero x y is = refl
written (z ∷ xs) (suc i) x y is = written xs i x y is

pub untouched : {A : Type 0} (xs : List A) (i k : ℕ) (x : A) → (k ≡ i → ⊥) → slice_get (slice_set xs i x) k ≡ slice_get xs k
untouched [] i k x other = refl
untouched (z ∷ xs) zero zero x other = absurd (other refl)
untouched (z ∷ xs) zero (suc k) x other = refl
untouched (z ∷ xs) (suc i) zero x other = refl
untouched (z ∷ xs) (suc i) (suc k) x other = untouched xs i k x (λ e. other (ap suc e))

-- what is written again as it was
pub same_again : {A : Type 0} (xs : List A) (i : ℕ) (x : A) → slice_get xs i ≡ Some x → slice_set xs i x ≡ xs
same_again [] i x is = refl
same_again (z ∷ xs) zero x is = let e : x ≡ z = cc in ap (λ y. y ∷ xs) e
same_again (z ∷ xs) (suc i) x is = ap (λ ys. z ∷ ys) (same_again xs i x is)

pub as_long : {A : Type 0} (xs : List A) (i : ℕ) (x : A) → length (slice_set xs i x) ≡ length xs
as_long [] i x = refl
as_long (z ∷ xs) zero x = refl
as_long (z ∷ xs) (suc i) x = ap suc (as_long xs i x)

-- what holds of each element by place
pub all_places : {A : Type 0} (P : A → Type 0) (xs : List A) → ((i : ℕ) (x : A) → slice_get xs i ≡ Some x → P x) → AllByRecursion P xs
all_places P [] h = tt
all_places P (x ∷ xs) h = (h zero x refl, all_places P xs (λ i y e. h (suc i) y e))

pub all_as : {A : Type 0} (P Q : A → Type 0) (xs : List A) → ((x : A) → P x → Q x) → AllByRecursion P xs → AllByRecursion Q xs
all_as P Q [] h all = tt
all_as P Q (x ∷ xs) h all = (h x all.0, all_as P Q xs h all.1)

-- one more that is empty
pub none_more : {A : Type 0} (xs : List (Option A)) (count place : ℕ) → place < count → (xs ++ None ∷ []) ++ replicate (count - (place + 1)) None ≡ xs ++ replicate (count - place) None
none_more xs count place low =
    let e : suc (count - (place + 1)) ≡ count - place = omega arith in
    append_assoc xs (None ∷ []) (replicate (count - (place + 1)) None) ∙ ap (λ n. xs ++ replicate n None) e
