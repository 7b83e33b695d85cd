-- What stands at the places of a list.
use Rattle.std.proofs.Common.{◌≡◌, ◌≢◌, ℕ, zero, suc, ◌+◌, ◌<◌, Bool, true, false, List, [], ◌∷◌, ◌++◌, length, Some, None, refl, arith, ap, ◌∙◌}
use Rattle.std.specs.Prelude.{◌==◌, ◌&&◌, slice_get, slice_set}
use Rattle.std.proofs.lemmas.Bool.Decides.{nat_tests}

pub none_some : {A : Type 0} (x : A) → None ≡ Some x → ⊥
none_some x e = cc

pub some_same : {A : Type 0} (x y : A) → Some x ≡ Some y → x ≡ y
some_same x y e = cc

pub same_self : (a : ℕ) → (a == a) ≡ true
same_self a = grind (arith, nat_tests)

pub differ : (a b : ℕ) → a ≢ b → (a == b) ≡ false
differ a b h = grind (arith, nat_tests)

pub equal : (a b : ℕ) → (a == b) ≡ true → a ≡ b
equal a b h = grind (arith, nat_tests)

pub unequal : (a b : ℕ) → (a == b) ≡ false → a ≢ b
unequal a b h e = grind (arith, nat_tests)

pub both : (a b : Bool) → (a && b) ≡ true → (a ≡ true) × (b ≡ true)
both true b e = (refl, e)
both false b e = absurd (cc)

-- ---- one list

-- what stands within a list
pub record Stands {A : Type 0} (xs : List A) (i : ℕ) : Type 0 where
  pub item : A
  pub is : slice_get xs i ≡ Some item

pub within : {A : Type 0} (xs : List A) (i : ℕ) → i < length xs → Stands xs i
within [] i lt = absurd (omega (arith, lt))
within (x ∷ xs) zero lt = record { item = x; is = refl }
within (x ∷ xs) (suc i) lt = let s = within xs i (omega (arith, lt)) in record { item = s.item; is = s.is }

pub set_there : {A : Type 0} (xs : List A) (i : ℕ) (x y : A) → slice_get xs i ≡ Some x → slice_get (slice_set xs i y) i ≡ Some y
set_there [] i x y e = absurd (none_some x e)
set_there (z ∷ xs) zero x y e = refl
set_there (z ∷ xs) (suc i) x y e = set_there xs i x y e

pub set_elsewhere : {A : Type 0} (xs : List A) (i j : ℕ) (y : A) → i ≢ j → slice_get (slice_set xs i y) j ≡ slice_get xs j
set_elsewhere [] i j y h = refl
set_elsewhere (z ∷ xs) zero zero y h = absurd (h refl)
set_elsewhere (z ∷ xs) zero (suc j) y h = refl
set_elsewhere (z ∷ xs) (suc i) zero y h = refl
set_elsewhere (z ∷ xs) (suc i) (suc j) y h = set_elsewhere xs i j y (λ e. h (ap suc e))

-- ---- two lists

pub in_front : {A : Type 0} (xs ys : List A) (i : ℕ) (x : A) → slice_get xs i ≡ Some x → slice_get (xs ++ ys) i ≡ Some x
in_front [] ys i x e = absurd (none_some x e)
in_front (z ∷ xs) ys zero x e = e
in_front (z ∷ xs) ys (suc i) x e = in_front xs ys i x e

pub behind : {A : Type 0} (xs ys : List A) (k : ℕ) → slice_get (xs ++ ys) (length xs + k) ≡ slice_get ys k
behind [] ys k = let place : 0 + k ≡ k = omega arith in rw place refl
behind (x ∷ xs) ys k = let place : length (x ∷ xs) + k ≡ suc (length xs + k) = omega arith in rw place (behind xs ys k)

-- lists of one length with the same items
pub same_items : {A : Type 0} (xs ys : List A) → length xs ≡ length ys → ((i : ℕ) (y : A) → slice_get ys i ≡ Some y → slice_get xs i ≡ Some y) → xs ≡ ys
same_items [] [] e h = refl
same_items [] (y ∷ ys) e h = absurd (omega (arith, e))
same_items (x ∷ xs) [] e h = absurd (omega (arith, e))
same_items (x ∷ xs) (y ∷ ys) e h =
    let first : x ≡ y = some_same x y (h zero y refl) in
    let rest : xs ≡ ys = same_items xs ys (omega (arith, e)) (λ i z at. h (suc i) z at) in
    ap (λ z. z ∷ xs) first ∙ ap (λ zs. y ∷ zs) rest
