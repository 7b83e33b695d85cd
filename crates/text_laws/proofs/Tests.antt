-- Tests of bytes and of lists of bytes.
use Rattle.std.proofs.Common.{◌≡◌, ℕ, ◌+◌, Bool, true, false, not, ◌&&◌, ◌||◌, nat_lt, List, [], ◌∷◌, None, length, refl, arith, cond, nat_eq, position}
use Rattle.std.specs.List.{position_or_len, list_all, list_any}
use Rattle.std.proofs.lemmas.Bool.Decides.{nat_tests}

-- what holds of each side, where the test chooses it, holds of the one that is chosen
pub tested : {A : Type 0} (P : A → Type 0) (c : Bool) (x y : A) → (c ≡ true → P x) → (c ≡ false → P y) → P (cond c x y)
tested P true x y px py = px refl
tested P false x y px py = py refl

pub is : (b n : ℕ) → nat_eq b n ≡ true → b ≡ n
is b n h = grind (arith, nat_tests)

pub and-first : (a b : Bool) → (a && b) ≡ true → a ≡ true
and-first true b h = refl
and-first false b h = h

pub and-second : (a b : Bool) → (a && b) ≡ true → b ≡ true
and-second true b h = h
and-second false b h = absurd (cc)

pub or-first : (a b : Bool) → (a || b) ≡ false → a ≡ false
or-first true b h = h
or-first false b h = refl

pub or-second : (a b : Bool) → (a || b) ≡ false → b ≡ false
or-second true b h = absurd (cc)
or-second false b h = h

pub or-right : (a b : Bool) → b ≡ true → (a || b) ≡ true
or-right true b e = refl
or-right false b e = e

pub either : (a b : Bool) {P : Type 0} → (a || b) ≡ true → (a ≡ true → P) → (b ≡ true → P) → P
either true b h left right = left refl
either false b h left right = right h

pub not-true : (b : Bool) → not b ≡ true → b ≡ false
not-true true e = absurd (cc)
not-true false e = refl

-- a test that no byte passes finds none
pub none-found : (p : ℕ → Bool) (xs : List ℕ) → list_any p xs ≡ false → position_or_len p xs ≡ length xs
none-found p [] h = refl
none-found p (x ∷ xs) h =
    let first : p x ≡ false = or-first (p x) (list_any p xs) h in
    let longer : position_or_len p (x ∷ xs) ≡ 1 + position_or_len p xs = rw first refl in
    omega (arith, longer, none-found p xs (or-second (p x) (list_any p xs) h))

pub no-position : (p : ℕ → Bool) (xs : List ℕ) → list_any p xs ≡ false → position p xs ≡ None
no-position p xs h =
    let all : nat_lt (position_or_len p xs) (length xs) ≡ false = rw (none-found p xs h) (grind (arith, nat_tests)) in
    rw all refl

-- a test that each byte passes, and one that no such byte passes
pub none-of : (p q : ℕ → Bool) → ((b : ℕ) → q b ≡ true → p b ≡ false) → (xs : List ℕ) → list_all q xs ≡ true → list_any p xs ≡ false
none-of p q apart [] h = refl
none-of p q apart (x ∷ xs) h =
    let first : p x ≡ false = apart x (and-first (q x) (list_all q xs) h) in
    rw first (none-of p q apart xs (and-second (q x) (list_all q xs) h))
