-- Bytes up to the first one of a kind.
use Rattle.std.proofs.Common.{◌≡◌, ℕ, ◌≤◌, ◌<◌, Bool, true, false, not, nat_lt, List, Some, None, length, refl, arith, cond, position}
use Rattle.std.proofs.lemmas.Bool.Decides.{nat_tests}
use Rattle.std.proofs.lemmas.List.Sums.{prefix_len-le-length}
use Rattle.std.specs.List.{position_or_len}

found : (n m : ℕ) (b : Bool) (k : ℕ) → nat_lt n m ≡ b → cond b (Some n) None ≡ Some k → (k ≡ n) × (n < m)
found n m true k e h = let same : k ≡ n = cc in (same, grind (arith, nat_tests))
found n m false k e h = cc

missed : (n m : ℕ) (b : Bool) → nat_lt n m ≡ b → cond b (Some n) None ≡ None → m ≤ n
missed n m true e h = cc
missed n m false e h = grind (arith, nat_tests)

pub position-found : (p : ℕ → Bool) (xs : List ℕ) (k : ℕ) → position p xs ≡ Some k → (k ≡ position_or_len p xs) × (position_or_len p xs < length xs)
position-found p xs k h = found (position_or_len p xs) (length xs) (nat_lt (position_or_len p xs) (length xs)) k refl h

pub position-missed : (p : ℕ → Bool) (xs : List ℕ) → position p xs ≡ None → position_or_len p xs ≡ length xs
position-missed p xs h = omega (arith, missed (position_or_len p xs) (length xs) (nat_lt (position_or_len p xs) (length xs)) refl h, prefix_len-le-length (λ x. not (p x)) xs)

pub left-le : (p : ℕ → Bool) (xs : List ℕ) → position_or_len p xs ≤ length xs
left-le p xs = prefix_len-le-length (λ x. not (p x)) xs
