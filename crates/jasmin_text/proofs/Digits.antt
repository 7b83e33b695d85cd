-- Numbers read digit by digit.
use Rattle.std.proofs.Common.{◌≡◌, ℕ, ◌+◌, ◌*◌, ◌-◌, ◌≤◌, ◌<◌, Bool, true, false, ◌&&◌, if◌then◌else◌, nat_le, nat_eq, length, get_or, List, [], ◌∷◌, Option, Some, None, refl, arith, cond}
use Rattle.std.specs.Char.{is_ascii_digit}
use Rattle.std.specs.List.{list_all}
use Rattle.std.proofs.lemmas.Bool.Decides.{nat_tests}
use Rattle.jasmin_text.specs.Numbers.{value_after, at_most}

-- the number that digits spell after n, given up as soon as it is above the most
abbrev pub scanned : ℕ → ℕ → List ℕ → Option ℕ
scanned most n [] = Some n
scanned most n (b ∷ rest) = if is_ascii_digit b then (if nat_le (10 * n + (b - 48)) most then scanned most (10 * n + (b - 48)) rest else None) else None

pub grows : (n : ℕ) (digits : List ℕ) → n ≤ value_after n digits
grows n [] = omega arith
grows n (b ∷ rest) = omega (arith, grows (10 * n + (b - 48)) rest)

abbrev pub wanted : ℕ → Bool → ℕ → Option ℕ
wanted most are_digits v = if are_digits && nat_le v most then Some v else None

above : (most v : ℕ) (d : Bool) → nat_le v most ≡ false → None ≡ wanted most d v
above most v true h = grind arith
above most v false h = refl

pub scanned-is : (most n : ℕ) (digits : List ℕ) → n ≤ most → scanned most n digits ≡ wanted most (list_all is_ascii_digit digits) (value_after n digits)
scanned-is most n [] h = let e : nat_le n most ≡ true = grind (arith, nat_tests) in rw e refl
scanned-is most n (b ∷ rest) h = by_digit (scanned-is most (10 * n + (b - 48)) rest) (is_ascii_digit b) refl
  where
    by_most : (m : ℕ) → (m ≤ most → scanned most m rest ≡ wanted most (list_all is_ascii_digit rest) (value_after m rest)) → (le : Bool) → nat_le m most ≡ le → cond le (scanned most m rest) None ≡ wanted most (list_all is_ascii_digit rest) (value_after m rest)
    by_most m next true e = let below : m ≤ most = grind (arith, nat_tests) in next below
    by_most m next false e =
        let grown : m ≤ value_after m rest = grows m rest in
        let high : nat_le (value_after m rest) most ≡ false = grind (arith, nat_tests) in
        above most (value_after m rest) (list_all is_ascii_digit rest) high

    by_digit : (10 * n + (b - 48) ≤ most → scanned most (10 * n + (b - 48)) rest ≡ wanted most (list_all is_ascii_digit rest) (value_after (10 * n + (b - 48)) rest)) → (d : Bool) → is_ascii_digit b ≡ d → scanned most n (b ∷ rest) ≡ wanted most (list_all is_ascii_digit (b ∷ rest)) (value_after n (b ∷ rest))
    by_digit next true e = rw e (by_most (10 * n + (b - 48)) next (nat_le (10 * n + (b - 48)) most) refl)
    by_digit next false e = rw e refl

-- the same from nothing on
pub at_most-is : (most : ℕ) (digits : List ℕ) → nat_eq (length digits) 0 ≡ false → scanned most 0 digits ≡ at_most most digits
at_most-is most digits h = rw h (scanned-is most 0 digits (omega arith))

-- ---- a step of the loop

pub strange-digit : (most n : ℕ) (rest : List ℕ) → 1 ≤ length rest → is_ascii_digit (get_or rest 0 0) ≡ false → scanned most n rest ≡ None
strange-digit most n [] h e = absurd (omega arith)
strange-digit most n (b ∷ rest) h e = rw e refl

pub too_much : (most n : ℕ) (rest : List ℕ) → 1 ≤ length rest → is_ascii_digit (get_or rest 0 0) ≡ true → most < 10 * n + (get_or rest 0 0 - 48) → scanned most n rest ≡ None
too_much most n [] h e high = absurd (omega arith)
too_much most n (b ∷ rest) h e high = let above_most : nat_le (10 * n + (b - 48)) most ≡ false = grind (arith, nat_tests) in rw (e, above_most) refl

pub all_read : (most n : ℕ) (rest : List ℕ) → length rest < 1 → scanned most n rest ≡ Some n
all_read most n [] h = refl
all_read most n (b ∷ rest) h = absurd (omega arith)
