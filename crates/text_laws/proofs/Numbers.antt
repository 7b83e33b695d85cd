-- A number is read from what is written of it.
use Rattle.std.proofs.Common.{◌≡◌, ℕ, ℤ, pos, negsuc, suc, ◌+◌, ◌*◌, ◌-◌, ◌/◌, ◌%◌, ◌≤◌, ◌<◌, true, false, not, nat_le, nat_eq, List, [], ◌∷◌, ◌++◌, Option, Some, None, Result, Ok, Err, length, refl, arith, cond, ap, ◌∙◌, decimal}
use Rattle.std.specs.Char.{is_ascii_digit}
use Rattle.std.specs.Fmt.{signed_decimal}
use Rattle.std.specs.List.{list_all, list_any}
use Rattle.std.proofs.lemmas.Bool.Decides.{nat_tests}
use Rattle.std.proofs.lemmas.Fmt.{decimal_by_steps}
use Rattle.std.proofs.lemmas.List.{length-append}
use Rattle.std.proofs.lemmas.List.Folds.{list_all-append}
use Rattle.std.proofs.lemmas.List.Sums.{fold-append}
use Rattle.jasmin_text.specs.declared.fault.Broken.{Broken}
use Rattle.jasmin_text.specs.declared.fault.TextKind.TheVariants.{NotAscii}
use Rattle.jasmin_text.specs.declared.token.TokenKind.{TokenKind}
use Rattle.jasmin_text.specs.declared.token.TokenKind.TheVariants as token
use Rattle.jasmin_text.specs.Numbers.{is_digits, is_number, value, at_most, negated, unsigned, number_of}
use Rattle.jasmin_text.specs.Pieces.{is_high, is_white, numbered, kind_of_word}
use Rattle.text_laws.specs.Sizes.{IsSmall}
use Rattle.text_laws.proofs.Tests.{and-first, none-of, no-position}

-- digits that spell this number
pub record Spell (n : ℕ) (digits : List ℕ) : Type 0 where
  pub some : 1 ≤ length digits
  pub are : list_all is_ascii_digit digits ≡ true
  pub same : value digits ≡ n

digit : (n : ℕ) → n < 10 → is_ascii_digit (48 + n) ≡ true
digit n h = grind (arith, nat_tests)

one_digit : (n : ℕ) → n < 10 → Spell n ((48 + n) ∷ [])
one_digit n h =
    let d : is_ascii_digit (48 + n) ≡ true = digit n h in
    record { some = omega arith; are = rw d refl; same = omega arith }

more_digits : (n : ℕ) (ds : List ℕ) → 10 ≤ n → Spell (n / 10) ds → Spell n (ds ++ ((48 + n % 10) ∷ []))
more_digits n ds h s =
    let small : n % 10 < 10 = omega arith in
    let d : is_ascii_digit (48 + n % 10) ≡ true = digit (n % 10) small in
    let step : value (ds ++ ((48 + n % 10) ∷ [])) ≡ 10 * value ds + ((48 + n % 10) - 48) = fold-append (λ (m b : ℕ). 10 * m + (b - 48)) 0 ds ((48 + n % 10) ∷ []) in
    record {
      some = omega (arith, length-append ds ((48 + n % 10) ∷ []), s.some);
      are = list_all-append is_ascii_digit ds ((48 + n % 10) ∷ []) ∙ rw (s.are, d) refl;
      same = omega (arith, step, s.same);
    }

pub spelled : (n : ℕ) → n ≤ 2147483648 → Spell n (decimal n)
spelled n h = decimal_by_steps Spell one_digit more_digits n (omega (arith, h))

-- ---- what digits say

not-minus : (b : ℕ) → is_ascii_digit b ≡ true → nat_eq b 45 ≡ false
not-minus b h = grind (arith, nat_tests)

not-empty : (n : ℕ) → 1 ≤ n → not (nat_eq n 0) ≡ true
not-empty n h = grind (arith, nat_tests)

are-digits : (n : ℕ) (ds : List ℕ) → Spell n ds → is_digits ds ≡ true
are-digits n ds s = rw (not-empty (length ds) s.some) s.are

most-read : (most n : ℕ) (ds : List ℕ) → Spell n ds → n ≤ most → at_most most ds ≡ Some n
most-read most n ds s h =
    let below : nat_le (value ds) most ≡ true = rw s.same (grind (arith, nat_tests)) in
    let are : is_digits ds ≡ true = are-digits n ds s in
    rw (are, below) (ap Some s.same)

digits-read : (n : ℕ) (ds : List ℕ) → Spell n ds → n ≤ 2147483647 → number_of ds ≡ Some (pos n)
digits-read n [] s h = absurd (omega (arith, s.some))
digits-read n (b ∷ rest) s h =
    rw (not-minus b (and-first (is_ascii_digit b) (list_all is_ascii_digit rest) s.are)) (ap unsigned (most-read 2147483647 n (b ∷ rest) s h))

digits-are : (n : ℕ) (ds : List ℕ) → Spell n ds → is_number ds ≡ true
digits-are n [] s = absurd (omega (arith, s.some))
digits-are n (b ∷ rest) s =
    rw (not-minus b (and-first (is_ascii_digit b) (list_all is_ascii_digit rest) s.are)) (are-digits n (b ∷ rest) s)

pub number-read : (n : ℤ) → IsSmall n → number_of (signed_decimal n) ≡ Some n
number-read (pos n) h = digits-read n (decimal n) (spelled n (omega (arith, h))) h
number-read (negsuc n) h = ap negated (most-read 2147483648 (suc n) (decimal (suc n)) (spelled (suc n) (omega (arith, h))) (omega (arith, h)))

number-is : (n : ℤ) → IsSmall n → is_number (signed_decimal n) ≡ true
number-is (pos n) h = digits-are n (decimal n) (spelled n (omega (arith, h)))
number-is (negsuc n) h = are-digits (suc n) (decimal (suc n)) (spelled (suc n) (omega (arith, h)))

-- ---- the word

digit-low : (b : ℕ) → is_ascii_digit b ≡ true → is_high b ≡ false
digit-low b h = grind (arith, nat_tests)

digit-dark : (b : ℕ) → is_ascii_digit b ≡ true → is_white b ≡ false
digit-dark b h = grind (arith, nat_tests)

pub number-low : (n : ℤ) → IsSmall n → list_any is_high (signed_decimal n) ≡ false
number-low (pos n) h = none-of is_high is_ascii_digit digit-low (decimal n) (spelled n (omega (arith, h))).are
number-low (negsuc n) h = none-of is_high is_ascii_digit digit-low (decimal (suc n)) (spelled (suc n) (omega (arith, h))).are

pub number-dark : (n : ℤ) → IsSmall n → list_any is_white (signed_decimal n) ≡ false
number-dark (pos n) h = none-of is_white is_ascii_digit digit-dark (decimal n) (spelled n (omega (arith, h))).are
number-dark (negsuc n) h = none-of is_white is_ascii_digit digit-dark (decimal (suc n)) (spelled (suc n) (omega (arith, h))).are

abbrev kind-by : List ℕ → Option ℕ → Result TokenKind Broken
kind-by word (Some n) = Err (record { kind = NotAscii; before = n })
kind-by word None = cond (is_number word) (numbered (number_of word)) (Ok token.Word)

pub kind-is : (word : List ℕ) → list_any is_high word ≡ false → kind_of_word word ≡ cond (is_number word) (numbered (number_of word)) (Ok token.Word)
kind-is word h = ap (kind-by word) (no-position is_high word h)

pub number-kind : (n : ℤ) → IsSmall n → kind_of_word (signed_decimal n) ≡ Ok (token.Number n)
number-kind n h = kind-is (signed_decimal n) (number-low n h) ∙ rw (number-is n h, number-read n h) refl

-- a number begins with a digit or a minus sign
abbrev pub BeginsNumber : List ℕ → Type 0
BeginsNumber [] = ⊥
BeginsNumber (b ∷ rest) = (b ≡ 34 → ⊥) × (b ≡ 59 → ⊥)

digits-begin : (n : ℕ) (ds : List ℕ) → Spell n ds → BeginsNumber ds
digits-begin n [] s = absurd (omega (arith, s.some))
digits-begin n (b ∷ rest) s =
    let d : is_ascii_digit b ≡ true = and-first (is_ascii_digit b) (list_all is_ascii_digit rest) s.are in
    (not_quote b d, not_semicolon b d)
  where
    not_quote : (b : ℕ) → is_ascii_digit b ≡ true → b ≡ 34 → ⊥
    not_quote b d e = grind (arith, nat_tests)

    not_semicolon : (b : ℕ) → is_ascii_digit b ≡ true → b ≡ 59 → ⊥
    not_semicolon b d e = grind (arith, nat_tests)

pub number-begins : (n : ℤ) → IsSmall n → BeginsNumber (signed_decimal n)
number-begins (pos n) h = digits-begin n (decimal n) (spelled n (omega (arith, h)))
number-begins (negsuc n) h = (λ e. omega arith, λ e. omega arith)
