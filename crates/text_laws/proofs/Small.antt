-- A word that is read as a number is one of 32 bits.
use Rattle.std.proofs.Common.{◌≡◌, ℕ, ℤ, zero, suc, ◌≤◌, true, false, ◌&&◌, nat_le, nat_eq, List, [], ◌∷◌, Option, Some, None, Result, Ok, Err, arith, cond, subst, position}
use Rattle.std.proofs.lemmas.Bool.Decides.{nat_tests}
use Rattle.jasmin_text.specs.declared.fault.Broken.{Broken}
use Rattle.jasmin_text.specs.declared.fault.TextKind.TheVariants.{NotAscii}
use Rattle.jasmin_text.specs.declared.token.TokenKind.{TokenKind}
use Rattle.jasmin_text.specs.declared.token.TokenKind.TheVariants as token
use Rattle.jasmin_text.specs.Numbers.{is_digits, value, is_number, at_most, negated, unsigned, number_of}
use Rattle.jasmin_text.specs.Pieces.{is_high, numbered, kind_of_word}
use Rattle.text_laws.specs.Sizes.{IsSmall}
use Rattle.text_laws.proofs.Tests.{tested, and-second}

abbrev AtMost : ℕ → Option ℕ → Type 0
AtMost most None = Unit {0}
AtMost most (Some n) = n ≤ most

at-most : (most : ℕ) (digits : List ℕ) → AtMost most (at_most most digits)
at-most most digits =
    tested (AtMost most) (is_digits digits && nat_le (value digits) most) _ _
    (λ (e : (is_digits digits && nat_le (value digits) most) ≡ true). below (value digits) (and-second (is_digits digits) (nat_le (value digits) most) e))
    (λ (_ : (is_digits digits && nat_le (value digits) most) ≡ false). tt)
  where
    below : (n : ℕ) → nat_le n most ≡ true → n ≤ most
    below n e = grind (arith, nat_tests)

abbrev pub SmallIfSome : Option ℤ → Type 0
SmallIfSome None = Unit {0}
SmallIfSome (Some n) = IsSmall n

small-negated : (o : Option ℕ) → AtMost 2147483648 o → SmallIfSome (negated o)
small-negated None h = tt
small-negated (Some zero) h = omega arith
small-negated (Some (suc n)) h = omega (arith, h)

small-unsigned : (o : Option ℕ) → AtMost 2147483647 o → SmallIfSome (unsigned o)
small-unsigned None h = tt
small-unsigned (Some n) h = h

small-number : (word : List ℕ) → SmallIfSome (number_of word)
small-number [] = tt
small-number (b ∷ rest) =
    tested SmallIfSome (nat_eq b 45) _ _
    (λ (_ : nat_eq b 45 ≡ true). small-negated (at_most 2147483648 rest) (at-most 2147483648 rest))
    (λ (_ : nat_eq b 45 ≡ false). small-unsigned (at_most 2147483647 (b ∷ rest)) (at-most 2147483647 (b ∷ rest)))

abbrev SmallKind : Result TokenKind Broken → Type 0
SmallKind (Ok (token.Number n)) = IsSmall n
SmallKind (Ok token.Word) = Unit {0}
SmallKind (Ok token.LineEnd) = Unit {0}
SmallKind (Ok (token.Str text)) = Unit {0}
SmallKind (Err f) = Unit {0}

small-numbered : (o : Option ℤ) → SmallIfSome o → SmallKind (numbered o)
small-numbered None h = tt
small-numbered (Some n) h = h

small-kind : (word : List ℕ) → SmallKind (kind_of_word word)
small-kind word = by_high (position is_high word)
  where
    by_high : (o : Option ℕ) → SmallKind (elim o [ Some n ↦ Err (record { kind = NotAscii; before = n }) | None ↦ cond (is_number word) (numbered (number_of word)) (Ok token.Word) ])
    by_high (Some n) = tt
    by_high None = tested SmallKind (is_number word) _ _ (λ (_ : is_number word ≡ true). small-numbered (number_of word) (small-number word)) (λ (_ : is_number word ≡ false). tt)

pub number-small : (word : List ℕ) (n : ℤ) → kind_of_word word ≡ Ok (token.Number n) → IsSmall n
number-small word n e = subst SmallKind e (small-kind word)
