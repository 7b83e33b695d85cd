-- Words that are spelled as numbers, and the numbers of 32 bits that they spell.
use Rattle.std.specs.Prelude.{ℕ, ◌+◌, ◌*◌, ◌-◌, Bool, false, not, ◌&&◌, if◌then◌else◌, ◌==◌, nat_le, List, [], ◌∷◌, length, fold, ℤ, pos, neg_ℤ, Option, Some, None}
use Rattle.std.specs.Char.{is_ascii_digit}
use Rattle.std.specs.List.{list_all}

abbrev pub is_digits : List ℕ → Bool
is_digits word = not (length word == 0) && list_all is_ascii_digit word

-- digits, or a minus sign and digits
abbrev pub is_number : List ℕ → Bool
is_number [] = false
is_number (b ∷ rest) = if b == 45 then is_digits rest else is_digits (b ∷ rest)

-- the number that decimal digits spell, after those that spell n
abbrev pub value_after : ℕ → List ℕ → ℕ
value_after n digits = fold (λ (m b : ℕ). 10 * m + (b - 48)) n digits

abbrev pub value : List ℕ → ℕ
value digits = value_after 0 digits

abbrev pub at_most : ℕ → List ℕ → Option ℕ
at_most most digits = if is_digits digits && nat_le (value digits) most then Some (value digits) else None

abbrev pub negated : Option ℕ → Option ℤ
negated None = None
negated (Some n) = Some (neg_ℤ (pos n))

abbrev pub unsigned : Option ℕ → Option ℤ
unsigned None = None
unsigned (Some n) = Some (pos n)

-- the number of 32 bits that a word spells, if it spells one
abbrev pub number_of : List ℕ → Option ℤ
number_of [] = None
number_of (b ∷ rest) = if b == 45 then negated (at_most 2147483648 rest) else unsigned (at_most 2147483647 (b ∷ rest))
