-- The number that a text spells, as parsing finds it.
use Rattle.std.proofs.Common.{◌≡◌, ℕ, ◌+◌, ◌<◌, ◌≤◌, ◌^◌, Bool, true, false, ◌&&◌, List, [], ◌∷◌, length, refl, sym, ap, ◌∙◌}
use Rattle.std.specs.Prelude.{if◌then◌else◌, nat_le, nat_lt}
use Rattle.std.specs.Char.{digit_value}
use Rattle.std.specs.List.{list_all}
use Rattle.std.specs.Str.Parse.{AllDigits, IsNumeral, digits_value, without_leading_plus}
use Rattle.std.proofs.lemmas.Bool.{le-leb, leb-true, lt-ltb, ltb-true}
use Rattle.clap.specs.ValueTests.{is_numeral, is_unsigned_in}
use Rattle.clap.proofs.WalkLemmas.{both}
use Rattle.command_line.specs.Requests.{spelled}

and_true : (a b : Bool) → a ≡ true → b ≡ true → (a && b) ≡ true
and_true a b p q = ap (λ x. x && b) p ∙ q

are_digits : (ds : List ℕ) → AllDigits 10 ds → list_all (λ d. nat_lt (digit_value d) 10) ds ≡ true
are_digits [] h = refl
are_digits (d ∷ ds) h = and_true (nat_lt (digit_value d) 10) (list_all (λ d. nat_lt (digit_value d) 10) ds) (lt-ltb (digit_value d) 10 h.0) (are_digits ds h.1)

all_digits : (ds : List ℕ) → list_all (λ d. nat_lt (digit_value d) 10) ds ≡ true → AllDigits 10 ds
all_digits [] h = tt
all_digits (d ∷ ds) h =
    let parts = both (nat_lt (digit_value d) 10) (list_all (λ d. nat_lt (digit_value d) 10) ds) h in
    (ltb-true (digit_value d) 10 parts.0, all_digits ds parts.1)

numeral : (ds : List ℕ) → IsNumeral 10 ds → is_numeral ds ≡ true
numeral ds h = and_true (nat_lt 0 (length ds)) (list_all (λ d. nat_lt (digit_value d) 10) ds) (lt-ltb 0 (length ds) h.0) (are_digits ds h.1)

is_numeral_so : (ds : List ℕ) → is_numeral ds ≡ true → IsNumeral 10 ds
is_numeral_so ds h =
    let parts = both (nat_lt 0 (length ds)) (list_all (λ d. nat_lt (digit_value d) 10) ds) h in
    (ltb-true 0 (length ds) parts.0, all_digits ds parts.1)

-- a number that parsing found within the bounds
pub spelled_within : (least most n : ℕ) (text : List ℕ) → IsNumeral 10 (without_leading_plus text) → n ≡ digits_value 10 (without_leading_plus text) → digits_value 10 (without_leading_plus text) < 2 ^ 64 → least ≤ n → n ≤ most
    → n ≡ spelled least most text
spelled_within least most n text digits same fits low high =
    let v = digits_value 10 (without_leading_plus text) in
    let low' : least ≤ v = rw (← same) low in
    let high' : v ≤ most = rw (← same) high in
    let yes : is_unsigned_in least most text ≡ true =
    and_true (is_numeral (without_leading_plus text)) (nat_lt v (2 ^ 64) && (nat_le least v && nat_le v most)) (numeral (without_leading_plus text) digits)
    (and_true (nat_lt v (2 ^ 64)) (nat_le least v && nat_le v most) (lt-ltb v (2 ^ 64) fits) (and_true (nat_le least v) (nat_le v most) (le-leb least v low') (le-leb v most high'))) in
    same ∙ sym (ap (λ (b : Bool). if b then v else least) yes)

-- a text that parsing refuses
pub spelled_not : (least most : ℕ) (text : List ℕ) → (IsNumeral 10 (without_leading_plus text) × (digits_value 10 (without_leading_plus text) < 2 ^ 64) → ⊥) → least ≡ spelled least most text
spelled_not least most text none = go (is_unsigned_in least most text) refl
  where
    go : (b : Bool) → is_unsigned_in least most text ≡ b → least ≡ (if is_unsigned_in least most text then digits_value 10 (without_leading_plus text) else least)
    go true e =
        let v = digits_value 10 (without_leading_plus text) in
        let parts = both (is_numeral (without_leading_plus text)) (nat_lt v (2 ^ 64) && (nat_le least v && nat_le v most)) e in
        let fits = both (nat_lt v (2 ^ 64)) (nat_le least v && nat_le v most) parts.1 in
        absurd (none (is_numeral_so (without_leading_plus text) parts.0, ltb-true v (2 ^ 64) fits.0))
    go false e = sym (ap (λ (b : Bool). if b then digits_value 10 (without_leading_plus text) else least) e)
