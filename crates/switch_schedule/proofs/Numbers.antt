-- The number of a line, digit by digit.
use Rattle.std.proofs.Common.{◌≡◌, ℕ, zero, suc, take, drop, ◌+◌, ◌*◌, ◌-◌, ◌/◌, ◌%◌, ◌≤◌, ◌<◌, Bool, true, false, ◌&&◌, nat_le, nat_eq, length, get_or, List, [], ◌∷◌, ◌++◌, Option, Some, None, refl, arith, cond, decimal, sym, ap, rules, ◌∙◌}
use Rattle.std.specs.Prelude.{fold, MatchOption}
use Rattle.std.specs.Char.{is_ascii_digit}
use Rattle.std.specs.List.{list_all}
use Rattle.std.proofs.lemmas.Bool.{eqb-false}
use Rattle.std.proofs.lemmas.Bool.Decides.{nat_tests}
use Rattle.std.proofs.lemmas.Fmt.{decimal_by_steps, decimal-digits_value, decimal_nonempty, first_decimal, decimal_digit}
use Rattle.std.proofs.lemmas.List.{length-append, length-drop, length-take-le}
use Rattle.std.proofs.lemmas.List.Folds.{list_all-append}
use Rattle.std.proofs.lemmas.List.Sums.{fold-append}
use Rattle.std.proofs.lemmas.Str.Parse.{IsNumeralModel, numerals_by_fold}
use Rattle.switch_schedule.specs.Lines.{number_from, number_in}
use Rattle.switch_schedule.specs.Texts.{has_line_feed, IsNumber}

abbrev pub value_from : ℕ → List ℕ → ℕ
value_from n digits = fold (λ (m b : ℕ). 10 * m + (b - 48)) n digits

abbrev pub are_digits : List ℕ → Bool
are_digits digits = list_all is_ascii_digit digits

-- ---- a step of the loop

pub strange_digit : (n : ℕ) (rest : List ℕ) → 1 ≤ length rest → is_ascii_digit (get_or rest 0 0) ≡ false → number_from n rest ≡ None
strange_digit n [] h e = absurd (omega arith)
strange_digit n (b ∷ rest) h e = rw e refl

pub too_much : (n : ℕ) (rest : List ℕ) → 1 ≤ length rest → is_ascii_digit (get_or rest 0 0) ≡ true → 9999999 < 10 * n + (get_or rest 0 0 - 48) → number_from n rest ≡ None
too_much n [] h e high = absurd (omega arith)
too_much n (b ∷ rest) h e high = let above_most : nat_le (10 * n + (b - 48)) 9999999 ≡ false = grind (arith, nat_tests) in rw (e, above_most) refl

pub all_read : (n : ℕ) (rest : List ℕ) → length rest < 1 → number_from n rest ≡ Some n
all_read n [] h = refl
all_read n (b ∷ rest) h = absurd (omega arith)

-- ---- what was read is digits, with their value

grows : (n : ℕ) (digits : List ℕ) → n ≤ value_from n digits
grows n [] = omega arith
grows n (b ∷ rest) = omega (arith, grows (10 * n + (b - 48)) rest)

pub record Reads (n m : ℕ) (digits : List ℕ) : Type 0 where
  pub are : are_digits digits ≡ true
  pub same : value_from n digits ≡ m
  pub short : m ≤ 9999999

tested : (c : Bool) (x : Option ℕ) (m : ℕ) → cond c x None ≡ Some m → (c ≡ true) × (x ≡ Some m)
tested true x m e = (refl, e)
tested false x m e = cc

le_of : (m most : ℕ) → nat_le m most ≡ true → m ≤ most
le_of m most e = grind (arith, nat_tests)

pub read_is : (n m : ℕ) (digits : List ℕ) → n ≤ 9999999 → number_from n digits ≡ Some m → Reads n m digits
read_is n m [] h e = let same : n ≡ m = cc in record { are = refl; same = same; short = omega (arith, same, h) }
read_is n m (b ∷ rest) h e =
    let d = tested (is_ascii_digit b) (cond (nat_le (10 * n + (b - 48)) 9999999) (number_from (10 * n + (b - 48)) rest) None) m e in
    let low = tested (nat_le (10 * n + (b - 48)) 9999999) (number_from (10 * n + (b - 48)) rest) m d.1 in
    let r = read_is (10 * n + (b - 48)) m rest (le_of (10 * n + (b - 48)) 9999999 low.0) low.1 in
    record { are = rw (d.0, r.are) refl; same = r.same; short = r.short }

-- ---- digits with a low value are read

split_and : (a b : Bool) → (a && b) ≡ true → (a ≡ true) × (b ≡ true)
split_and true b e = (refl, e)
split_and false b e = cc

pub is_read : (n : ℕ) (digits : List ℕ) → are_digits digits ≡ true → value_from n digits ≤ 9999999 → number_from n digits ≡ Some (value_from n digits)
is_read n [] are low = refl
is_read n (b ∷ rest) are low =
    let d = split_and (is_ascii_digit b) (are_digits rest) are in
    let grown : 10 * n + (b - 48) ≤ value_from (10 * n + (b - 48)) rest = grows (10 * n + (b - 48)) rest in
    let below : nat_le (10 * n + (b - 48)) 9999999 ≡ true = grind (arith, nat_tests) in
    rw (d.0, below) (is_read (10 * n + (b - 48)) rest d.1 low)

-- ---- decimal digits

pub record Spell (n : ℕ) (digits : List ℕ) : Type 0 where
  pub some : 1 ≤ length digits
  pub are : are_digits digits ≡ true
  pub same : value_from 0 digits ≡ n

digit : (n : ℕ) → n < 10 → is_ascii_digit (48 + n) ≡ true
digit n h = grind (arith, nat_tests)

one_digit : (n : ℕ) → n < 10 → Spell n ((48 + n) ∷ [])
one_digit n h = let d : is_ascii_digit (48 + n) ≡ true = digit n h in record { some = omega arith; are = rw d refl; same = omega arith }

more_digits : (n : ℕ) (ds : List ℕ) → 10 ≤ n → Spell (n / 10) ds → Spell n (ds ++ ((48 + n % 10) ∷ []))
more_digits n ds h s =
    let small : n % 10 < 10 = omega arith in
    let d : is_ascii_digit (48 + n % 10) ≡ true = digit (n % 10) small in
    let step : value_from 0 (ds ++ ((48 + n % 10) ∷ [])) ≡ 10 * value_from 0 ds + ((48 + n % 10) - 48) = fold-append (λ (m b : ℕ). 10 * m + (b - 48)) 0 ds ((48 + n % 10) ∷ []) in
    record {
      some = omega (arith, length-append ds ((48 + n % 10) ∷ []), s.some);
      are = list_all-append is_ascii_digit ds ((48 + n % 10) ∷ []) ∙ rw (s.are, d) refl;
      same = omega (arith, step, s.same);
    }

pub spelled : (n : ℕ) → n ≤ 9999999 → Spell n (decimal n)
spelled n h = decimal_by_steps Spell one_digit more_digits n (omega (arith, h))

own : IsNumeralModel (λ (ds : List ℕ). are_digits ds ≡ true) (value_from 0)
own = numerals_by_fold _ (search rules) value_from (search rules)

-- a leading zero stands alone
abbrev pub Plain : List ℕ → Type 0
Plain line = (0 < length line) × (get_or line 0 0 ≡ 48 → length line ≡ 1)

-- ---- a line is read as the number that it is

pub read_is-number : (n : ℕ) (line : List ℕ) → Plain line → number_in line ≡ Some n → IsNumber n line
read_is-number n line h e =
    let r = read_is 0 n line (omega arith) e in
    let same : decimal (value_from 0 line) ≡ line = decimal-digits_value own line r.are h.0 h.1 (omega (arith, r.short, r.same)) in
    (r.short, sym same ∙ ap decimal r.same)

pub number-is_read : (n : ℕ) (line : List ℕ) → IsNumber n line → number_in line ≡ Some n
number-is_read n line h =
    let s = spelled n h.0 in
    ap number_in h.1 ∙ is_read 0 (decimal n) s.are (omega (arith, s.same, h.0)) ∙ ap Some s.same

zero_only : (n : ℕ) → n ≤ 9999999 → get_or (decimal n) 0 0 ≡ 48 → n ≡ 0
zero_only zero h e = refl
zero_only (suc n) h e = absurd (omega (arith, first_decimal (suc n) (omega arith) (omega (arith, h)), e))

pub number-plain : (n : ℕ) (line : List ℕ) → IsNumber n line → Plain line
number-plain n line h = (
  rw h.1 (decimal_nonempty n (omega (arith, h.0))),
  λ e. let none : n ≡ 0 = zero_only n h.0 (ap (λ (l : List ℕ). get_or l 0 0) (sym h.1) ∙ e) in
      ap length (h.1 ∙ ap decimal none ∙ decimal_digit 0 (omega arith)),
)

-- ---- digits have no line feed

digit-no_feed : (b : ℕ) → is_ascii_digit b ≡ true → nat_eq b 10 ≡ false
digit-no_feed b h = grind (arith, nat_tests)

digits-no_feed : (ds : List ℕ) → are_digits ds ≡ true → has_line_feed ds ≡ false
digits-no_feed [] h = refl
digits-no_feed (b ∷ ds) h = let d = split_and (is_ascii_digit b) (are_digits ds) h in rw (digit-no_feed b d.0) (digits-no_feed ds d.1)

pub decimal-no_feed : (n : ℕ) → n ≤ 9999999 → has_line_feed (decimal n) ≡ false
decimal-no_feed n h = digits-no_feed (decimal n) (spelled n h).are

pub number_matches : (line : List ℕ) (o : Option ℕ) → Plain line → o ≡ number_in line → MatchOption o ((n : ℕ) → ¬ IsNumber n line) (λ n. IsNumber n line)
number_matches line None plain e = λ n h. let clash : Some n ≡ None = sym (number-is_read n line h) ∙ sym e in cc
number_matches line (Some n) plain e = read_is-number n line plain (sym e)

-- ---- what stands after the first digit

after_first : (line : List ℕ) → 1 ≤ length line → length (take (length line - 1) (drop 1 line)) + 1 ≡ length line
after_first line h = omega (arith, length-take-le (length line - 1) (drop 1 line) (omega (arith, length-drop 1 line)), h)

is_zero : (n : ℕ) → nat_eq n 0 ≡ true → n ≡ 0
is_zero n e = grind (arith, nat_tests)

pub alone : (line : List ℕ) (e : Bool) → 1 ≤ length line → e ≡ nat_eq (length (take (length line - 1) (drop 1 line))) 0 → e ≡ true → length line ≡ 1
alone line e h is on = let none : length (take (length line - 1) (drop 1 line)) ≡ 0 = is_zero (length (take (length line - 1) (drop 1 line))) (sym is ∙ on) in omega (arith, after_first line h, none)

pub not_alone : (line : List ℕ) (e : Bool) → 1 ≤ length line → e ≡ nat_eq (length (take (length line - 1) (drop 1 line))) 0 → e ≡ false → length line ≡ 1 → ⊥
not_alone line e h is off one =
    let some : (length (take (length line - 1) (drop 1 line)) ≡ 0) → ⊥ = eqb-false (length (take (length line - 1) (drop 1 line))) 0 (sym is ∙ off) in
    some (omega (arith, after_first line h, one))
