-- What is read between quotes can be written between quotes.
use Rattle.std.proofs.Common.{◌≡◌, ℕ, ◌+◌, Bool, true, false, ◌||◌, nat_eq, List, [], ◌∷◌, Option, Some, None, Result, Ok, Err, refl, arith, subst}
use Rattle.std.proofs.lemmas.Bool.Decides.{nat_tests}
use Rattle.jasmin_text.specs.declared.fault.Broken.{Broken}
use Rattle.jasmin_text.specs.declared.strings.Turn.{Turn}
use Rattle.jasmin_text.specs.declared.strings.Turn.TheVariants as turn
use Rattle.jasmin_text.specs.Pieces.{is_plain, escaped, after_backslash, turn_of, turned, with_byte, string_after}
use Rattle.text_laws.specs.Sizes.{is_held, is_quotable}
use Rattle.text_laws.proofs.Tests.{tested}

abbrev HeldIfSome : Option ℕ → Type 0
HeldIfSome None = Unit {0}
HeldIfSome (Some b) = is_held b ≡ true

plain-held : (b : ℕ) → is_plain b ≡ true → is_held b ≡ true
plain-held b h = grind (arith, nat_tests)

quote-held : (b : ℕ) → (nat_eq b 34 || nat_eq b 39 || nat_eq b 92) ≡ true → is_held b ≡ true
quote-held b h = grind (arith, nat_tests)

escape-held : (b : ℕ) → HeldIfSome (escaped b)
escape-held b =
    tested HeldIfSome (nat_eq b 110) _ _ (λ (_ : nat_eq b 110 ≡ true). refl)
    (λ (_ : nat_eq b 110 ≡ false). tested HeldIfSome (nat_eq b 116) _ _ (λ (_ : nat_eq b 116 ≡ true). refl)
    (λ (_ : nat_eq b 116 ≡ false). tested HeldIfSome (nat_eq b 114) _ _ (λ (_ : nat_eq b 114 ≡ true). refl)
    (λ (_ : nat_eq b 114 ≡ false). tested HeldIfSome (nat_eq b 34 || nat_eq b 39 || nat_eq b 92) _ _
    (λ (e : (nat_eq b 34 || nat_eq b 39 || nat_eq b 92) ≡ true). quote-held b e)
    (λ (_ : (nat_eq b 34 || nat_eq b 39 || nat_eq b 92) ≡ false). tt))))

abbrev HeldTurn : Result Turn Broken → Type 0
HeldTurn (Ok (turn.Byte b)) = is_held b ≡ true
HeldTurn (Ok turn.End) = Unit {0}
HeldTurn (Ok turn.Backslash) = Unit {0}
HeldTurn (Err f) = Unit {0}

turn-held : (e : Bool) (n b : ℕ) → HeldTurn (turn_of e n b)
turn-held true n b = by_escape (escaped b) (escape-held b)
  where
    by_escape : (o : Option ℕ) → HeldIfSome o → HeldTurn (after_backslash n o)
    by_escape (Some x) h = h
    by_escape None h = tt
turn-held false n b =
    tested HeldTurn (nat_eq b 34) _ _ (λ (_ : nat_eq b 34 ≡ true). tt)
    (λ (_ : nat_eq b 34 ≡ false). tested HeldTurn (nat_eq b 92) _ _ (λ (_ : nat_eq b 92 ≡ true). tt)
    (λ (_ : nat_eq b 92 ≡ false). tested HeldTurn (is_plain b) _ _ (λ (e : is_plain b ≡ true). plain-held b e)
    (λ (_ : is_plain b ≡ false). tested HeldTurn (nat_eq b 10) _ _ (λ (_ : nat_eq b 10 ≡ true). tt) (λ (_ : nat_eq b 10 ≡ false). tt))))

abbrev QuotableIfOk : Result (List ℕ × ℕ) Broken → Type 0
QuotableIfOk (Ok string) = is_quotable string.0 ≡ true
QuotableIfOk (Err f) = Unit {0}

byte-more : (b : ℕ) (r : Result (List ℕ × ℕ) Broken) → is_held b ≡ true → QuotableIfOk r → QuotableIfOk (with_byte b r)
byte-more b (Ok string) held h = rw held h
byte-more b (Err f) held h = tt

by_turn : (n : ℕ) (x y : Result (List ℕ × ℕ) Broken) (t : Result Turn Broken) → HeldTurn t → QuotableIfOk x → QuotableIfOk y → QuotableIfOk (turned n x y t)
by_turn n x y (Ok turn.End) t hx hy = refl
by_turn n x y (Ok turn.Backslash) t hx hy = hx
by_turn n x y (Ok (turn.Byte b)) t hx hy = byte-more b y t hy
by_turn n x y (Err f) t hx hy = tt

string-held : (e : Bool) (n : ℕ) (rest : List ℕ) → QuotableIfOk (string_after e n rest)
unfolding string_after
string-held e n [] = tt
string-held e n (b ∷ rest) = by_turn n (string_after true (n + 1) rest) (string_after false (n + 1) rest) (turn_of e n b) (turn-held e n b) (string-held true (n + 1) rest) (string-held false (n + 1) rest)

pub string-quotable : (rest text : List ℕ) (n : ℕ) → string_after false 1 rest ≡ Ok (text, n) → is_quotable text ≡ true
string-quotable rest text n e = subst QuotableIfOk e (string-held false 1 rest)
