-- A token says what its bytes in the text say.
use Rattle.std.proofs.Common.{◌≡◌, ℕ, zero, suc, ◌+◌, ◌-◌, Bool, true, false, ◌&&◌, List, [], ◌∷◌, Result, Ok, Err, Option, Some, None, length, take, drop, refl, arith, ap, sym, ◌∙◌, cond, nat_eq, position, ℤ, subst}
use Rattle.std.proofs.lemmas.Bool.Decides.{nat_tests}
use Rattle.std.proofs.lemmas.List.{drop-drop, length-take-le}
use Rattle.std.specs.List.{position_or_len, list_any, AllByRecursion}
use Rattle.jasmin_text.specs.declared.fault.Broken.{Broken}
use Rattle.jasmin_text.specs.declared.fault.TextKind.TheVariants.{NotAscii}
use Rattle.jasmin_text.specs.declared.piece.Piece.{Piece}
use Rattle.jasmin_text.specs.declared.place.Place.{Place}
use Rattle.jasmin_text.specs.declared.strings.Turn.{Turn}
use Rattle.jasmin_text.specs.declared.strings.Turn.TheVariants as turn
use Rattle.jasmin_text.specs.declared.token.Token.{Token}
use Rattle.jasmin_text.specs.declared.token.TokenKind.{TokenKind}
use Rattle.jasmin_text.specs.declared.token.TokenKind.TheVariants as token
use Rattle.jasmin_text.specs.Numbers.{is_number, number_of}
use Rattle.jasmin_text.specs.Pieces.{is_white, is_high, turn_of, turned, with_byte, string_after, word_at, kind_of_word, numbered, word_piece, string_piece, piece_at}
use Rattle.jasmin_text.specs.Places.{along, next_line, first_place}
use Rattle.jasmin_text.specs.Spans.{BeginsWhite, IsWord, Says, slice_of, IsOf}
use Rattle.jasmin_text.specs.Texts.{Spoiled, with_front, with_piece, token_at, line_end, left_of_line, tokens_after, tokens_of}
use Rattle.jasmin_text.proofs.InOrder.{OfTokens}
use Rattle.jasmin_text.proofs.Skipping.{left-le}
use Rattle.jasmin_text.proofs.Within.{chosen, StringWithin, string-within}

tested : {A : Type 0} (P : A → Type 0) (c : Bool) (x y : A) → (c ≡ true → P x) → (c ≡ false → P y) → P (cond c x y)
tested P true x y px py = px refl
tested P false x y px py = py refl

is : (b n : ℕ) → nat_eq b n ≡ true → b ≡ n
is b n h = grind (arith, nat_tests)

-- ---- words

white-first : (b : ℕ) (rest : List ℕ) → is_white b ≡ true → position_or_len is_white (b ∷ rest) ≡ 0
white-first b rest h = rw h refl

dark-first : (b : ℕ) (rest : List ℕ) → is_white b ≡ false → position_or_len is_white (b ∷ rest) ≡ suc (position_or_len is_white rest)
dark-first b rest h = let longer : position_or_len is_white (b ∷ rest) ≡ 1 + position_or_len is_white rest = rw h refl in omega (arith, longer)

none-white : (bytes : List ℕ) → list_any is_white (word_at bytes) ≡ false
none-white [] = refl
none-white (b ∷ rest) = by_first (none-white rest) (is_white b) refl
  where
    by_first : list_any is_white (word_at rest) ≡ false → (w : Bool) → is_white b ≡ w → list_any is_white (word_at (b ∷ rest)) ≡ false
    by_first h true e = subst (λ (n : ℕ). list_any is_white (take n (b ∷ rest)) ≡ false) (sym (white-first b rest e)) refl
    by_first h false e = subst (λ (n : ℕ). list_any is_white (take n (b ∷ rest)) ≡ false) (sym (dark-first b rest e)) (rw e h)

white-behind : (bytes : List ℕ) → BeginsWhite (drop (position_or_len is_white bytes) bytes)
white-behind [] = tt
white-behind (b ∷ rest) = by_first (white-behind rest) (is_white b) refl
  where
    by_first : BeginsWhite (drop (position_or_len is_white rest) rest) → (w : Bool) → is_white b ≡ w → BeginsWhite (drop (position_or_len is_white (b ∷ rest)) (b ∷ rest))
    by_first h true e = subst (λ (n : ℕ). BeginsWhite (drop n (b ∷ rest))) (sym (white-first b rest e)) e
    by_first h false e = subst (λ (n : ℕ). BeginsWhite (drop n (b ∷ rest))) (sym (dark-first b rest e)) h

is-word : (b : ℕ) (rest : List ℕ) → nat_eq b 34 ≡ false → is_white b ≡ false → IsWord (word_at (b ∷ rest)) (drop (position_or_len is_white (b ∷ rest)) (b ∷ rest))
is-word b rest q dark =
    let unquoted : b ≡ 34 → ⊥ = grind (arith, nat_tests) in
    subst (λ (n : ℕ). IsWord (take n (b ∷ rest)) (drop n (b ∷ rest))) (sym (dark-first b rest dark)) (unquoted, rw dark (none-white rest), white-behind rest)

-- what a word can be
abbrev OfWord : Result TokenKind Broken → Type 0
OfWord (Ok token.LineEnd) = ⊥
OfWord (Ok (token.Str text)) = ⊥
OfWord (Ok token.Word) = Unit {0}
OfWord (Ok (token.Number n)) = Unit {0}
OfWord (Err f) = Unit {0}

of-word : (word : List ℕ) → OfWord (kind_of_word word)
of-word word = by_high (position is_high word)
  where
    by_range : (o : Option ℤ) → OfWord (numbered o)
    by_range (Some n) = tt
    by_range None = tt

    by_high : (o : Option ℕ) → OfWord (elim o [ Some n ↦ Err (record { kind = NotAscii; before = n }) | None ↦ cond (is_number word) (numbered (number_of word)) (Ok token.Word) ])
    by_high (Some n) = tt
    by_high None = chosen OfWord (is_number word) _ _ (by_range (number_of word)) tt

-- what a piece says of the bytes that it is cut from
abbrev IsPieceOf : List ℕ → Result Piece Broken → Type 0
IsPieceOf bytes (Ok piece) = Says piece.kind (take piece.length bytes) (drop piece.length bytes)
IsPieceOf bytes (Err f) = Unit {0}

word-says : (b : ℕ) (rest : List ℕ) (r : Result TokenKind Broken) → nat_eq b 34 ≡ false → is_white b ≡ false → kind_of_word (word_at (b ∷ rest)) ≡ r → OfWord r → IsPieceOf (b ∷ rest) (word_piece (position_or_len is_white (b ∷ rest)) r)
word-says b rest (Ok token.Word) q dark e o = (is-word b rest q dark, e)
word-says b rest (Ok (token.Number n)) q dark e o = (is-word b rest q dark, e)
word-says b rest (Ok (token.Str text)) q dark e o = absurd o
word-says b rest (Ok token.LineEnd) q dark e o = absurd o
word-says b rest (Err f) q dark e o = tt

word-length : (bytes : List ℕ) → position_or_len is_white bytes ≡ length (word_at bytes)
word-length bytes = sym (length-take-le (position_or_len is_white bytes) bytes (left-le is_white bytes))

-- ---- strings

-- a string is read again from its own bytes alone
abbrev IsAlone : Bool → ℕ → List ℕ → Result (List ℕ × ℕ) Broken → Type 0
IsAlone e n rest (Ok s) = string_after e n (take (s.1 - n) rest) ≡ Ok s
IsAlone e n rest (Err f) = Unit {0}

-- one more byte at the front, where k of the rest are the string's own
one-more : (e : Bool) (n b k m : ℕ) (rest : List ℕ) (r : Result (List ℕ × ℕ) Broken) → m - n ≡ suc k → turned n (string_after true (n + 1) (take k rest)) (string_after false (n + 1) (take k rest)) (turn_of e n b) ≡ r → string_after e n (take (m - n) (b ∷ rest)) ≡ r
unfolding string_after
one-more e n b k m rest r same h = subst (λ (i : ℕ). string_after e n (take i (b ∷ rest)) ≡ r) (sym same) h

escape-alone : (e : Bool) (n b : ℕ) (rest : List ℕ) (r : Result (List ℕ × ℕ) Broken) → turn_of e n b ≡ Ok turn.Backslash → StringWithin (n + 1) (length rest) r → IsAlone true (n + 1) rest r → IsAlone e n (b ∷ rest) r
escape-alone e n b rest (Ok s) h w a = one-more e n b (s.1 - (n + 1)) s.1 rest (Ok s) (omega (arith, w.0)) (rw h a)
escape-alone e n b rest (Err f) h w a = tt

byte-alone : (e : Bool) (n b c : ℕ) (rest : List ℕ) (r : Result (List ℕ × ℕ) Broken) → turn_of e n b ≡ Ok (turn.Byte c) → StringWithin (n + 1) (length rest) r → IsAlone false (n + 1) rest r → IsAlone e n (b ∷ rest) (with_byte c r)
byte-alone e n b c rest (Ok s) h w a = one-more e n b (s.1 - (n + 1)) s.1 rest (Ok (c ∷ s.0, s.1)) (omega (arith, w.0)) (rw (h, a) refl)
byte-alone e n b c rest (Err f) h w a = tt

turn-alone : (e : Bool) (n b : ℕ) (rest : List ℕ) (x y : Result (List ℕ × ℕ) Broken) (t : Result Turn Broken) → turn_of e n b ≡ t → StringWithin (n + 1) (length rest) x → StringWithin (n + 1) (length rest) y → IsAlone true (n + 1) rest x → IsAlone false (n + 1) rest y → IsAlone e n (b ∷ rest) (turned n x y t)
turn-alone e n b rest x y (Ok turn.End) h wx wy hx hy = one-more e n b 0 (n + 1) rest (Ok ([], n + 1)) (omega arith) (rw h refl)
turn-alone e n b rest x y (Ok turn.Backslash) h wx wy hx hy = escape-alone e n b rest x h wx hx
turn-alone e n b rest x y (Ok (turn.Byte c)) h wx wy hx hy = byte-alone e n b c rest y h wy hy
turn-alone e n b rest x y (Err f) h wx wy hx hy = tt

string-alone : (e : Bool) (n : ℕ) (rest : List ℕ) → IsAlone e n rest (string_after e n rest)
unfolding string_after
string-alone e n [] = tt
string-alone e n (b ∷ rest) = turn-alone e n b rest (string_after true (n + 1) rest) (string_after false (n + 1) rest) (turn_of e n b) refl (string-within true (n + 1) rest) (string-within false (n + 1) rest) (string-alone true (n + 1) rest) (string-alone false (n + 1) rest)

string-says : (b : ℕ) (rest : List ℕ) (r : Result (List ℕ × ℕ) Broken) → b ≡ 34 → StringWithin 1 (length rest) r → IsAlone false 1 rest r → IsPieceOf (b ∷ rest) (string_piece r)
string-says b rest (Ok s) q w a =
    let one : suc (s.1 - 1) ≡ s.1 = omega (arith, w.0) in
    let size : s.1 ≡ length (take (s.1 - 1) rest) + 1 = omega (arith, w.0, w.1, length-take-le (s.1 - 1) rest (omega (arith, w.1))) in
    let alone : string_after false 1 (take (s.1 - 1) rest) ≡ Ok (s.0, length (take (s.1 - 1) rest) + 1) = a ∙ ap (λ (m : ℕ). Ok (s.0, m)) size in
    subst (λ (m : ℕ). Says (token.Str s.0) (take m (b ∷ rest)) (drop m (b ∷ rest))) one (q, alone)
string-says b rest (Err f) q w a = tt

-- ---- pieces

is-piece : (b : ℕ) (rest : List ℕ) → is_white b ≡ false → IsPieceOf (b ∷ rest) (piece_at (b ∷ rest))
is-piece b rest dark =
    tested (IsPieceOf (b ∷ rest)) (nat_eq b 34) _ _
    (λ (q : nat_eq b 34 ≡ true). string-says b rest (string_after false 1 rest) (is b 34 q) (string-within false 1 rest) (string-alone false 1 rest))
    (λ (q : nat_eq b 34 ≡ false). subst (λ (n : ℕ). IsPieceOf (b ∷ rest) (word_piece n (kind_of_word (word_at (b ∷ rest))))) (word-length (b ∷ rest)) (word-says b rest (kind_of_word (word_at (b ∷ rest))) q dark refl (of-word (word_at (b ∷ rest)))))

-- the same where the bytes stand in a text
placed : (text bytes : List ℕ) (kind : TokenKind) (m n : ℕ) → drop m text ≡ bytes → Says kind (take n bytes) (drop n bytes) → Says kind (slice_of text m (m + n)) (drop (m + n) text)
placed text bytes kind m n e h =
    let size : m + n - m ≡ n = omega arith in
    let behind : drop n bytes ≡ drop (m + n) text = ap (drop n) (sym e) ∙ drop-drop n m text in
    let own : take n bytes ≡ slice_of text m (m + n) = ap (take n) (sym e) ∙ ap (λ (k : ℕ). take k (drop m text)) (sym size) in
    subst (λ (x : List ℕ). Says kind x (drop (m + n) text)) own (subst (λ (x : List ℕ). Says kind (take n bytes) x) behind h)

next : (text : List ℕ) (m b : ℕ) (rest : List ℕ) → drop m text ≡ b ∷ rest → drop (m + 1) text ≡ rest
next text m b rest e = sym (drop-drop 1 m text) ∙ ap (drop 1) e

-- ---- tokens

with-token : (P : Token → Type 0) (t : Token) (r : Result (List Token) Spoiled) → P t → OfTokens (AllByRecursion P) r → OfTokens (AllByRecursion P) (with_front (t ∷ []) r)
with-token P t (Ok ts) here h = (here, h)
with-token P t (Err f) here h = tt

piece-sliced : (text bytes : List ℕ) (p : Place) (behind : ℕ → Result (List Token) Spoiled) (r : Result Piece Broken) → drop p.offset text ≡ bytes → IsPieceOf bytes r → ((n : ℕ) → OfTokens (AllByRecursion (IsOf text)) (behind n)) → OfTokens (AllByRecursion (IsOf text)) (with_piece p behind r)
piece-sliced text bytes p behind (Ok piece) e says h = with-token (IsOf text) (token_at p piece) (behind piece.length) (placed text bytes piece.kind p.offset piece.length e says) (h piece.length)
piece-sliced text bytes p behind (Err f) e says h = tt

sliced : (text : List ℕ) (n : ℕ) (is_open : Bool) (p : Place) (rest : List ℕ) → drop p.offset text ≡ rest → OfTokens (AllByRecursion (IsOf text)) (tokens_after n is_open p rest)
unfolding tokens_after
sliced text n is_open p [] e =
    chosen (AllByRecursion (IsOf text)) (nat_eq p.column 1) _ _
    tt
    (placed text [] token.LineEnd p.offset 0 e refl, tt)
sliced text (suc n) is_open p (b ∷ rest) e = sliced text n is_open (along 1 p) rest (next text p.offset b rest e)
sliced text zero is_open p (b ∷ rest) e =
    let on : drop (p.offset + 1) text ≡ rest = next text p.offset b rest e in
    tested (OfTokens (AllByRecursion (IsOf text))) (nat_eq b 10) _ _
    (λ (feed : nat_eq b 10 ≡ true). with-token (IsOf text) (line_end p 1) (tokens_after 0 true (next_line p) rest) (placed text (b ∷ rest) token.LineEnd p.offset 1 e (is b 10 feed, refl)) (sliced text 0 true (next_line p) rest on))
    (λ (_ : nat_eq b 10 ≡ false). tested (OfTokens (AllByRecursion (IsOf text))) (is_white b) _ _
    (λ (_ : is_white b ≡ true). sliced text 0 true (along 1 p) rest on)
    (λ (dark : is_white b ≡ false). chosen (OfTokens (AllByRecursion (IsOf text))) (is_open && nat_eq b 59) _ _
    (sliced text (left_of_line rest) true (along 1 p) rest on)
    (piece-sliced text (b ∷ rest) p (λ n. tokens_after (n - 1) false (along 1 p) rest) (piece_at (b ∷ rest)) e (is-piece b rest dark)
    (λ (m : ℕ). sliced text (m - 1) false (along 1 p) rest on))))

pub slices : (text : List ℕ) (ts : List Token) → tokens_of text ≡ Ok ts → AllByRecursion (IsOf text) ts
unfolding tokens_of
slices text ts h = subst (OfTokens (AllByRecursion (IsOf text))) h (sliced text 0 true first_place text refl)
