-- No word of a text begins as a comment does, but right after a text between quotes.
use Rattle.std.proofs.Common.{◌≡◌, ◌≢◌, ℕ, zero, suc, ◌+◌, ◌-◌, Bool, true, false, ◌&&◌, List, [], ◌∷◌, Result, Ok, Err, length, get_or, drop, refl, arith, ap, sym, ◌∙◌, nat_eq, subst}
use Rattle.std.proofs.lemmas.Bool.Decides.{nat_tests}
use Rattle.std.proofs.lemmas.List.{drop-drop, length-take-le}
use Rattle.std.specs.List.{position_or_len}
use Rattle.jasmin_text.specs.declared.fault.Broken.{Broken}
use Rattle.jasmin_text.specs.declared.piece.Piece.{Piece}
use Rattle.jasmin_text.specs.declared.place.Place.{Place}
use Rattle.jasmin_text.specs.declared.token.Token.{Token}
use Rattle.jasmin_text.specs.declared.token.TokenKind.{TokenKind}
use Rattle.jasmin_text.specs.declared.token.TokenKind.TheVariants as token
use Rattle.jasmin_text.specs.Pieces.{is_white, word_at, kind_of_word, word_piece, string_piece, string_after, piece_at}
use Rattle.jasmin_text.specs.Places.{along, next_line, first_place}
use Rattle.jasmin_text.specs.Spans.{BeginsWhite}
use Rattle.jasmin_text.specs.Texts.{Spoiled, with_front, with_piece, token_at, line_end, left_of_line, tokens_after, tokens_of}
use Rattle.jasmin_text.proofs.InOrder.{OfTokens}
use Rattle.jasmin_text.proofs.Skipping.{left-le}
use Rattle.text_laws.proofs.Tests.{tested}

abbrev pub is_string : TokenKind → Bool
is_string (token.Str text) = true
is_string _ = false

-- a token begins no comment, where no string stands right before it
abbrev pub BeginsAnew : List ℕ → Bool → Token → Type 0
BeginsAnew text behind_text t = behind_text ≡ false → get_or (drop t.from text) 0 0 ≢ 59

abbrev pub AreSpaced : List ℕ → Bool → List Token → Type 0
AreSpaced text behind_text [] = Unit {0}
AreSpaced text behind_text (t ∷ ts) = BeginsAnew text behind_text t × AreSpaced text (is_string t.kind) ts

-- ---- white space after a word

white-first : (b : ℕ) (rest : List ℕ) → is_white b ≡ true → position_or_len is_white (b ∷ rest) ≡ 0
white-first b rest h = rw h refl

dark-first : (b : ℕ) (rest : List ℕ) → is_white b ≡ false → position_or_len is_white (b ∷ rest) ≡ suc (position_or_len is_white rest)
dark-first b rest h = let longer : position_or_len is_white (b ∷ rest) ≡ 1 + position_or_len is_white rest = rw h refl in omega (arith, longer)

white-behind : (bytes : List ℕ) → BeginsWhite (drop (position_or_len is_white bytes) bytes)
white-behind [] = tt
white-behind (b ∷ rest) = by_first (white-behind rest) (is_white b) refl
  where
    by_first : BeginsWhite (drop (position_or_len is_white rest) rest) → (w : Bool) → is_white b ≡ w → BeginsWhite (drop (position_or_len is_white (b ∷ rest)) (b ∷ rest))
    by_first h true e = subst (λ (n : ℕ). BeginsWhite (drop n (b ∷ rest))) (sym (white-first b rest e)) e
    by_first h false e = subst (λ (n : ℕ). BeginsWhite (drop n (b ∷ rest))) (sym (dark-first b rest e)) h

abbrev EndsWhite : List ℕ → Result Piece Broken → Type 0
EndsWhite rest (Ok piece) = is_string piece.kind ≡ false → BeginsWhite (drop (piece.length - 1) rest)
EndsWhite rest (Err f) = Unit {0}

string-ends : (rest : List ℕ) (r : Result (List ℕ × ℕ) Broken) → EndsWhite rest (string_piece r)
string-ends rest (Ok string) = λ e. absurd (cc)
string-ends rest (Err f) = tt

word-ends : (rest : List ℕ) (n : ℕ) (r : Result TokenKind Broken) → BeginsWhite (drop (n - 1) rest) → EndsWhite rest (word_piece n r)
word-ends rest n (Ok kind) h = λ _. h
word-ends rest n (Err f) h = tt

piece-ends : (b : ℕ) (rest : List ℕ) → is_white b ≡ false → EndsWhite rest (piece_at (b ∷ rest))
piece-ends b rest dark =
    let size : length (word_at (b ∷ rest)) - 1 ≡ position_or_len is_white rest = omega (arith, length-take-le (position_or_len is_white (b ∷ rest)) (b ∷ rest) (left-le is_white (b ∷ rest)), dark-first b rest dark) in
    tested (EndsWhite rest) (nat_eq b 34) _ _
    (λ (_ : nat_eq b 34 ≡ true). string-ends rest (string_after false 1 rest))
    (λ (_ : nat_eq b 34 ≡ false). word-ends rest (length (word_at (b ∷ rest))) (kind_of_word (word_at (b ∷ rest))) (subst (λ (n : ℕ). BeginsWhite (drop n rest)) (sym size) (white-behind rest)))

-- ---- tokens

with-token : (text : List ℕ) (behind_text : Bool) (t : Token) (r : Result (List Token) Spoiled) → BeginsAnew text behind_text t → OfTokens (AreSpaced text (is_string t.kind)) r → OfTokens (AreSpaced text behind_text) (with_front (t ∷ []) r)
with-token text behind_text t (Ok ts) here h = (here, h)
with-token text behind_text t (Err f) here h = tt

piece-spaced : (text : List ℕ) (behind_text : Bool) (rest : List ℕ) (p : Place) (behind : ℕ → Result (List Token) Spoiled) (r : Result Piece Broken) → EndsWhite rest r → (behind_text ≡ false → get_or (drop p.offset text) 0 0 ≢ 59) → ((n : ℕ) (k : TokenKind) → (is_string k ≡ false → BeginsWhite (drop (n - 1) rest)) → OfTokens (AreSpaced text (is_string k)) (behind n)) → OfTokens (AreSpaced text behind_text) (with_piece p behind r)
piece-spaced text behind_text rest p behind (Ok piece) ends here h = with-token text behind_text (token_at p piece) (behind piece.length) here (h piece.length piece.kind ends)
piece-spaced text behind_text rest p behind (Err f) ends here h = tt

-- a comment can begin after these bytes only where white space begins there, or no text stands before
abbrev IsReady : ℕ → Bool → Bool → List ℕ → Type 0
IsReady n is_open behind_text rest = behind_text ≡ false → is_open ≡ false → BeginsWhite (drop n rest)

open-ready : (n : ℕ) (behind_text : Bool) (rest : List ℕ) → IsReady n true behind_text rest
open-ready n behind_text rest = λ _ e. absurd (cc)

next : (text : List ℕ) (m b : ℕ) (rest : List ℕ) → drop m text ≡ b ∷ rest → drop (m + 1) text ≡ rest
next text m b rest e = sym (drop-drop 1 m text) ∙ ap (drop 1) e

first-byte : (text : List ℕ) (m b : ℕ) (rest : List ℕ) → drop m text ≡ b ∷ rest → b ≢ 59 → get_or (drop m text) 0 0 ≢ 59
first-byte text m b rest e h = rw e h

no-comment : (is_open : Bool) (b : ℕ) (rest : List ℕ) → is_white b ≡ false → (is_open && nat_eq b 59) ≡ false → (is_open ≡ false → BeginsWhite (b ∷ rest)) → b ≢ 59
no-comment true b rest dark closed h e = grind (arith, nat_tests)
no-comment false b rest dark closed h e = let white : is_white b ≡ true = h refl in absurd (cc)

feed-first : (b : ℕ) → nat_eq b 10 ≡ true → b ≢ 59
feed-first b h e = grind (arith, nat_tests)

spaced : (text : List ℕ) (n : ℕ) (is_open : Bool) (p : Place) (rest : List ℕ) (behind_text : Bool) → drop p.offset text ≡ rest → IsReady n is_open behind_text rest → OfTokens (AreSpaced text behind_text) (tokens_after n is_open p rest)
unfolding tokens_after
spaced text n is_open p [] behind_text e ready =
    tested (AreSpaced text behind_text) (nat_eq p.column 1) _ _
    (λ (_ : nat_eq p.column 1 ≡ true). tt)
    (λ (_ : nat_eq p.column 1 ≡ false). (λ _. rw e (λ z. omega arith), tt))
spaced text (suc n) is_open p (b ∷ rest) behind_text e ready = spaced text n is_open (along 1 p) rest behind_text (next text p.offset b rest e) ready
spaced text zero is_open p (b ∷ rest) behind_text e ready =
    let on : drop (p.offset + 1) text ≡ rest = next text p.offset b rest e in
    tested (OfTokens (AreSpaced text behind_text)) (nat_eq b 10) _ _
    (λ (feed : nat_eq b 10 ≡ true). with-token text behind_text (line_end p 1) (tokens_after 0 true (next_line p) rest) (λ _. first-byte text p.offset b rest e (feed-first b feed)) (spaced text 0 true (next_line p) rest false on (open-ready 0 false rest)))
    (λ (_ : nat_eq b 10 ≡ false). tested (OfTokens (AreSpaced text behind_text)) (is_white b) _ _
    (λ (_ : is_white b ≡ true). spaced text 0 true (along 1 p) rest behind_text on (open-ready 0 behind_text rest))
    (λ (dark : is_white b ≡ false). tested (OfTokens (AreSpaced text behind_text)) (is_open && nat_eq b 59) _ _
    (λ (_ : (is_open && nat_eq b 59) ≡ true). spaced text (left_of_line rest) true (along 1 p) rest behind_text on (open-ready (left_of_line rest) behind_text rest))
    (λ (closed : (is_open && nat_eq b 59) ≡ false). piece-spaced text behind_text rest p (λ n. tokens_after (n - 1) false (along 1 p) rest) (piece_at (b ∷ rest)) (piece-ends b rest dark)
    (λ f. first-byte text p.offset b rest e (no-comment is_open b rest dark closed (ready f)))
    (λ (m : ℕ) (k : TokenKind) (ends : is_string k ≡ false → BeginsWhite (drop (m - 1) rest)). spaced text (m - 1) false (along 1 p) rest (is_string k) on (λ f _. ends f)))))

pub tokens-spaced : (text : List ℕ) (ts : List Token) → tokens_of text ≡ Ok ts → AreSpaced text false ts
unfolding tokens_of
tokens-spaced text ts h = subst (OfTokens (AreSpaced text false)) h (spaced text 0 true first_place text false refl (open-ready 0 false text))
