-- A word, a number or a text that is spelled is read as one piece, where white space or the end comes after it.
use Rattle.std.proofs.Common.{◌≡◌, ◌≢◌, ℕ, ◌+◌, ◌≤◌, Bool, false, List, [], ◌∷◌, ◌++◌, Some, Ok, length, get_or, take, refl, arith, cond, ap, ◌∙◌, nat_eq}
use Rattle.std.specs.Fmt.{signed_decimal}
use Rattle.std.specs.List.{position_or_len, list_any}
use Rattle.std.proofs.lemmas.Bool.Decides.{nat_tests}
use Rattle.std.proofs.Math.Seq.{take-append_seam}
use Rattle.jasmin_text.specs.declared.piece.Piece.{Piece}
use Rattle.jasmin_text.specs.declared.token.TokenKind.{TokenKind}
use Rattle.jasmin_text.specs.declared.token.TokenKind.TheVariants as token
use Rattle.jasmin_text.specs.Pieces.{is_white, word_at, kind_of_word, word_piece, string_piece, string_after, piece_at}
use Rattle.jasmin_text.specs.Spans.{BeginsWhite}
use Rattle.jasmin_lines.specs.declared.lexeme.Lexeme.{Lexeme}
use Rattle.jasmin_lines.specs.declared.lexeme.Lexeme.TheVariants as lexeme
use Rattle.jasmin_lines.specs.Lexemes.{lexeme_by}
use Rattle.text_laws.specs.Spelled.{text_of, IsSpellable, BeginsNoString, BeginsNoComment}
use Rattle.text_laws.proofs.Tests.{or-first, or-second}
use Rattle.text_laws.proofs.Numbers.{number-kind, number-dark, number-begins, BeginsNumber}
use Rattle.text_laws.proofs.Strings.{string-read}

-- ---- words

word-front : (word behind : List ℕ) → list_any is_white word ≡ false → BeginsWhite behind → position_or_len is_white (word ++ behind) ≡ length word
word-front [] [] dark white = refl
word-front [] (b ∷ rest) dark white = rw white refl
word-front (b ∷ word) behind dark white =
    let first : is_white b ≡ false = or-first (is_white b) (list_any is_white word) dark in
    let longer : position_or_len is_white (b ∷ word ++ behind) ≡ 1 + position_or_len is_white (word ++ behind) = rw first refl in
    omega (arith, longer, word-front word behind (or-second (is_white b) (list_any is_white word) dark) white)

word-again : (word behind : List ℕ) → list_any is_white word ≡ false → BeginsWhite behind → word_at (word ++ behind) ≡ word
word-again word behind dark white =
    ap (λ (n : ℕ). take n (word ++ behind)) (word-front word behind dark white) ∙ take-append_seam word behind

abbrev piece : TokenKind → ℕ → Piece
piece kind n = record { kind = kind; length = n }

not-quote : (b : ℕ) → b ≢ 34 → nat_eq b 34 ≡ false
not-quote b h = grind (arith, nat_tests)

pub word-piece : (word behind : List ℕ) (kind : TokenKind) → list_any is_white word ≡ false → kind_of_word word ≡ Ok kind → BeginsNoString word → BeginsWhite behind → piece_at (word ++ behind) ≡ Ok (piece kind (length word))
word-piece [] behind kind dark is begins white = absurd begins
word-piece (b ∷ word) behind kind dark is begins white =
    let same : word_at (b ∷ word ++ behind) ≡ b ∷ word = word-again (b ∷ word) behind dark white in
    ap (λ (q : Bool). cond q (string_piece (string_after false 1 (word ++ behind))) (word_piece (length (word_at (b ∷ word ++ behind))) (kind_of_word (word_at (b ∷ word ++ behind))))) (not-quote b begins)
    ∙ ap (λ (x : List ℕ). word_piece (length x) (kind_of_word x)) same
    ∙ ap (word_piece (length (b ∷ word))) is

-- ---- lexemes

abbrev pub kind_by : Lexeme → TokenKind
kind_by (lexeme.Word word) = token.Word
kind_by (lexeme.Number n) = token.Number n
kind_by (lexeme.Text text) = token.Str text

number-unquoted : (word : List ℕ) → BeginsNumber word → BeginsNoString word
number-unquoted [] h = h
number-unquoted (b ∷ rest) h = h.0

number-open : (word : List ℕ) → BeginsNumber word → BeginsNoComment word
number-open [] h = h
number-open (b ∷ rest) h = h.1

pub piece-read : (w : Lexeme) (behind : List ℕ) → IsSpellable w → BeginsWhite behind → piece_at (text_of w ++ behind) ≡ Ok (piece (kind_by w) (length (text_of w)))
piece-read (lexeme.Word word) behind h white = word-piece word behind token.Word h.0.dark h.0.kind h.0.begins white
piece-read (lexeme.Number n) behind h white = word-piece (signed_decimal n) behind (token.Number n) (number-dark n h) (number-kind n h) (number-unquoted (signed_decimal n) (number-begins n h)) white
piece-read (lexeme.Text text) behind h white = ap string_piece (string-read text behind h)

-- the first byte of what is spelled
pub record Begins (word : List ℕ) : Type 0 where
  pub some : 1 ≤ length word
  pub dark : is_white (get_or word 0 0) ≡ false
  pub no_comment : get_or word 0 0 ≢ 59

word-begins : (word : List ℕ) → list_any is_white word ≡ false → BeginsNoComment word → Begins word
word-begins [] dark h = absurd h
word-begins (b ∷ rest) dark h = record { some = omega arith; dark = or-first (is_white b) (list_any is_white rest) dark; no_comment = h }

pub begins : (w : Lexeme) → IsSpellable w → Begins (text_of w)
begins (lexeme.Word word) h = word-begins word h.0.dark h.1
begins (lexeme.Number n) h = word-begins (signed_decimal n) (number-dark n h) (number-open (signed_decimal n) (number-begins n h))
begins (lexeme.Text text) h = record { some = omega arith; dark = refl; no_comment = λ e. omega arith }

-- its token says the same again
pub said-again : (w : Lexeme) (bytes : List ℕ) → bytes ≡ text_of w → lexeme_by (kind_by w) bytes ≡ Some w
said-again (lexeme.Word word) bytes e = ap (λ (x : List ℕ). Some (lexeme.Word x)) e
said-again (lexeme.Number n) bytes e = refl
said-again (lexeme.Text text) bytes e = refl
