-- The tokens of a text, or its first fault.
use Rattle.std.specs.Prelude.{◌≡◌, ℕ, zero, suc, ◌+◌, ◌-◌, Bool, true, false, ◌&&◌, if◌then◌else◌, ◌==◌, List, [], ◌∷◌, ◌++◌, Result, Ok, Err}
use Rattle.std.specs.List.{position_or_len}
use Rattle.jasmin_text.specs.declared.place.Place.{Place}
use Rattle.jasmin_text.specs.declared.token.Token.{Token}
use Rattle.jasmin_text.specs.declared.token.TokenKind.TheVariants as token
use Rattle.jasmin_text.specs.declared.fault.Broken.{Broken}
use Rattle.jasmin_text.specs.declared.fault.TextKind.{TextKind}
use Rattle.jasmin_text.specs.declared.fault.TextKind.TheVariants.{NotAscii, BadEscape, OpenString, NumberRange}
use Rattle.jasmin_text.specs.declared.fault.TextFault.{TextFault}
use Rattle.jasmin_text.specs.declared.fault.TextFault.TheVariants as fault
use Rattle.jasmin_text.specs.declared.piece.Piece.{Piece}
use Rattle.jasmin_text.specs.Places.{along, next_line, first_place}
use Rattle.jasmin_text.specs.Pieces.{is_white, piece_at}

-- ---- tokens

-- a piece at a place
abbrev pub token_at : Place → Piece → Token
token_at p piece = record { kind = piece.kind; from = p.offset; to = p.offset + piece.length; line = p.line; column = p.column }

-- the end of a line: a line feed, or nothing at the end of the text
abbrev pub line_end : Place → ℕ → Token
line_end p n = record { kind = token.LineEnd; from = p.offset; to = p.offset + n; line = p.line; column = p.column }

-- the end of the text ends a line that has begun
abbrev pub end_of_text : Place → List Token
end_of_text p = if p.column == 1 then [] else line_end p 0 ∷ []

-- how many bytes come before the line's end
abbrev pub left_of_line : List ℕ → ℕ
left_of_line bytes = position_or_len (λ b. b == 10) bytes

-- a fault of a piece is one of the text
pub record Spoiled : Type 0 where
  pub kind : TextKind
  pub line : ℕ
  pub column : ℕ

abbrev pub spoiled : Place → Broken → Spoiled
spoiled p broken = record { kind = broken.kind; line = p.line; column = p.column + broken.before }

abbrev pub with_front : List Token → Result (List Token) Spoiled → Result (List Token) Spoiled
with_front front (Ok tokens) = Ok (front ++ tokens)
with_front front (Err f) = Err f

-- a piece at a place, and the tokens after it, which depend on its length
abbrev pub with_piece : Place → (ℕ → Result (List Token) Spoiled) → Result Piece Broken → Result (List Token) Spoiled
with_piece p behind (Ok piece) = with_front (token_at p piece ∷ []) (behind piece.length)
with_piece p behind (Err broken) = Err (spoiled p broken)

-- The tokens of a text's rest, which begins at a place, where its first n bytes belong to a piece or a comment that is cut
-- already. A semicolon begins a comment where the line begins or white space stands before it, which is where it is open.
unfoldable pub tokens_after : ℕ → Bool → Place → List ℕ → Result (List Token) Spoiled
tokens_after n is_open p [] = Ok (end_of_text p)
tokens_after (suc n) is_open p (b ∷ rest) = tokens_after n is_open (along 1 p) rest
tokens_after zero is_open p (b ∷ rest) =
    if b == 10 then with_front (line_end p 1 ∷ []) (tokens_after 0 true (next_line p) rest) else
    if is_white b then tokens_after 0 true (along 1 p) rest else
    if is_open && b == 59 then tokens_after (left_of_line rest) true (along 1 p) rest else
    with_piece p (λ n. tokens_after (n - 1) false (along 1 p) rest) (piece_at (b ∷ rest))

unfoldable pub tokens_of : List ℕ → Result (List Token) Spoiled
tokens_of text = tokens_after 0 true first_place text

-- ---- answers

-- what a reader answers where a text has a fault
abbrev pub Refuses : Result (List Token) Spoiled → TextFault → Type 0
Refuses read (fault.At kind line column) = read ≡ Err (record { kind = kind; line = line; column = column })
Refuses read fault.NoMemory = Unit {0}

abbrev pub kind_number : TextKind → ℕ
kind_number NotAscii = 1
kind_number BadEscape = 2
kind_number OpenString = 3
kind_number NumberRange = 4
