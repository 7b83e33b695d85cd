-- The pieces that a text is cut into: words and strings. A fault in a piece is its kind, and how many bytes of the piece
-- come before it.
use Rattle.std.specs.Prelude.{ℕ, ◌+◌, ◌-◌, Bool, true, false, ◌&&◌, ◌||◌, if◌then◌else◌, ◌==◌, nat_le, List, [], ◌∷◌, length, take, position, ℤ, Option, Some, None, Result, Ok, Err}
use Rattle.std.specs.List.{position_or_len}
use Rattle.jasmin_text.specs.declared.token.TokenKind.{TokenKind}
use Rattle.jasmin_text.specs.declared.token.TokenKind.TheVariants as token
use Rattle.jasmin_text.specs.declared.fault.TextKind.TheVariants.{NotAscii, BadEscape, OpenString, NumberRange}
use Rattle.jasmin_text.specs.declared.fault.Broken.{Broken}
use Rattle.jasmin_text.specs.declared.piece.Piece.{Piece}
use Rattle.jasmin_text.specs.declared.strings.Turn.{Turn}
use Rattle.jasmin_text.specs.declared.strings.Turn.TheVariants as turn
use Rattle.jasmin_text.specs.Numbers.{is_number, number_of}

-- white space: the space, every byte below it, and byte 127
abbrev pub is_white : ℕ → Bool
is_white b = nat_le b 32 || b == 127

-- ---- words

-- a byte outside ASCII
abbrev pub is_high : ℕ → Bool
is_high b = nat_le 128 b

-- a word that is spelled as a number is one of 32 bits
abbrev pub numbered : Option ℤ → Result TokenKind Broken
numbered (Some n) = Ok (token.Number n)
numbered None = Err (record { kind = NumberRange; before = 0 })

abbrev pub kind_of_word : List ℕ → Result TokenKind Broken
kind_of_word word =
    elim (position is_high word) [
      | Some n ↦ Err (record { kind = NotAscii; before = n })
      | None ↦ (if is_number word then numbered (number_of word) else Ok token.Word)
    ]

-- the bytes up to the first white space
abbrev pub word_at : List ℕ → List ℕ
word_at bytes = take (position_or_len is_white bytes) bytes

-- ---- strings

-- what stands for itself in a string: the tab, and the bytes from the space to `~`
abbrev pub is_plain : ℕ → Bool
is_plain b = b == 9 || (nat_le 32 b && nat_le b 126)

-- what a backslash and this byte stand for
abbrev pub escaped : ℕ → Option ℕ
escaped b =
    if b == 110 then Some 10 else
    if b == 116 then Some 9 else
    if b == 114 then Some 13 else
    if b == 34 || b == 39 || b == 92 then Some b else None

-- What the next byte of a string is, where n bytes of the string come before it: after a backslash an escape goes on.
abbrev pub after_backslash : ℕ → Option ℕ → Result Turn Broken
after_backslash n (Some e) = Ok (turn.Byte e)
after_backslash n None = Err (record { kind = BadEscape; before = n - 1 })

abbrev pub turn_of : Bool → ℕ → ℕ → Result Turn Broken
turn_of true n b = after_backslash n (escaped b)
turn_of false n b =
    if b == 34 then Ok turn.End else
    if b == 92 then Ok turn.Backslash else
    if is_plain b then Ok (turn.Byte b) else
    if b == 10 then Err (record { kind = OpenString; before = 0 }) else Err (record { kind = NotAscii; before = n })

abbrev pub with_byte : ℕ → Result (List ℕ × ℕ) Broken → Result (List ℕ × ℕ) Broken
with_byte b (Err fault) = Err fault
with_byte b (Ok string) = Ok (b ∷ string.0, string.1)

-- what a turn makes of the string's rest, read after a backslash or not
abbrev pub turned : ℕ → Result (List ℕ × ℕ) Broken → Result (List ℕ × ℕ) Broken → Result Turn Broken → Result (List ℕ × ℕ) Broken
turned n escape rest (Ok turn.End) = Ok ([], n + 1)
turned n escape rest (Ok turn.Backslash) = escape
turned n escape rest (Ok (turn.Byte b)) = with_byte b rest
turned n escape rest (Err fault) = Err fault

-- the text that a string's rest stands for, and how many bytes the string has in all, where n of them come before the rest
unfoldable pub string_after : Bool → ℕ → List ℕ → Result (List ℕ × ℕ) Broken
string_after is_escape n [] = Err (record { kind = OpenString; before = 0 })
string_after is_escape n (b ∷ rest) = turned n (string_after true (n + 1) rest) (string_after false (n + 1) rest) (turn_of is_escape n b)

-- ---- pieces

abbrev pub string_piece : Result (List ℕ × ℕ) Broken → Result Piece Broken
string_piece (Err fault) = Err fault
string_piece (Ok string) = Ok (record { kind = token.Str string.0; length = string.1 })

abbrev pub word_piece : ℕ → Result TokenKind Broken → Result Piece Broken
word_piece n (Err fault) = Err fault
word_piece n (Ok kind) = Ok (record { kind = kind; length = n })

-- the string that begins with a quote, or the word, at the front of these bytes
abbrev pub piece_at : List ℕ → Result Piece Broken
piece_at [] = word_piece 0 (kind_of_word [])
piece_at (b ∷ rest) =
    if b == 34 then string_piece (string_after false 1 rest) else word_piece (length (word_at (b ∷ rest))) (kind_of_word (word_at (b ∷ rest)))
