-- Lines of words as text: single spaces between the words of a line, and a line feed after each line.
use Rattle.std.specs.Prelude.{◌≡◌, ◌≢◌, ℕ, ◌+◌, false, true, List, [], ◌∷◌, ◌++◌, Ok}
use Rattle.std.specs.Fmt.{signed_decimal}
use Rattle.std.specs.List.{list_any, flat_map, AllByRecursion}
use Rattle.jasmin_text.specs.declared.token.TokenKind.TheVariants as token
use Rattle.jasmin_text.specs.Pieces.{is_white, kind_of_word}
use Rattle.jasmin_lines.specs.declared.lexeme.Lexeme.{Lexeme}
use Rattle.jasmin_lines.specs.declared.lexeme.Lexeme.TheVariants as lexeme
use Rattle.jasmin_writer.specs.Canonical.{quoted}
use Rattle.jasmin_lines.specs.Lexemes.{PlainLine}
use Rattle.text_laws.specs.Sizes.{IsSmall, is_quotable}

abbrev pub text_of : Lexeme → List ℕ
text_of (lexeme.Word word) = word
text_of (lexeme.Number n) = signed_decimal n
text_of (lexeme.Text text) = quoted text

abbrev pub spaced : Lexeme → List ℕ
spaced w = 32 ∷ text_of w

abbrev pub spelled_line : List Lexeme → List ℕ
spelled_line [] = 10 ∷ []
spelled_line (w ∷ ws) = text_of w ++ flat_map spaced ws ++ 10 ∷ []

abbrev pub spelled : List (List Lexeme) → List ℕ
spelled lines = flat_map spelled_line lines

-- ---- what can be spelled

-- begins with no quote
abbrev pub BeginsNoString : List ℕ → Type 0
BeginsNoString [] = ⊥
BeginsNoString (b ∷ rest) = b ≢ 34

-- begins no comment
abbrev pub BeginsNoComment : List ℕ → Type 0
BeginsNoComment [] = ⊥
BeginsNoComment (b ∷ rest) = b ≢ 59

-- a word of a text, wherever it stands
pub record IsPlainWord (word : List ℕ) : Type 0 where
  pub dark : list_any is_white word ≡ false
  pub kind : kind_of_word word ≡ Ok token.Word
  pub begins : BeginsNoString word

-- what is read again where white space stands before it
abbrev pub IsSpellable : Lexeme → Type 0
IsSpellable (lexeme.Word word) = IsPlainWord word × BeginsNoComment word
IsSpellable (lexeme.Number n) = IsSmall n
IsSpellable (lexeme.Text text) = is_quotable text ≡ true

-- a line has a word
abbrev pub IsSpellableLine : List Lexeme → Type 0
IsSpellableLine [] = ⊥
IsSpellableLine (w ∷ ws) = IsSpellable w × AllByRecursion IsSpellable ws

-- lines with their numbers
abbrev pub numbered : ℕ → List (List Lexeme) → List PlainLine
numbered n [] = []
numbered n (line ∷ lines) = record { number = n; words = line } ∷ numbered (n + 1) lines
