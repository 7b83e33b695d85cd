-- What the words of a text's lines are like.
use Rattle.std.specs.Prelude.{◌≡◌, Bool, true, false, List, [], ◌∷◌}
use Rattle.jasmin_lines.specs.declared.lexeme.Lexeme.{Lexeme}
use Rattle.jasmin_lines.specs.declared.lexeme.Lexeme.TheVariants as lexeme
use Rattle.text_laws.specs.Sizes.{IsSmall, is_quotable}
use Rattle.text_laws.specs.Spelled.{IsPlainWord, BeginsNoComment}

abbrev pub is_text : Lexeme → Bool
is_text (lexeme.Text text) = true
is_text _ = false

-- A word that begins as a comment does can stand only right after a text between quotes.
abbrev pub IsFound : Bool → Lexeme → Type 0
IsFound true (lexeme.Word word) = IsPlainWord word
IsFound false (lexeme.Word word) = IsPlainWord word × BeginsNoComment word
IsFound behind_text (lexeme.Number n) = IsSmall n
IsFound behind_text (lexeme.Text text) = is_quotable text ≡ true

abbrev pub AreFound : Bool → List Lexeme → Type 0
AreFound behind_text [] = Unit {0}
AreFound behind_text (w ∷ ws) = IsFound behind_text w × AreFound (is_text w) ws
