-- The words of each line of a text.
use Rattle.std.specs.Prelude.{ℕ, ◌≤◌, List, [], ◌∷◌, ◌++◌, Option, Some, None}
use Rattle.jasmin_text.specs.declared.token.Token.{Token}
use Rattle.jasmin_text.specs.declared.token.TokenKind.{TokenKind}
use Rattle.jasmin_text.specs.declared.token.TokenKind.TheVariants as token
use Rattle.jasmin_text.specs.Spans.{slice_of}
use Rattle.jasmin_lines.specs.declared.lexeme.Lexeme.{Lexeme}
use Rattle.jasmin_lines.specs.declared.lexeme.Lexeme.TheVariants as lexeme

pub record PlainLine : Type 0 where
  pub number : ℕ
  pub words : List Lexeme

-- a token's bytes are among so many
abbrev pub IsWithin : ℕ → Token → Type 0
IsWithin size t = (t.from ≤ t.to) × (t.to ≤ size)

abbrev pub lexeme_by : TokenKind → List ℕ → Option Lexeme
lexeme_by token.Word bytes = Some (lexeme.Word bytes)
lexeme_by (token.Number n) bytes = Some (lexeme.Number n)
lexeme_by (token.Str text) bytes = Some (lexeme.Text text)
lexeme_by token.LineEnd bytes = None

-- what a token is that ends no line
abbrev pub lexeme_of : List ℕ → Token → Option Lexeme
lexeme_of text t = lexeme_by t.kind (slice_of text t.from t.to)

-- a blank line is none
abbrev pub filled : ℕ → List Lexeme → List PlainLine
filled number [] = []
filled number (word ∷ words) = record { number = number; words = word ∷ words } ∷ []

-- the lines that end among these tokens, where the first of them has these words already
unfoldable pub lines_after : List ℕ → List Lexeme → List Token → List PlainLine
lines_after text words [] = []
lines_after text words (t ∷ ts) =
    elim (lexeme_of text t) [
      | Some word ↦ lines_after text (words ++ word ∷ []) ts
      | None ↦ filled t.line words ++ lines_after text [] ts
    ]
