-- Which tokens a text has, said of its bytes: what stands between tokens, what each token is, and where it stands.
use Rattle.std.specs.Prelude.{◌≡◌, ◌≢◌, ℕ, ◌+◌, Bool, false, true, not, ◌&&◌, ◌==◌, List, [], ◌∷◌, ◌++◌, length, take, reverse, ◌⊎◌}
use Rattle.std.specs.List.{position_or_len, list_all, list_any, filter}
use Rattle.jasmin_text.specs.declared.token.Token.{Token}
use Rattle.jasmin_text.specs.declared.token.TokenKind.TheVariants as token
use Rattle.jasmin_text.specs.Pieces.{is_white}
use Rattle.jasmin_text.specs.Spans.{Says}
use Rattle.text_laws.specs.Spelled.{BeginsNoComment}

abbrev pub is_feed : ℕ → Bool
is_feed b = b == 10

-- white space within a line
abbrev pub is_blank : ℕ → Bool
is_blank b = is_white b && not (is_feed b)

-- ---- places

-- how many lines end in these bytes
abbrev pub lines_ended : List ℕ → ℕ
lines_ended front = length (filter is_feed front)

-- how many bytes come after the last line feed
abbrev pub line_length : List ℕ → ℕ
line_length front = position_or_len is_feed (reverse front)

-- a token of these bytes stands right after those of the front
pub record StandsAfter (front bytes : List ℕ) (t : Token) : Type 0 where
  pub from : t.from ≡ length front
  pub to : t.to ≡ length front + length bytes
  pub line : t.line ≡ lines_ended front + 1
  pub column : t.column ≡ line_length front + 1

-- ---- between tokens

-- a semicolon begins a comment after these bytes: they are none, or the last of them is white space, as a line feed is
abbrev pub is_open_after : List ℕ → Bool
is_open_after front = list_all is_white (take 1 (reverse front))

-- the text's end, or a line feed
abbrev pub EndsLine : List ℕ → Type 0
EndsLine behind = list_all is_feed (take 1 behind) ≡ true

-- a semicolon, and what comes after it in its line
abbrev pub IsComment : List ℕ → List ℕ → Type 0
IsComment [] behind = ⊥
IsComment (b ∷ rest) behind = (b ≡ 59) × (list_any is_feed rest ≡ false) × EndsLine behind

-- no bytes, or a comment that may begin where it stands
abbrev pub IsCommentIfAny : List ℕ → List ℕ → List ℕ → Type 0
IsCommentIfAny front comment behind = (comment ≡ []) ⊎ ((is_open_after front ≡ true) × IsComment comment behind)

-- what stands between two tokens, after the bytes of the front: white space, and a comment at the end or none
pub record IsGap (front gap behind : List ℕ) : Type 0 where
  pub blanks : List ℕ
  pub comment : List ℕ
  pub both : gap ≡ blanks ++ comment
  pub white : list_all is_blank blanks ≡ true
  pub commented : IsCommentIfAny (front ++ blanks) comment behind

-- ---- tokens

-- After the bytes of the front comes a gap, and then this token, of bytes that say it. It doesn't begin as a comment does.
pub record IsNext (front gap bytes behind : List ℕ) (t : Token) : Type 0 where
  pub between : IsGap front gap (bytes ++ behind)
  pub some : bytes ≢ []
  pub says : Says t.kind bytes behind
  pub begins : is_open_after (front ++ gap) ≡ true → BeginsNoComment bytes
  pub stands : StandsAfter (front ++ gap) bytes t

-- The text's end ends its last line, where that has a byte and no line feed.
pub record IsLast (front rest : List ℕ) (t : Token) : Type 0 where
  pub between : IsGap front rest []
  pub unended : line_length (front ++ rest) ≢ 0
  pub kind : t.kind ≡ token.LineEnd
  pub stands : StandsAfter (front ++ rest) [] t

-- the tokens of a text's rest, after the bytes of its front
abbrev pub AreTokensAfter : List ℕ → List ℕ → List Token → Type 0
AreTokensAfter front rest [] = (rest ≡ []) × (line_length front ≡ 0)
AreTokensAfter front rest (t ∷ ts) =
    (IsLast front rest t × (ts ≡ []))
    ⊎ ((gap : List ℕ) × (bytes : List ℕ) × (behind : List ℕ) × (rest ≡ gap ++ (bytes ++ behind)) × IsNext front gap bytes behind t × AreTokensAfter (front ++ gap ++ bytes) behind ts)

-- these are the tokens of a text
abbrev pub AreTokens : List ℕ → List Token → Type 0
AreTokens text tokens = AreTokensAfter [] text tokens
