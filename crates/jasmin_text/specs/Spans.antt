-- Where tokens stand in their text, and what their bytes are.
use Rattle.std.specs.Prelude.{◌≡◌, ◌≢◌, ℕ, ◌+◌, ◌-◌, ◌≤◌, false, true, List, [], ◌∷◌, length, take, drop, Ok}
use Rattle.std.specs.List.{list_any}
use Rattle.jasmin_text.specs.declared.token.Token.{Token}
use Rattle.jasmin_text.specs.declared.token.TokenKind.{TokenKind}
use Rattle.jasmin_text.specs.declared.token.TokenKind.TheVariants as token
use Rattle.jasmin_text.specs.Pieces.{kind_of_word, is_white, string_after}

-- each token begins where the one before it ends, or after that, and none reaches beyond the end
abbrev pub AreInOrder : ℕ → ℕ → List Token → Type 0
AreInOrder from end [] = from ≤ end
AreInOrder from end (t ∷ ts) = (from ≤ t.from) × (t.from ≤ t.to) × AreInOrder t.to end ts

-- ---- what the bytes of a token are, and what comes after them in the text

-- a line feed, or no byte at the text's end
abbrev pub IsLineEnd : List ℕ → List ℕ → Type 0
IsLineEnd [] behind = behind ≡ []
IsLineEnd (b ∷ rest) behind = (b ≡ 10) × (rest ≡ [])

-- white space, or the text's end
abbrev pub BeginsWhite : List ℕ → Type 0
BeginsWhite [] = Unit {0}
BeginsWhite (b ∷ rest) = is_white b ≡ true

-- A word has a byte, begins with no quote and has no white space in it; it goes on up to white space, or to the text's end.
abbrev pub IsWord : List ℕ → List ℕ → Type 0
IsWord [] behind = ⊥
IsWord (b ∷ rest) behind = (b ≢ 34) × (list_any is_white (b ∷ rest) ≡ false) × BeginsWhite behind

-- a quote, and after it a string that the last byte closes
abbrev pub IsString : List ℕ → List ℕ → Type 0
IsString text [] = ⊥
IsString text (b ∷ rest) = (b ≡ 34) × (string_after false 1 rest ≡ Ok (text, length rest + 1))

abbrev pub Says : TokenKind → List ℕ → List ℕ → Type 0
Says token.LineEnd bytes behind = IsLineEnd bytes behind
Says token.Word bytes behind = IsWord bytes behind × (kind_of_word bytes ≡ Ok token.Word)
Says (token.Number n) bytes behind = IsWord bytes behind × (kind_of_word bytes ≡ Ok (token.Number n))
Says (token.Str text) bytes behind = IsString text bytes

-- ---- tokens in their text

-- the bytes of a text from one place up to another
abbrev pub slice_of : List ℕ → ℕ → ℕ → List ℕ
slice_of text from to = take (to - from) (drop from text)

-- a token says what its bytes in the text say
abbrev pub IsOf : List ℕ → Token → Type 0
IsOf text t = Says t.kind (slice_of text t.from t.to) (drop t.to text)
