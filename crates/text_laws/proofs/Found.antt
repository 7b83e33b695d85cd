-- The words of each line of a text are read so again where they are spelled.
use Rattle.std.proofs.Common.{◌≡◌, ◌≢◌, ℕ, zero, suc, ◌+◌, ◌-◌, Bool, true, false, List, [], ◌∷◌, ◌++◌, Ok, Option, Some, None, length, get_or, take, drop, refl, ap, sym, ◌∙◌, subst}
use Rattle.std.specs.List.{AllByRecursion}
use Rattle.jasmin_text.specs.declared.token.Token.{Token}
use Rattle.jasmin_text.specs.declared.token.TokenKind.{TokenKind}
use Rattle.jasmin_text.specs.declared.token.TokenKind.TheVariants as token
use Rattle.jasmin_text.specs.Pieces.{kind_of_word}
use Rattle.jasmin_text.specs.Spans.{IsWord, IsString, Says, slice_of, IsOf}
use Rattle.jasmin_text.specs.Texts.{tokens_of}
use Rattle.jasmin_text.proofs.Slices.{slices}
use Rattle.jasmin_lines.specs.declared.lexeme.Lexeme.{Lexeme}
use Rattle.jasmin_lines.specs.declared.lexeme.Lexeme.TheVariants as lexeme
use Rattle.jasmin_lines.specs.Lexemes.{PlainLine, lexeme_by, lexeme_of, filled, lines_after}
use Rattle.text_laws.specs.Sizes.{is_quotable}
use Rattle.text_laws.specs.Spelled.{IsPlainWord, BeginsNoComment}
use Rattle.text_laws.specs.OfText.{is_text, IsFound, AreFound}
use Rattle.text_laws.proofs.Small.{number-small}
use Rattle.text_laws.proofs.Quotable.{string-quotable}
use Rattle.text_laws.proofs.Spaced.{is_string, BeginsAnew, AreSpaced, tokens-spaced}
use Rattle.text_laws.proofs.Successes.{last_text, last-more}
use Rattle.text_laws.proofs.Lines.{goes_on}

-- ---- one word

plain-word : (word behind : List ℕ) → IsWord word behind → kind_of_word word ≡ Ok token.Word → IsPlainWord word
plain-word [] behind h k = absurd h
plain-word (b ∷ rest) behind h k = record { dark = h.1; kind = k; begins = h.0 }

opened : (n : ℕ) (bytes behind : List ℕ) → IsWord (take n bytes) behind → get_or bytes 0 0 ≢ 59 → BeginsNoComment (take n bytes)
opened zero bytes behind h first = absurd h
opened (suc n) [] behind h first = absurd h
opened (suc n) (b ∷ bytes) behind h first = first

string-found : (text bytes : List ℕ) → IsString text bytes → is_quotable text ≡ true
string-found text [] h = absurd h
string-found text (b ∷ rest) h = string-quotable rest text (length rest + 1) h.1

-- what a token is, if it ends no line
abbrev FoundIfSome : Bool → Option Lexeme → Type 0
FoundIfSome behind_text None = Unit {0}
FoundIfSome behind_text (Some w) = IsFound behind_text w

kind-found : (behind_text : Bool) (kind : TokenKind) (n : ℕ) (bytes behind : List ℕ) → Says kind (take n bytes) behind → (behind_text ≡ false → get_or bytes 0 0 ≢ 59) → FoundIfSome behind_text (lexeme_by kind (take n bytes))
kind-found behind_text token.LineEnd n bytes behind says first = tt
kind-found true token.Word n bytes behind says first = plain-word (take n bytes) behind says.0 says.1
kind-found false token.Word n bytes behind says first = (plain-word (take n bytes) behind says.0 says.1, opened n bytes behind says.0 (first refl))
kind-found true (token.Number m) n bytes behind says first = number-small (take n bytes) m says.1
kind-found false (token.Number m) n bytes behind says first = number-small (take n bytes) m says.1
kind-found true (token.Str text) n bytes behind says first = string-found text (take n bytes) says
kind-found false (token.Str text) n bytes behind says first = string-found text (take n bytes) says

token-found : (text : List ℕ) (behind_text : Bool) (t : Token) → IsOf text t → BeginsAnew text behind_text t → FoundIfSome behind_text (lexeme_of text t)
token-found text behind_text t says first = kind-found behind_text t.kind (t.to - t.from) (drop t.from text) (drop t.to text) says first

-- ---- the words of a line

found-more : (f : Bool) (ws : List Lexeme) (w : Lexeme) → AreFound f ws → IsFound (last_text f ws) w → AreFound f (ws ++ w ∷ [])
found-more f [] w h here = (here, tt)
found-more f (x ∷ ws) w h here = (h.0, found-more (is_text x) ws w h.1 here)

abbrev pub IsFoundLine : PlainLine → Type 0
IsFoundLine line = AreFound false line.words

filled-found : (n : ℕ) (ws : List Lexeme) (lines : List PlainLine) → AreFound false ws → AllByRecursion IsFoundLine lines → AllByRecursion IsFoundLine (filled n ws ++ lines)
filled-found n [] lines h more = more
filled-found n (w ∷ ws) lines h more = (h, more)

text-kind : (kind : TokenKind) (bytes : List ℕ) (w : Lexeme) → lexeme_by kind bytes ≡ Some w → is_string kind ≡ is_text w
text-kind token.LineEnd bytes w e = absurd (cc)
text-kind token.Word bytes w e = let same : lexeme.Word bytes ≡ w = cc in ap is_text same
text-kind (token.Number n) bytes w e = let same : lexeme.Number n ≡ w = cc in ap is_text same
text-kind (token.Str text) bytes w e = let same : lexeme.Text text ≡ w = cc in ap is_text same

end-kind : (kind : TokenKind) (bytes : List ℕ) → lexeme_by kind bytes ≡ None → is_string kind ≡ false
end-kind token.LineEnd bytes e = refl
end-kind token.Word bytes e = absurd (cc)
end-kind (token.Number n) bytes e = absurd (cc)
end-kind (token.Str text) bytes e = absurd (cc)

lines-found : (text : List ℕ) (words : List Lexeme) (ts : List Token) → AllByRecursion (IsOf text) ts → AreSpaced text (last_text false words) ts → AreFound false words → AllByRecursion IsFoundLine (lines_after text words ts)
unfolding lines_after
lines-found text words [] says spaced h = tt
lines-found text words (t ∷ ts) says spaced h =
    by_word (λ (ws : List Lexeme) (s : AreSpaced text (last_text false ws) ts) (f : AreFound false ws). lines-found text ws ts says.1 s f)
    (lexeme_of text t) refl (token-found text (last_text false words) t says.0 spaced.0)
  where
    by_word : ((ws : List Lexeme) → AreSpaced text (last_text false ws) ts → AreFound false ws → AllByRecursion IsFoundLine (lines_after text ws ts)) → (o : Option Lexeme) → lexeme_of text t ≡ o → FoundIfSome (last_text false words) o → AllByRecursion IsFoundLine (goes_on text words t ts o)
    by_word again (Some w) e found =
        again (words ++ w ∷ [])
        (subst (λ (f : Bool). AreSpaced text f ts) (text-kind t.kind (slice_of text t.from t.to) w e ∙ sym (last-more false words w)) spaced.1)
        (found-more false words w h found)
    by_word again None e found =
        filled-found t.line words (lines_after text [] ts) h
        (again [] (subst (λ (f : Bool). AreSpaced text f ts) (end-kind t.kind (slice_of text t.from t.to) e) spaced.1) tt)

pub text-found : (text : List ℕ) (ts : List Token) → tokens_of text ≡ Ok ts → AllByRecursion IsFoundLine (lines_after text [] ts)
text-found text ts h = lines-found text [] ts (slices text ts h) (tokens-spaced text ts h) tt
