-- The faults of a text's lines stand in the order of their lines.
use Rattle.std.proofs.Common.{◌≡◌, ℕ, zero, suc, ◌+◌, ◌-◌, ◌≤◌, Bool, true, false, ◌&&◌, List, [], ◌∷◌, ◌++◌, Option, Some, None, Result, Ok, Err, arith, cond, nat_eq, subst}
use Rattle.std.specs.Prelude.{Contains, fold}
use Rattle.std.specs.List.{AllByRecursion}
use Rattle.std.proofs.lemmas.List.Elements.{All-from_recursion, All-contains}
use Rattle.jasmin_text.specs.declared.fault.Broken.{Broken}
use Rattle.jasmin_text.specs.declared.piece.Piece.{Piece}
use Rattle.jasmin_text.specs.declared.place.Place.{Place}
use Rattle.jasmin_text.specs.declared.token.Token.{Token}
use Rattle.jasmin_text.specs.Pieces.{is_white, piece_at}
use Rattle.jasmin_text.specs.Places.{along, next_line, first_place}
use Rattle.jasmin_text.specs.Texts.{Spoiled, with_front, with_piece, token_at, line_end, left_of_line, tokens_after, tokens_of}
use Rattle.jasmin_text.proofs.InOrder.{OfTokens}
use Rattle.jasmin_lines.specs.declared.fault.ReadKind.{ReadKind}
use Rattle.jasmin_lines.specs.declared.fault.ReadKind.TheVariants.{NoSuper}
use Rattle.jasmin_reader.specs.declared.fault.Refusal.{Refusal}
use Rattle.jasmin_lines.specs.declared.form.Form.{Form}
use Rattle.jasmin_lines.specs.declared.lexeme.Lexeme.{Lexeme}
use Rattle.jasmin_reader.specs.Grammar.{PlainState, nothing_begun, lacks_super, form_among}
use Rattle.jasmin_lines.specs.Lexemes.{PlainLine, lexeme_of, filled, lines_after}
use Rattle.jasmin_reader.specs.Reading.{last_line, reading}
use Rattle.text_laws.specs.LineFaults.{form_alone, begun_after, fault_of, faults_behind, line_faults, IsFirst}
use Rattle.text_laws.proofs.Lines.{goes_on}
use Rattle.text_laws.proofs.NamedLine.{named-first}
use Rattle.text_laws.proofs.Tests.{tested}

-- ---- tokens

-- tokens at this line or after it, each at that of the one before it or after that
abbrev Ascend : ℕ → List Token → Type 0
Ascend n [] = Unit {0}
Ascend n (t ∷ ts) = (n ≤ t.line) × Ascend t.line ts

earlier : (m n : ℕ) (ts : List Token) → m ≤ n → Ascend n ts → Ascend m ts
earlier m n [] le h = tt
earlier m n (t ∷ ts) le h = (omega (arith, le, h.0), h.1)

with-token : (n : ℕ) (t : Token) (r : Result (List Token) Spoiled) → n ≤ t.line → OfTokens (Ascend t.line) r → OfTokens (Ascend n) (with_front (t ∷ []) r)
with-token n t (Ok ts) le h = (le, h)
with-token n t (Err f) le h = tt

later-token : (m n : ℕ) (r : Result (List Token) Spoiled) → m ≤ n → OfTokens (Ascend n) r → OfTokens (Ascend m) r
later-token m n (Ok ts) le h = earlier m n ts le h
later-token m n (Err f) le h = tt

with-some : (p : Place) (behind : ℕ → Result (List Token) Spoiled) (r : Result Piece Broken) → ((n : ℕ) → OfTokens (Ascend p.line) (behind n)) → OfTokens (Ascend p.line) (with_piece p behind r)
with-some p behind (Ok piece) h = with-token p.line (token_at p piece) (behind piece.length) (omega arith) (h piece.length)
with-some p behind (Err f) h = tt

ascend : (n : ℕ) (is_open : Bool) (p : Place) (rest : List ℕ) → OfTokens (Ascend p.line) (tokens_after n is_open p rest)
unfolding tokens_after
ascend n is_open p [] =
    tested (Ascend p.line) (nat_eq p.column 1) _ _
    (λ (_ : nat_eq p.column 1 ≡ true). tt)
    (λ (_ : nat_eq p.column 1 ≡ false). (omega arith, tt))
ascend (suc n) is_open p (b ∷ rest) = ascend n is_open (along 1 p) rest
ascend zero is_open p (b ∷ rest) =
    tested (OfTokens (Ascend p.line)) (nat_eq b 10) _ _
    (λ (_ : nat_eq b 10 ≡ true). with-token p.line (line_end p 1) (tokens_after 0 true (next_line p) rest) (omega arith) (later-token p.line (p.line + 1) (tokens_after 0 true (next_line p) rest) (omega arith) (ascend 0 true (next_line p) rest)))
    (λ (_ : nat_eq b 10 ≡ false). tested (OfTokens (Ascend p.line)) (is_white b) _ _
    (λ (_ : is_white b ≡ true). ascend 0 true (along 1 p) rest)
    (λ (_ : is_white b ≡ false). tested (OfTokens (Ascend p.line)) (is_open && nat_eq b 59) _ _
    (λ (_ : (is_open && nat_eq b 59) ≡ true). ascend (left_of_line rest) true (along 1 p) rest)
    (λ (_ : (is_open && nat_eq b 59) ≡ false). with-some p (λ n. tokens_after (n - 1) false (along 1 p) rest) (piece_at (b ∷ rest)) (λ (m : ℕ). ascend (m - 1) false (along 1 p) rest))))

pub tokens-ascend : (text : List ℕ) (ts : List Token) → tokens_of text ≡ Ok ts → Ascend 0 ts
unfolding tokens_of
tokens-ascend text ts h = earlier 0 1 ts (omega arith) (subst (OfTokens (Ascend 1)) h (ascend 0 true first_place text))

-- ---- lines

-- lines at these numbers, in this order
abbrev pub Between : ℕ → ℕ → List PlainLine → Type 0
Between n last [] = n ≤ last
Between n last (line ∷ lines) = (n ≤ line.number) × Between line.number last lines

sooner : (m n last : ℕ) (lines : List PlainLine) → m ≤ n → Between n last lines → Between m last lines
sooner m n last [] le h = omega (arith, le, h)
sooner m n last (line ∷ lines) le h = (omega (arith, le, h.0), h.1)

one-filled : (m n last : ℕ) (words : List Lexeme) (lines : List PlainLine) → m ≤ n → Between n last lines → Between m last (filled n words ++ lines)
one-filled m n last [] lines le h = sooner m n last lines le h
one-filled m n last (w ∷ ws) lines le h = (le, h)

abbrev last_of : ℕ → List Token → ℕ
last_of n tokens = fold (λ m (t : Token). t.line) n tokens

pub lines-between : (text : List ℕ) (n : ℕ) (words : List Lexeme) (ts : List Token) → Ascend n ts → Between n (last_of n ts) (lines_after text words ts)
unfolding lines_after
lines-between text n words [] h = omega arith
lines-between text n words (t ∷ ts) h = by_word (λ (ws : List Lexeme). lines-between text t.line ws ts h.1) (lexeme_of text t)
  where
    by_word : ((ws : List Lexeme) → Between t.line (last_of t.line ts) (lines_after text ws ts)) → (o : Option Lexeme) → Between n (last_of t.line ts) (goes_on text words t ts o)
    by_word again (Some w) = sooner n t.line (last_of t.line ts) (lines_after text (words ++ w ∷ []) ts) h.0 (again (words ++ w ∷ []))
    by_word again None = one-filled n t.line (last_of t.line ts) words (lines_after text [] ts) h.0 (again [])

-- ---- faults

-- faults at this line or after it
abbrev AreFrom : ℕ → List Refusal → Type 0
AreFrom n faults = AllByRecursion (λ (g : Refusal). n ≤ g.line) faults

-- each at the line of the one before it or after that
abbrev Rise : ℕ → List Refusal → Type 0
Rise n [] = Unit {0}
Rise n (g ∷ gs) = (n ≤ g.line) × Rise g.line gs

rise-from : (m n : ℕ) (gs : List Refusal) → m ≤ n → Rise n gs → AreFrom m gs
rise-from m n [] le h = tt
rise-from m n (g ∷ gs) le h = (omega (arith, le, h.0), rise-from m g.line gs (omega (arith, le, h.0)) h.1)

rise-sooner : (m n : ℕ) (gs : List Refusal) → m ≤ n → Rise n gs → Rise m gs
rise-sooner m n [] le h = tt
rise-sooner m n (g ∷ gs) le h = (omega (arith, le, h.0), h.1)

one-more : (m n : ℕ) (r : Result Form ReadKind) (gs : List Refusal) → m ≤ n → Rise n gs → Rise m (fault_of n r ++ gs)
one-more m n (Ok f) gs le h = rise-sooner m n gs le h
one-more m n (Err kind) gs le h = (le, h)

end-rises : (n last : ℕ) (c : Bool) → n ≤ last → Rise n (cond c (record { kind = NoSuper; line = last } ∷ []) [])
end-rises n last true le = (le, tt)
end-rises n last false le = tt

faults-rise : (n last : ℕ) (s : PlainState) (lines : List PlainLine) → Between n last lines → Rise n (faults_behind last s lines)
unfolding faults_behind
faults-rise n last s [] h = end-rises n last (lacks_super s) h
faults-rise n last s (line ∷ lines) h = one-more n line.number (form_among s line lines) (faults_behind last (begun_after s (form_alone line)) lines) h.0 (faults-rise line.number last (begun_after s (form_alone line)) lines h.1)

-- none of the others stands before the first
first-from : (n : ℕ) (gs : List Refusal) (f : Refusal) → Rise n gs → IsFirst gs f → AreFrom f.line gs
first-from n [] f h i = tt
first-from n (g ∷ gs) f h i = subst (λ (x : Refusal). AreFrom x.line (g ∷ gs)) i (omega arith, rise-from g.line g.line gs (omega arith) h.1)

pub none-before : (text : List ℕ) (tokens : List Token) (f g : Refusal) → tokens_of text ≡ Ok tokens → reading text tokens ≡ Err f → Contains (line_faults text tokens) g → f.line ≤ g.line
none-before text tokens f g e r there =
    let rise : Rise 0 (line_faults text tokens) = faults-rise 0 (last_line tokens) nothing_begun (lines_after text [] tokens) (lines-between text 0 [] tokens (tokens-ascend text tokens e)) in
    let from : AreFrom f.line (line_faults text tokens) = first-from 0 (line_faults text tokens) f rise ((named-first text tokens f).0 r) in
    All-contains (λ (x : Refusal). f.line ≤ x.line) (line_faults text tokens) g (All-from_recursion (λ (x : Refusal). f.line ≤ x.line) (line_faults text tokens) from) there
