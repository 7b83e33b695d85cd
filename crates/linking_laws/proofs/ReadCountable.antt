-- The classes, the fields and the methods of a text that is read are no more than its lines, and those no more than its bytes
-- and one.
use Rattle.std.proofs.Common.{◌≡◌, ℕ, zero, suc, ◌+◌, ◌-◌, ◌≤◌, Bool, true, false, List, [], ◌∷◌, ◌++◌, Option, Some, None, Result, Ok, Err, subst, arith, length-append}
use Rattle.std.specs.Prelude.{length, flat_map, ◌&&◌, ◌==◌, if◌then◌else◌}
use Rattle.vm_model.specs.declared.limits.TheConstants.{MOST_TEXT_BYTES}
use Rattle.vm_model.specs.Failures.{◌>>=◌}
use Rattle.jasmin_text.specs.declared.fault.Broken.{Broken}
use Rattle.jasmin_text.specs.declared.piece.Piece.{Piece}
use Rattle.jasmin_text.specs.declared.place.Place.{Place}
use Rattle.jasmin_text.specs.declared.token.Token.{Token}
use Rattle.jasmin_text.specs.Pieces.{is_white, piece_at}
use Rattle.jasmin_text.specs.Places.{along, next_line, first_place}
use Rattle.jasmin_text.specs.Texts.{Spoiled, with_front, with_piece, token_at, line_end, left_of_line, tokens_after, tokens_of}
use Rattle.jasmin_text.proofs.InOrder.{OfTokens}
use Rattle.jasmin_text.proofs.Within.{chosen}
use Rattle.jasmin_lines.specs.declared.fault.ReadKind.{ReadKind}
use Rattle.jasmin_lines.specs.declared.fault.ReadKind.TheVariants.{NoSuper}
use Rattle.jasmin_reader.specs.declared.fault.Refusal.{Refusal}
use Rattle.jasmin_lines.specs.declared.form.Form.{Form}
use Rattle.jasmin_lines.specs.declared.form.Form.TheVariants as form
use Rattle.jasmin_lines.specs.declared.lexeme.Lexeme.{Lexeme}
use Rattle.jasmin_reader.specs.Assembly.{PlainParts, no_parts, with_form, parts_of, classes_of}
use Rattle.jasmin_reader.specs.Grammar.{PlainState, nothing_begun, next_state, lacks_super, form_among}
use Rattle.jasmin_lines.specs.Lexemes.{PlainLine, lexeme_of, filled, lines_after}
use Rattle.jasmin_lines.specs.Plain.{PlainClassText}
use Rattle.jasmin_reader.specs.Reading.{at_line, forms_after, last_line, reading}
use Rattle.linking_laws.specs.Rules.{IsCountable}

-- ---- tokens of a text

-- at most so many tokens
abbrev AreFew : ℕ → Result (List Token) Spoiled → Type 0
AreFew n r = OfTokens (λ ts. length ts ≤ n) r

one_more : (n : ℕ) (t : Token) (r : Result (List Token) Spoiled) → AreFew n r → AreFew (suc n) (with_front (t ∷ []) r)
one_more n t (Ok ts) h = omega (arith, h)
one_more n t (Err f) h = tt

as_few : (n : ℕ) (r : Result (List Token) Spoiled) → AreFew n r → AreFew (suc n) r
as_few n (Ok ts) h = omega (arith, h)
as_few n (Err f) h = tt

-- each token takes a byte, but for the last end of a line
tokens_few : (n : ℕ) (is_open : Bool) (p : Place) (rest : List ℕ) → AreFew (suc (length rest)) (tokens_after n is_open p rest)
unfolding tokens_after
tokens_few n is_open p [] = chosen (λ (ts : List Token). length ts ≤ 1) (p.column == 1) _ _ (omega arith) (omega arith)
tokens_few (suc n) is_open p (b ∷ rest) = as_few (suc (length rest)) (tokens_after n is_open (along 1 p) rest) (tokens_few n is_open (along 1 p) rest)
tokens_few zero is_open p (b ∷ rest) =
    chosen (AreFew (suc (suc (length rest)))) (b == 10) _ _
    (one_more (suc (length rest)) (line_end p 1) (tokens_after 0 true (next_line p) rest) (tokens_few 0 true (next_line p) rest))
    (chosen (AreFew (suc (suc (length rest)))) (is_white b) _ _
    (as_few (suc (length rest)) (tokens_after 0 true (along 1 p) rest) (tokens_few 0 true (along 1 p) rest))
    (chosen (AreFew (suc (suc (length rest)))) (is_open && b == 59) _ _
    (as_few (suc (length rest)) (tokens_after (left_of_line rest) true (along 1 p) rest) (tokens_few (left_of_line rest) true (along 1 p) rest))
    (by (λ m. tokens_after (m - 1) false (along 1 p) rest) (piece_at (b ∷ rest)) (λ m. tokens_few (m - 1) false (along 1 p) rest))))
  where
    by : (behind : ℕ → Result (List Token) Spoiled) (r : Result Piece Broken) → ((m : ℕ) → AreFew (suc (length rest)) (behind m)) → AreFew (suc (suc (length rest))) (with_piece p behind r)
    by behind (Ok piece) h = one_more (suc (length rest)) (token_at p piece) (behind piece.length) (h piece.length)
    by behind (Err f) h = tt

tokens_at_most : (text : List ℕ) (tokens : List Token) → tokens_of text ≡ Ok tokens → length tokens ≤ suc (length text)
unfolding tokens_of
tokens_at_most text tokens e = subst (AreFew (suc (length text))) e (tokens_few 0 true first_place text)

-- ---- lines of tokens

filled_few : (line : ℕ) (words : List Lexeme) → length (filled line words) ≤ 1
filled_few line [] = omega arith
filled_few line (word ∷ words) = omega arith

-- each line has a token of its own
lines_few : (text : List ℕ) (words : List Lexeme) (ts : List Token) → length (lines_after text words ts) ≤ length ts
unfolding lines_after
lines_few text words [] = omega arith
lines_few text words (t ∷ ts) = by (lexeme_of text t) (λ ws. lines_few text ws ts)
  where
    by : (o : Option Lexeme) → ((ws : List Lexeme) → length (lines_after text ws ts) ≤ length ts) → length {A = PlainLine} (elim o [ Some word ↦ lines_after text (words ++ word ∷ []) ts | None ↦ filled t.line words ++ lines_after text [] ts ]) ≤ suc (length ts)
    by (Some word) h = omega (arith, h (words ++ word ∷ []))
    by None h = omega (arith, length-append (filled t.line words) (lines_after text [] ts), filled_few t.line words, h [])

-- ---- forms of lines

-- at most so many forms
abbrev FewForms : ℕ → Result (List Form) Refusal → Type 0
FewForms n (Ok fs) = length fs ≤ n
FewForms n (Err f) = Unit {0}

-- each form is that of a line
forms_few : (last : ℕ) (s : PlainState) (lines : List PlainLine) → FewForms (length lines) (forms_after last s lines)
unfolding forms_after
forms_few last s [] = by (lacks_super s)
  where
    by : (b : Bool) → FewForms 0 (if b then Err (record { kind = NoSuper; line = last }) else Ok [])
    by true = tt
    by false = omega arith
forms_few last s (line ∷ lines) = by (form_among s line lines) (λ f. forms_after last (next_state f s) lines) (λ f. forms_few last (next_state f s) lines)
  where
    more : (f : Form) (r : Result (List Form) Refusal) → FewForms (length lines) r → FewForms (suc (length lines)) (r >>= λ fs. Ok (f ∷ fs))
    more f (Ok fs) h = omega (arith, h)
    more f (Err e) h = tt

    by : (r : Result Form ReadKind) (next : Form → Result (List Form) Refusal) → ((f : Form) → FewForms (length lines) (next f)) → FewForms (suc (length lines)) (at_line line.number r >>= λ f. next f >>= λ fs. Ok (f ∷ fs))
    by (Ok f) next h = more f (next f) (h f)
    by (Err kind) next h = tt

-- ---- classes of forms

-- what is counted is at most so many
record AtMost (n classes fields methods : ℕ) : Type 0 where
  few_classes : classes ≤ n
  few_fields : fields ≤ n
  few_methods : methods ≤ n

-- what the forms so far declare, with the members of a class whose line is still to come
abbrev FewParts : ℕ → PlainParts → Type 0
FewParts n p = AtMost n (length p.classes) (length p.members.fields + length (flat_map (λ c. c.fields) p.classes)) (length p.members.methods + length (flat_map (λ c. c.methods) p.classes))

stays : (n classes fields methods : ℕ) → AtMost n classes fields methods → AtMost (suc n) classes fields methods
stays n classes fields methods few = record { few_classes = omega (arith, few.few_classes); few_fields = omega (arith, few.few_fields); few_methods = omega (arith, few.few_methods) }

-- a form declares one of them at most
form_adds : (n : ℕ) (f : Form) (p : PlainParts) → FewParts n p → FewParts (suc n) (with_form f p)
form_adds n form.Skipped p few = stays n _ _ _ few
form_adds n form.Ignored p few = stays n _ _ _ few
form_adds n form.End p few = stays n _ _ _ few
form_adds n (form.Interface line) p few = record { few_classes = omega (arith, few.few_classes); few_fields = omega (arith, few.few_fields); few_methods = omega (arith, few.few_methods) }
form_adds n (form.Class c) p few = record {
  few_classes = omega (arith, few.few_classes);
  few_fields = omega (arith, few.few_fields, length-append p.members.fields (flat_map (λ d. d.fields) p.classes));
  few_methods = omega (arith, few.few_methods, length-append p.members.methods (flat_map (λ d. d.methods) p.classes));
}
form_adds n (form.Super x) p few = stays n _ _ _ few
form_adds n (form.Implements x) p few = stays n _ _ _ few
form_adds n (form.Field f) p few = record { few_classes = omega (arith, few.few_classes); few_fields = omega (arith, few.few_fields); few_methods = omega (arith, few.few_methods) }
form_adds n (form.Method m) p few = record { few_classes = omega (arith, few.few_classes); few_fields = omega (arith, few.few_fields); few_methods = omega (arith, few.few_methods) }
form_adds n (form.StackLimit x) p few = stays n _ _ _ few
form_adds n (form.LocalsLimit x) p few = stays n _ _ _ few
form_adds n (form.Catch x) p few = stays n _ _ _ few
form_adds n (form.Label label) p few = stays n _ _ _ few
form_adds n (form.Code l) p few = stays n _ _ _ few

parts_few : (fs : List Form) → FewParts (length fs) (parts_of fs no_parts)
unfolding parts_of
parts_few [] = record { few_classes = omega arith; few_fields = omega arith; few_methods = omega arith }
parts_few (f ∷ fs) = form_adds (length fs) f (parts_of fs no_parts) (parts_few fs)

-- ---- a text

abbrev FewClasses : ℕ → List PlainClassText → Type 0
FewClasses n classes = AtMost n (length classes) (length (flat_map (λ c. c.fields) classes)) (length (flat_map (λ c. c.methods) classes))

classes_few : (n : ℕ) (fs : List Form) → length fs ≤ n → FewClasses n (classes_of fs)
classes_few n fs few = by (parts_few fs)
  where
    by : FewParts (length fs) (parts_of fs no_parts) → FewClasses n (classes_of fs)
    by h = record { few_classes = omega (arith, few, h.few_classes); few_fields = omega (arith, few, h.few_fields); few_methods = omega (arith, few, h.few_methods) }

read_few : (n : ℕ) (r : Result (List Form) Refusal) (classes : List PlainClassText) → FewForms n r → (r >>= λ fs. Ok (classes_of fs)) ≡ Ok classes → FewClasses n classes
read_few n (Err f) classes h e = absurd (refused f classes e)
  where
    refused : {A : Type 0} (x : Refusal) (y : A) → Err x ≡ Ok y → ⊥
    refused x y k = cc
read_few n (Ok fs) classes h e = subst (FewClasses n) (same_ok (classes_of fs) classes e) (classes_few n fs h)
  where
    done : List PlainClassText → Result (List PlainClassText) Refusal
    done x = Ok x

    same_ok : (x y : List PlainClassText) → done x ≡ done y → x ≡ y
    same_ok x y k = cc

-- so few classes of a text can be counted
few_countable : (n : ℕ) (classes : List PlainClassText) → n ≤ suc MOST_TEXT_BYTES → FewClasses n classes → IsCountable classes
few_countable n classes small few = record { classes = omega (arith, small, few.few_classes); fields = omega (arith, small, few.few_fields); methods = omega (arith, small, few.few_methods) }

-- the classes of a text that is read
pub read_are_countable : (text : List ℕ) (tokens : List Token) (classes : List PlainClassText) → length text ≤ MOST_TEXT_BYTES → tokens_of text ≡ Ok tokens → reading text tokens ≡ Ok classes → IsCountable classes
unfolding reading
read_are_countable text tokens classes short cut e =
    few_countable (length lines) classes (omega (arith, short, tokens_at_most text tokens cut, lines_few text [] tokens))
    (read_few (length lines) (forms_after (last_line tokens) nothing_begun lines) classes (forms_few (last_line tokens) nothing_begun lines) e)
  where
    lines : List PlainLine
    lines = lines_after text [] tokens
