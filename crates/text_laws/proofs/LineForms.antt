-- A line has the form that the rules give it.
use Rattle.std.proofs.Common.{◌≡◌, ◌≢◌, ℕ, Bool, true, false, List, [], ◌∷◌, ◌++◌, Result, Ok, Err, refl, ap, sym, ◌∙◌, subst, inl, inr}
use Rattle.std.specs.Prelude.{◌↔◌}
use Rattle.vm_model.specs.Failures.{◌>>=◌}
use Rattle.jasmin_lines.specs.declared.fault.ReadKind.{ReadKind}
use Rattle.jasmin_lines.specs.declared.fault.ReadKind.TheVariants.{BadDirective, BadMnemonic}
use Rattle.jasmin_lines.specs.declared.form.Form.{Form}
use Rattle.jasmin_lines.specs.declared.form.Form.TheVariants as form
use Rattle.jasmin_lines.specs.declared.lexeme.Lexeme.{Lexeme}
use Rattle.jasmin_lines.specs.Directives.{directive_form}
use Rattle.jasmin_lines.specs.Forms.{code, unlabelled_form, labelled_form, form_of}
use Rattle.jasmin_lines.specs.Instructions.{instruction}
use Rattle.jasmin_lines.specs.Lexemes.{PlainLine}
use Rattle.jasmin_lines.specs.Said.{PlainSaid}
use Rattle.jasmin_lines.specs.Words.{named, is_name}
use Rattle.text_laws.specs.LineFaults.{form_alone, form_if}
use Rattle.text_laws.specs.LineRules.{HasNone, AreSaidWith, SaysForm, SaysNothing}
use Rattle.text_laws.specs.WordRules.{IsDirectiveLine, IsLabelLine, IsBareLine, FollowsMnemonic, IsSpoiled, IsInstruction, HasForm, Directed, LabelAlone, LabelledCode, BareCode}
use Rattle.text_laws.proofs.AloneRules.{View, Dots, Labels, Else, view, directive-line, label-line, bare-line, named_code, labelled-so, label-alone, alone-formed}
use Rattle.text_laws.proofs.DirectiveAnswers.{directive-answers}
use Rattle.text_laws.proofs.DirectiveRules.{DirectedAt, DirectedSo, directed}
use Rattle.text_laws.proofs.InstructionRules.{InstructedSo, instructed, instruction-answers}
use Rattle.text_laws.proofs.WordSteps.{JudgedSo, AnswersSo}

-- ---- parts

is-said : {A : Type 0} (x : A) (r : Result A ReadKind) → AnswersSo x true r → r ≡ Ok x
is-said x (Ok y) h = ap Ok h
is-said x (Err kind) h = absurd h

not-both : {A : Type 0} (x : A) (kind : ReadKind) (r : Result A ReadKind) → r ≡ Ok x → r ≡ Err kind → ⊥
not-both x kind r e i = let same : Ok x ≡ Err kind = sym e ∙ i in cc

instruction-is : (said : List Lexeme) (what : PlainSaid) → instruction said ≡ Ok what → IsInstruction said what
instruction-is said what e = by_row (instructed said)
  where
    by_row : InstructedSo said (instruction said) → IsInstruction said what
    by_row (inl h) = record { word = h.0; asks = h.1; rest = h.2; begins = h.3; follows = subst (JudgedSo (FollowsMnemonic h.0 h.1 h.2)) e h.4 }
    by_row (inr h) = absurd (not-both what BadMnemonic (instruction said) e h.1)

is-instruction : (said : List Lexeme) (what : PlainSaid) → IsInstruction said what → instruction said ≡ Ok what
is-instruction said what h = is-said what (instruction said) (instruction-answers said h.word h.asks h.rest what true h.begins h.follows)

-- a name that is let through
named-is : {A : Type 0} (good : Bool) (bytes : List ℕ) (f : List ℕ → A) (x : A) → (named good bytes >>= λ name. Ok (f name)) ≡ Ok x → (good ≡ true) × (x ≡ f bytes)
named-is true bytes f x e = (refl, cc)
named-is false bytes f x e = absurd (cc)

is-named : {A : Type 0} (good : Bool) (bytes : List ℕ) (f : List ℕ → A) → good ≡ true → (named good bytes >>= λ name. Ok (f name)) ≡ Ok (f bytes)
is-named good bytes f e = rw e refl

cons-some : (x : Lexeme) (xs : List Lexeme) → x ∷ xs ≢ []
cons-some x xs e = absurd (cc)

abbrev labelled_code : ℕ → PlainSaid → List ℕ → Form
labelled_code line said name = code line (name ∷ []) said

-- ---- one line

directive-has : (line : ℕ) (words : List Lexeme) (first : List ℕ) (rest : List Lexeme) (f : Form) → IsDirectiveLine words first rest → directive_form line first rest ≡ Ok f → HasForm line words f
directive-has line words first rest f h e = by_word (directed line first rest)
  where
    by : DirectedAt line first rest f true → HasForm line words f
    by p = Directed first rest p.0 h p.2 p.1

    by_word : DirectedSo line first rest (directive_form line first rest) → HasForm line words f
    by_word (inl d) = by (subst (JudgedSo (DirectedAt line first rest)) e d.1)
    by_word (inr d) = absurd (not-both f BadDirective (directive_form line first rest) e d.1)

label-has : (line : ℕ) (words : List Lexeme) (label : List ℕ) (rest : List Lexeme) (f : Form) → IsLabelLine words label rest → labelled_form line label rest ≡ Ok f → HasForm line words f
label-has line words label [] f h e =
    let n = named-is (is_name label) label (λ name. form.Label name) f (sym (label-alone line label) ∙ e) in
    LabelAlone label h n.0 n.1
label-has line words label (w ∷ rest) f h e = by_said (instruction (w ∷ rest)) refl (sym (labelled-so line label w rest) ∙ e)
  where
    by_said : (r : Result PlainSaid ReadKind) → instruction (w ∷ rest) ≡ r → (r >>= named_code line label) ≡ Ok f → HasForm line words f
    by_said (Err k) i e' = absurd (cc)
    by_said (Ok what) i e' =
        let n = named-is (is_name label) label (labelled_code line what) f e' in
        LabelledCode label (w ∷ rest) what h (cons-some w rest) n.0 (instruction-is (w ∷ rest) what i) n.1

bare-has : (line : ℕ) (words : List Lexeme) (f : Form) → IsBareLine words → unlabelled_form line words ≡ Ok f → HasForm line words f
unfolding unlabelled_form
bare-has line words f h e = by_said (instruction words) refl e
  where
    by_said : (r : Result PlainSaid ReadKind) → instruction words ≡ r → (r >>= λ said. Ok (code line [] said)) ≡ Ok f → HasForm line words f
    by_said (Err k) i e' = absurd (cc)
    by_said (Ok what) i e' = let same : f ≡ code line [] what = cc in BareCode what h (instruction-is words what i) same

has-by : (line : ℕ) (words : List Lexeme) (f : Form) → form_of line words ≡ Ok f → View words → HasForm line words f
has-by line words f e (Dots first rest h) = directive-has line words first rest f h (sym (directive-line line words first rest h) ∙ e)
has-by line words f e (Labels label rest h) = label-has line words label rest f h (sym (label-line line words label rest h) ∙ e)
has-by line words f e (Else h) = bare-has line words f h (sym (bare-line line words h) ∙ e)

labelled-again : (line : ℕ) (label : List ℕ) (said : List Lexeme) (what : PlainSaid) → said ≢ [] → is_name label ≡ true → instruction said ≡ Ok what → labelled_form line label said ≡ Ok (code line (label ∷ []) what)
labelled-again line label [] what n good i = absurd (n refl)
labelled-again line label (w ∷ rest) what n good i =
    labelled-so line label w rest ∙ ap (λ (r : Result PlainSaid ReadKind). r >>= named_code line label) i ∙ is-named (is_name label) label (labelled_code line what) good

bare-again : (line : ℕ) (words : List Lexeme) (what : PlainSaid) → instruction words ≡ Ok what → unlabelled_form line words ≡ Ok (code line [] what)
unfolding unlabelled_form
bare-again line words what i = ap (λ (r : Result PlainSaid ReadKind). r >>= λ said. Ok (code line [] said)) i

pub has-form : (line : ℕ) (words : List Lexeme) (f : Form) → HasForm line words f → form_of line words ≡ Ok f
has-form line words f (Directed first rest says h s e) = directive-line line words first rest h ∙ is-said (says line) (directive_form line first rest) (directive-answers line first rest says true s) ∙ ap Ok (sym e)
has-form line words f (LabelAlone label h good e) = label-line line words label [] h ∙ label-alone line label ∙ is-named (is_name label) label (λ name. form.Label name) good ∙ ap Ok (sym e)
has-form line words f (LabelledCode label said what h n good i e) = label-line line words label said h ∙ labelled-again line label said what n good (is-instruction said what i) ∙ ap Ok (sym e)
has-form line words f (BareCode what h i e) = bare-line line words h ∙ bare-again line words what (is-instruction words what i) ∙ ap Ok (sym e)

pub form-related : (line : ℕ) (words : List Lexeme) (f : Form) → (form_of line words ≡ Ok f) ↔ HasForm line words f
form-related line words f = ((λ (e : form_of line words ≡ Ok f). has-by line words f e (view words)), has-form line words f)

pub one-form : (line : ℕ) (words : List Lexeme) (f g : Form) → HasForm line words f → HasForm line words g → f ≡ g
one-form line words f g h i = let same : Ok f ≡ Ok g = sym (has-form line words f h) ∙ has-form line words g i in cc

pub form-or-fault : (line : ℕ) (words : List Lexeme) → ((f : Form) × HasForm line words f) ↔ HasNone (IsSpoiled words)
form-or-fault line words = (
  (λ (h : (f : Form) × HasForm line words f). (alone-formed line words).0 (h.0, has-form line words h.0 h.1)),
  (λ (n : HasNone (IsSpoiled words)). let g = (alone-formed line words).1 n in (g.0, (form-related line words g.0).0 g.1)),
)

-- ---- what stands before the next line

pub said-form : (before : List Form) (line : PlainLine) (f : Form) → HasForm line.number line.words f → form_if (form_alone line) ++ before ≡ f ∷ before
said-form before line f h = ap (λ (r : Result Form ReadKind). form_if r ++ before) (has-form line.number line.words f h)

pub said-with : (before : List Form) (line : PlainLine) (said : List Form) (f : Form) → HasForm line.number line.words f → AreSaidWith before line said → said ≡ f ∷ before
said-with before line said f h (SaysForm g i e) = e ∙ ap (λ (x : Form). x ∷ before) (one-form line.number line.words g f i h)
said-with before line said f h (SaysNothing none e) = absurd (none f h)
