-- Reading names the first line that has a fault, and the least that it has.
use Rattle.std.proofs.Common.{◌≡◌, ℕ, Bool, true, false, List, [], ◌∷◌, ◌++◌, Result, Ok, Err, refl, ap, sym, ◌∙◌, subst, cond, inl, inr}
use Rattle.std.specs.Prelude.{◌↔◌}
use Rattle.jasmin_text.specs.declared.token.Token.{Token}
use Rattle.jasmin_lines.specs.declared.fault.ReadKind.{ReadKind}
use Rattle.jasmin_lines.specs.declared.fault.ReadKind.TheVariants.{NoSuper}
use Rattle.jasmin_reader.specs.declared.fault.Refusal.{Refusal}
use Rattle.jasmin_lines.specs.declared.form.Form.{Form}
use Rattle.jasmin_reader.specs.Assembly.{classes_of}
use Rattle.jasmin_reader.specs.Grammar.{PlainState, lacks_super, form_among}
use Rattle.jasmin_lines.specs.Lexemes.{PlainLine, lines_after}
use Rattle.jasmin_lines.specs.Plain.{PlainClassText}
use Rattle.jasmin_reader.specs.Reading.{last_line, reading}
use Rattle.text_laws.specs.LineFaults.{form_alone, form_if, forms_alone, begun_after, fault_of, faults_behind, line_faults, IsFirst}
use Rattle.text_laws.specs.LineRules.{HasFault, IsLeast, HasNone, IsFirstFault, IsLastLine, IsFaultOfText, state_after}
use Rattle.text_laws.specs.WordRules.{HasForm}
use Rattle.text_laws.proofs.LineForms.{form-related, said-form}
use Rattle.text_laws.proofs.LineRules.{err-least, ok-none, least-err, none-ok}
use Rattle.text_laws.proofs.Standing.{to-come, lacking}
use Rattle.text_laws.proofs.NamedLine.{among-alone, faults-line, named-first, read-none}

-- ---- the faults in their order, and the first one

abbrev refusal : ReadKind → ℕ → Refusal
refusal kind n = record { kind = kind; line = n }

same-refusal : (a b : ReadKind) (c d : ℕ) → a ≡ b → c ≡ d → refusal a c ≡ refusal b d
same-refusal a b c d x y = rw (x, y) refl

at-line : (kind : ReadKind) (n : ℕ) (f : Refusal) → kind ≡ f.kind → f.line ≡ n → refusal kind n ≡ f
at-line kind n f k l = same-refusal kind f.kind n f.line k (sym l)

end-first : (last : ℕ) (before : List Form) (f : Refusal) → IsFirst (faults_behind last (state_after before) []) f → IsFirstFault last before [] f
unfolding faults_behind
end-first last before f h = by_super (lacks_super (state_after before)) refl h
  where
    by_super : (c : Bool) → lacks_super (state_after before) ≡ c → IsFirst (cond c (record { kind = NoSuper; line = last } ∷ []) []) f → IsFirstFault last before [] f
    by_super true e i = (to-come before e, sym i)
    by_super false e i = absurd i

end-named : (last : ℕ) (before : List Form) (f : Refusal) → IsFirstFault last before [] f → IsFirst (faults_behind last (state_after before) []) f
unfolding faults_behind
end-named last before f h = subst (λ (c : Bool). IsFirst (cond c (record { kind = NoSuper; line = last } ∷ []) []) f) (sym (lacking before h.0)) (sym h.1)

-- what stands before the next line
abbrev later : List Form → PlainLine → List Form
later before line = form_if (form_alone line) ++ before

state-later : (before : List Form) (r : Result Form ReadKind) → begun_after (state_after before) r ≡ state_after (form_if r ++ before)
state-later before (Ok f) = refl
state-later before (Err kind) = refl

abbrev next_faults : ℕ → List Form → PlainLine → List PlainLine → Result Form ReadKind → List Refusal
next_faults last before line lines r = fault_of line.number r ++ faults_behind last (state_after (later before line)) lines

next-line : (last : ℕ) (before : List Form) (line : PlainLine) (lines : List PlainLine) → faults_behind last (state_after before) (line ∷ lines) ≡ next_faults last before line lines (form_among (state_after before) line lines)
next-line last before line lines =
    faults-line last (state_after before) line lines
    ∙ ap (λ (s : PlainState). fault_of line.number (form_among (state_after before) line lines) ++ faults_behind last s lines) (state-later before (form_alone line))

first-fault : (last : ℕ) (before : List Form) (lines : List PlainLine) (f : Refusal) → IsFirst (faults_behind last (state_after before) lines) f → IsFirstFault last before lines f
first-fault last before [] f h = end-first last before f h
first-fault last before (line ∷ lines) f h =
    by_form (first-fault last (later before line) lines f) (form_among (state_after before) line lines) refl (subst (λ (xs : List Refusal). IsFirst xs f) (next-line last before line lines) h)
  where
    by_form : (IsFirst (faults_behind last (state_after (later before line)) lines) f → IsFirstFault last (later before line) lines f) → (r : Result Form ReadKind) → form_among (state_after before) line lines ≡ r → IsFirst (next_faults last before line lines r) f → IsFirstFault last before (line ∷ lines) f
    by_form again (Ok x) e i =
        let has : HasForm line.number line.words x = (form-related line.number line.words x).0 (among-alone (state_after before) line lines x e) in
        inr (ok-none before line lines x e, x, has, subst (λ (fs : List Form). IsFirstFault last fs lines f) (said-form before line x has) (again i))
    by_form again (Err kind) e i = inl (subst (IsLeast (HasFault before line lines)) (ap (λ (g : Refusal). g.kind) i) (err-least before line lines kind e), ap (λ (g : Refusal). g.line) (sym i))

fault-first : (last : ℕ) (before : List Form) (lines : List PlainLine) (f : Refusal) → IsFirstFault last before lines f → IsFirst (faults_behind last (state_after before) lines) f
fault-first last before [] f h = end-named last before f h
fault-first last before (line ∷ lines) f (inl h) =
    subst (λ (xs : List Refusal). IsFirst xs f) (sym (next-line last before line lines))
    (subst (λ (r : Result Form ReadKind). IsFirst (next_faults last before line lines r) f) (sym (least-err before line lines f.kind h.0))
    (at-line f.kind line.number f refl h.1))
fault-first last before (line ∷ lines) f (inr h) =
    let good = none-ok before line lines h.0 in
    subst (λ (xs : List Refusal). IsFirst xs f) (sym (next-line last before line lines))
    (subst (λ (r : Result Form ReadKind). IsFirst (next_faults last before line lines r) f) (sym good.1)
    (subst (λ (fs : List Form). IsFirst (faults_behind last (state_after fs) lines) f) (sym (said-form before line h.1 h.2)) (fault-first last (h.1 ∷ before) lines f h.3)))

-- ---- the last line

pub last-so : (tokens : List Token) → IsLastLine tokens (last_line tokens)
last-so [] = refl
last-so (t ∷ []) = refl
last-so (t ∷ u ∷ ts) = last-so (u ∷ ts)

pub last-is : (tokens : List Token) (n : ℕ) → IsLastLine tokens n → n ≡ last_line tokens
last-is [] n h = h
last-is (t ∷ []) n h = h
last-is (t ∷ u ∷ ts) n h = last-is (u ∷ ts) n h

pub of-text : (text : List ℕ) (tokens : List Token) (f : Refusal) → IsFaultOfText text tokens f → IsFirstFault (last_line tokens) [] (lines_after text [] tokens) f
of-text text tokens f h = subst (λ (n : ℕ). IsFirstFault n [] (lines_after text [] tokens) f) (last-is tokens h.0 h.1) h.2

-- ---- the law

pub refused-first : (text : List ℕ) (tokens : List Token) (f : Refusal) → (reading text tokens ≡ Err f) ↔ IsFaultOfText text tokens f
refused-first text tokens f = (
  (λ (e : reading text tokens ≡ Err f). (last_line tokens, last-so tokens, first-fault (last_line tokens) [] (lines_after text [] tokens) f ((named-first text tokens f).0 e))),
  (λ (h : IsFaultOfText text tokens f). (named-first text tokens f).1 (fault-first (last_line tokens) [] (lines_after text [] tokens) f (of-text text tokens f h))),
)

none-listed : (faults : List Refusal) → ((f : Refusal) → IsFirst faults f → ⊥) → faults ≡ []
none-listed [] h = refl
none-listed (f ∷ faults) h = absurd (h f refl)

none-first : (faults : List Refusal) (f : Refusal) → faults ≡ [] → IsFirst faults f → ⊥
none-first faults f e h = subst (λ (xs : List Refusal). IsFirst xs f) e h

pub read-faultless : (text : List ℕ) (tokens : List Token) (classes : List PlainClassText) → (reading text tokens ≡ Ok classes) ↔ (((f : Refusal) → IsFaultOfText text tokens f → ⊥) × (classes ≡ classes_of (forms_alone (lines_after text [] tokens))))
read-faultless text tokens classes = (
  (λ (e : reading text tokens ≡ Ok classes).
      let r = (read-none text tokens classes).0 e in
      ((λ (f : Refusal) (h : IsFaultOfText text tokens f). none-first (line_faults text tokens) f r.0 (fault-first (last_line tokens) [] (lines_after text [] tokens) f (of-text text tokens f h))), r.1)),
  (λ (h : ((f : Refusal) → IsFaultOfText text tokens f → ⊥) × (classes ≡ classes_of (forms_alone (lines_after text [] tokens)))).
      (read-none text tokens classes).1 (none-listed (line_faults text tokens) (λ (f : Refusal) (i : IsFirst (line_faults text tokens) f). h.0 f (last_line tokens, last-so tokens, first-fault (last_line tokens) [] (lines_after text [] tokens) f i)), h.1)),
)

pub line-named : (before : List Form) (line : PlainLine) (behind : List PlainLine) (kind : ReadKind) → (form_among (state_after before) line behind ≡ Err kind) ↔ IsLeast (HasFault before line behind) kind
line-named before line behind kind = (err-least before line behind kind, least-err before line behind kind)

pub line-formed : (before : List Form) (line : PlainLine) (behind : List PlainLine) → ((f : Form) × (form_among (state_after before) line behind ≡ Ok f)) ↔ HasNone (HasFault before line behind)
line-formed before line behind = ((λ (g : (f : Form) × (form_among (state_after before) line behind ≡ Ok f)). ok-none before line behind g.0 g.1), none-ok before line behind)
