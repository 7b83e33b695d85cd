-- The line that reading names is the first that has a fault.
use Rattle.std.proofs.Common.{◌≡◌, ℕ, Bool, true, false, not, ◌&&◌, List, [], ◌∷◌, ◌++◌, Option, Some, None, Result, Ok, Err, refl, ap, sym, ◌∙◌, subst, cond}
use Rattle.std.specs.Prelude.{◌↔◌}
use Rattle.jasmin_text.specs.declared.token.Token.{Token}
use Rattle.jasmin_lines.specs.declared.fault.ReadKind.{ReadKind}
use Rattle.jasmin_lines.specs.declared.fault.ReadKind.TheVariants.{NoClass, NoSuper}
use Rattle.jasmin_reader.specs.declared.fault.Refusal.{Refusal}
use Rattle.jasmin_lines.specs.declared.form.Form.{Form}
use Rattle.jasmin_reader.specs.Assembly.{classes_of}
use Rattle.jasmin_reader.specs.Grammar.{PlainState, nothing_begun, next_state, lacks_super, may_stand_first, misplaced, is_end, placed, form_among}
use Rattle.jasmin_lines.specs.Lexemes.{PlainLine, lines_after}
use Rattle.jasmin_lines.specs.Plain.{PlainClassText}
use Rattle.jasmin_reader.specs.Reading.{at_line, forms_after, last_line, reading}
use Rattle.std.specs.List.{list_any}
use Rattle.vm_model.specs.Failures.{◌>>=◌}
use Rattle.text_laws.specs.LineFaults.{form_alone, form_if, forms_alone, begun_after, fault_of, faults_behind, line_faults, IsFirst}

-- ---- a line that is well placed has its form

placed-so : (o : Option ReadKind) (f g : Form) → placed o f ≡ Ok g → f ≡ g
placed-so None f g e = cc
placed-so (Some kind) f g e = absurd (cc)

placed-alone : (ends : Bool) (s : PlainState) (r : Result Form ReadKind) (g : Form) → (r >>= λ f. placed (misplaced ends s f) f) ≡ Ok g → r ≡ Ok g
placed-alone ends s (Ok f) g e = ap Ok (placed-so (misplaced ends s f) f g e)
placed-alone ends s (Err kind) g e = absurd (cc)

pub among-alone : (s : PlainState) (line : PlainLine) (lines : List PlainLine) (f : Form) → form_among s line lines ≡ Ok f → form_alone line ≡ Ok f
unfolding form_among
among-alone s line lines f e = by_first (not s.has_class && not (may_stand_first line.words)) e
  where
    by_first : (c : Bool) → cond c (Err NoClass) (form_alone line >>= λ g. placed (misplaced (list_any is_end lines) s g) g) ≡ Ok f → form_alone line ≡ Ok f
    by_first true e' = absurd (cc)
    by_first false e' = placed-alone (list_any is_end lines) s (form_alone line) f e'

-- ---- reading and faults

-- what reading lines says of their faults and of their forms
abbrev Agrees : Result (List Form) Refusal → List Refusal → List Form → Type 0
Agrees (Ok fs) faults forms = (faults ≡ []) × (fs ≡ forms)
Agrees (Err f) faults forms = IsFirst faults f

-- one more line that has no fault
line-good : (f : Form) (r : Result (List Form) Refusal) (faults : List Refusal) (forms : List Form) → Agrees r faults forms → Agrees (r >>= λ fs. Ok (f ∷ fs)) faults (f ∷ forms)
line-good f (Ok fs) faults forms h = (h.0, ap (λ (x : List Form). f ∷ x) h.1)
line-good f (Err x) faults forms h = h

-- how reading goes on after a line
abbrev read_on : ℕ → PlainState → PlainLine → List PlainLine → Result Form ReadKind → Result (List Form) Refusal
read_on last s line lines r = at_line line.number r >>= λ f. (forms_after last (next_state f s) lines >>= λ fs. Ok (f ∷ fs))

read-line : (last : ℕ) (s : PlainState) (line : PlainLine) (lines : List PlainLine) → forms_after last s (line ∷ lines) ≡ read_on last s line lines (form_among s line lines)
unfolding forms_after
read-line last s line lines = refl

pub faults-line : (last : ℕ) (s : PlainState) (line : PlainLine) (lines : List PlainLine) → faults_behind last s (line ∷ lines) ≡ fault_of line.number (form_among s line lines) ++ faults_behind last (begun_after s (form_alone line)) lines
unfolding faults_behind
faults-line last s line lines = refl

at-end : (last : ℕ) (s : PlainState) → Agrees (forms_after last s []) (faults_behind last s []) []
unfolding forms_after faults_behind
at-end last s = by_super (lacks_super s)
  where
    by_super : (c : Bool) → Agrees (cond c (Err (record { kind = NoSuper; line = last })) (Ok [])) (cond c (record { kind = NoSuper; line = last } ∷ []) []) []
    by_super true = refl
    by_super false = (refl, refl)

agrees : (last : ℕ) (s : PlainState) (lines : List PlainLine) → Agrees (forms_after last s lines) (faults_behind last s lines) (forms_alone lines)
agrees last s [] = at-end last s
agrees last s (line ∷ lines) =
    subst (λ (r : Result (List Form) Refusal). Agrees r (faults_behind last s (line ∷ lines)) (forms_alone (line ∷ lines))) (sym (read-line last s line lines))
    (subst (λ (faults : List Refusal). Agrees (read_on last s line lines (form_among s line lines)) faults (forms_alone (line ∷ lines))) (sym (faults-line last s line lines))
    (by_line (λ (t : PlainState). agrees last t lines) (form_among s line lines) refl))
  where
    by_line : ((t : PlainState) → Agrees (forms_after last t lines) (faults_behind last t lines) (forms_alone lines)) → (r : Result Form ReadKind) → form_among s line lines ≡ r → Agrees (read_on last s line lines r) (fault_of line.number r ++ faults_behind last (begun_after s (form_alone line)) lines) (form_if (form_alone line) ++ forms_alone lines)
    by_line again (Err kind) e = refl
    by_line again (Ok f) e =
        subst (λ (x : Result Form ReadKind). Agrees (read_on last s line lines (Ok f)) (faults_behind last (begun_after s x) lines) (form_if x ++ forms_alone lines)) (sym (among-alone s line lines f e))
        (line-good f (forms_after last (next_state f s) lines) (faults_behind last (next_state f s) lines) (forms_alone lines) (again (next_state f s)))

-- ---- the law

abbrev classes_so : Result (List Form) Refusal → Result (List PlainClassText) Refusal
classes_so r = r >>= λ forms. Ok (classes_of forms)

-- each list of faults has one first
first-is : (faults : List Refusal) (f g : Refusal) → IsFirst faults f → IsFirst faults g → f ≡ g
first-is [] f g h i = absurd h
first-is (x ∷ xs) f g h i = sym h ∙ i

none-first : (faults : List Refusal) (f : Refusal) → faults ≡ [] → IsFirst faults f → ⊥
none-first faults f e h = subst (λ (xs : List Refusal). IsFirst xs f) e h

refused-so : (r : Result (List Form) Refusal) (faults : List Refusal) (forms : List Form) (f : Refusal) → Agrees r faults forms → (classes_so r ≡ Err f) ↔ IsFirst faults f
refused-so (Ok fs) faults forms f h = ((λ e. absurd (cc)), (λ i. absurd (none-first faults f h.0 i)))
refused-so (Err g) faults forms f h = (
  (λ (e : classes_so (Err g) ≡ Err f). let same : g ≡ f = cc in subst (IsFirst faults) same h),
  (λ (i : IsFirst faults f). ap Err (first-is faults g f h i)),
)

read-so : (r : Result (List Form) Refusal) (faults : List Refusal) (forms : List Form) (classes : List PlainClassText) → Agrees r faults forms → (classes_so r ≡ Ok classes) ↔ ((faults ≡ []) × (classes ≡ classes_of forms))
read-so (Ok fs) faults forms classes h = (
  (λ (e : classes_so (Ok fs) ≡ Ok classes). let same : classes_of fs ≡ classes = cc in (h.0, sym same ∙ ap classes_of h.1)),
  (λ (i : (faults ≡ []) × (classes ≡ classes_of forms)). ap Ok (ap classes_of h.1 ∙ sym i.1)),
)
read-so (Err g) faults forms classes h = ((λ e. absurd (cc)), (λ i. absurd (none-first faults g i.0 h)))

read-all : (text : List ℕ) (tokens : List Token) → reading text tokens ≡ classes_so (forms_after (last_line tokens) nothing_begun (lines_after text [] tokens))
unfolding reading
read-all text tokens = refl

all-agree : (text : List ℕ) (tokens : List Token) → Agrees (forms_after (last_line tokens) nothing_begun (lines_after text [] tokens)) (line_faults text tokens) (forms_alone (lines_after text [] tokens))
all-agree text tokens = agrees (last_line tokens) nothing_begun (lines_after text [] tokens)

pub named-first : (text : List ℕ) (tokens : List Token) (f : Refusal) → (reading text tokens ≡ Err f) ↔ IsFirst (line_faults text tokens) f
named-first text tokens f = subst (λ (r : Result (List PlainClassText) Refusal). (r ≡ Err f) ↔ IsFirst (line_faults text tokens) f) (sym (read-all text tokens)) (refused-so _ (line_faults text tokens) _ f (all-agree text tokens))

pub read-none : (text : List ℕ) (tokens : List Token) (classes : List PlainClassText) → (reading text tokens ≡ Ok classes) ↔ ((line_faults text tokens ≡ []) × (classes ≡ classes_of (forms_alone (lines_after text [] tokens))))
read-none text tokens classes = subst (λ (r : Result (List PlainClassText) Refusal). (r ≡ Ok classes) ↔ ((line_faults text tokens ≡ []) × (classes ≡ classes_of (forms_alone (lines_after text [] tokens))))) (sym (read-all text tokens)) (read-so _ (line_faults text tokens) _ classes (all-agree text tokens))
