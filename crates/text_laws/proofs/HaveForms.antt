-- A text is read as the classes that the forms of its lines make by the rules.
use Rattle.std.proofs.Common.{◌≡◌, ℕ, List, [], ◌∷◌, ◌++◌, Result, Ok, Err, refl, ap, sym, ◌∙◌, subst, inl, inr}
use Rattle.std.specs.Prelude.{◌↔◌}
use Rattle.jasmin_text.specs.declared.token.Token.{Token}
use Rattle.jasmin_lines.specs.declared.fault.ReadKind.{ReadKind}
use Rattle.jasmin_reader.specs.declared.fault.Refusal.{Refusal}
use Rattle.jasmin_lines.specs.declared.form.Form.{Form}
use Rattle.jasmin_reader.specs.Assembly.{classes_of}
use Rattle.jasmin_reader.specs.Grammar.{form_among}
use Rattle.jasmin_lines.specs.Lexemes.{PlainLine, lines_after}
use Rattle.jasmin_lines.specs.Plain.{PlainClassText}
use Rattle.jasmin_reader.specs.Reading.{last_line, reading}
use Rattle.text_laws.specs.ClassRules.{AreClassesOf}
use Rattle.text_laws.specs.LineFaults.{form_alone, form_if, forms_alone}
use Rattle.text_laws.specs.LineRules.{IsFirstFault, IsFaultOfText, state_after}
use Rattle.text_laws.specs.WordRules.{HasForm, HaveForms}
use Rattle.text_laws.proofs.ClassRules.{classes-made}
use Rattle.text_laws.proofs.FirstFault.{last-so, read-faultless}
use Rattle.text_laws.proofs.LineForms.{has-form, form-related}
use Rattle.text_laws.proofs.LineRules.{err-least, ok-none}
use Rattle.text_laws.proofs.NamedLine.{among-alone}

forms-are : (lines : List PlainLine) (forms : List Form) → HaveForms lines forms → forms ≡ forms_alone lines
forms-are [] [] h = refl
forms-are [] (f ∷ forms) h = absurd h
forms-are (line ∷ lines) [] h = absurd h
forms-are (line ∷ lines) (f ∷ forms) h =
    ap (λ (fs : List Form). f ∷ fs) (forms-are lines forms h.1) ∙ ap (λ (r : Result Form ReadKind). form_if r ++ forms_alone lines) (sym (has-form line.number line.words f h.0))

have-forms : (last : ℕ) (before : List Form) (lines : List PlainLine) → ((f : Refusal) → IsFirstFault last before lines f → ⊥) → HaveForms lines (forms_alone lines)
have-forms last before [] none = tt
have-forms last before (line ∷ lines) none = by_form (λ (x : Form). have-forms last (x ∷ before) lines) (form_among (state_after before) line lines) refl
  where
    by_form : ((x : Form) → ((f : Refusal) → IsFirstFault last (x ∷ before) lines f → ⊥) → HaveForms lines (forms_alone lines)) → (r : Result Form ReadKind) → form_among (state_after before) line lines ≡ r → HaveForms (line ∷ lines) (forms_alone (line ∷ lines))
    by_form again (Err kind) e = absurd (none (record { kind = kind; line = line.number }) (inl (err-least before line lines kind e, refl)))
    by_form again (Ok f) e =
        let alone : form_alone line ≡ Ok f = among-alone (state_after before) line lines f e in
        let has : HasForm line.number line.words f = (form-related line.number line.words f).0 alone in
        subst (λ (r : Result Form ReadKind). HaveForms (line ∷ lines) (form_if r ++ forms_alone lines)) (sym alone)
        (has, again f (λ (g : Refusal) (i : IsFirstFault last (f ∷ before) lines g). none g (inr (ok-none before line lines f e, f, has, i))))

-- a text is read as the classes that the forms of its lines make
abbrev pub IsReadAs : List ℕ → List Token → List PlainClassText → Type 0
IsReadAs text tokens classes = ((f : Refusal) → IsFaultOfText text tokens f → ⊥) × (forms : List Form) × HaveForms (lines_after text [] tokens) forms × AreClassesOf forms classes

pub read-classes : (text : List ℕ) (tokens : List Token) (classes : List PlainClassText) → (reading text tokens ≡ Ok classes) ↔ IsReadAs text tokens classes
read-classes text tokens classes = (
  (λ (e : reading text tokens ≡ Ok classes).
      let r = (read-faultless text tokens classes).0 e in
      let forms : List Form = forms_alone (lines_after text [] tokens) in
      (r.0, forms, have-forms (last_line tokens) [] (lines_after text [] tokens) (λ (g : Refusal) (i : IsFirstFault (last_line tokens) [] (lines_after text [] tokens) g). r.0 g (last_line tokens, last-so tokens, i)), (classes-made forms classes).0 r.1)),
  (λ (h : IsReadAs text tokens classes). (read-faultless text tokens classes).1 (h.0, (classes-made h.1 classes).1 h.3 ∙ ap classes_of (forms-are (lines_after text [] tokens) h.1 h.2))),
)
