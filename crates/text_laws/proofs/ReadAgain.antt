-- Forms whose lines fit one after the other are read from their own lines.
use Rattle.std.proofs.Common.{◌≡◌, ℕ, ◌+◌, Bool, true, false, not, ◌&&◌, List, [], ◌∷◌, Option, None, Result, Ok, Err, map, cond, refl, ap, sym, ◌∙◌, subst}
use Rattle.std.specs.List.{AllByRecursion, list_any}
use Rattle.vm_model.specs.Failures.{◌>>=◌}
use Rattle.jasmin_lines.specs.declared.fault.ReadKind.{ReadKind}
use Rattle.jasmin_lines.specs.declared.fault.ReadKind.TheVariants.{NoClass, NoSuper, EndMissing}
use Rattle.jasmin_reader.specs.declared.fault.Refusal.{Refusal}
use Rattle.jasmin_lines.specs.declared.form.Form.{Form}
use Rattle.jasmin_lines.specs.declared.form.Form.TheVariants as form
use Rattle.jasmin_lines.specs.Lexemes.{PlainLine}
use Rattle.jasmin_lines.specs.Forms.{form_of}
use Rattle.jasmin_reader.specs.Grammar.{PlainState, next_state, only_if, outside_methods, lacks_super, misplaced, may_stand_first, is_end, placed, form_among}
use Rattle.jasmin_reader.specs.Reading.{at_line, forms_after}
use Rattle.text_laws.specs.Spelled.{numbered}
use Rattle.text_laws.proofs.CanonicalForms.{words_of}
use Rattle.text_laws.proofs.Again.{IsAgain, on_line}
use Rattle.text_laws.proofs.Successes.{step}
use Rattle.text_laws.proofs.Tests.{or-right, either}

-- the same forms, line by line from this line on
abbrev pub renumbered : ℕ → List Form → List Form
renumbered n [] = []
renumbered n (f ∷ fs) = on_line n f ∷ renumbered (n + 1) fs

abbrev pub is_end_form : Form → Bool
is_end_form form.End = true
is_end_form _ = false

abbrev pub has_end : List Form → Bool
has_end forms = list_any is_end_form forms

-- a method ends after its head
abbrev pub EndsBehind : Form → List Form → Type 0
EndsBehind (form.Method m) forms = has_end forms ≡ true
EndsBehind _ forms = Unit {0}

-- each form may stand where it stands
pub record Fits (s : PlainState) (f : Form) (fs : List Form) : Type 0 where
  pub first : (not s.has_class && not (may_stand_first (words_of f))) ≡ false
  pub here : misplaced true s f ≡ None
  pub ends : EndsBehind f fs

abbrev pub ArePlaced : PlainState → List Form → Type 0
ArePlaced s [] = lacks_super s ≡ false
ArePlaced s (f ∷ fs) = Fits s f fs × ArePlaced (next_state f s) fs

-- ---- the end of a method

end-line : (f : Form) (n : ℕ) → is_end_form f ≡ true → is_end (record { number = n; words = words_of f }) ≡ true
end-line form.End n e = refl
end-line form.Skipped n e = absurd (cc)
end-line form.Ignored n e = absurd (cc)
end-line (form.Interface x) n e = absurd (cc)
end-line (form.Class x) n e = absurd (cc)
end-line (form.Super x) n e = absurd (cc)
end-line (form.Implements x) n e = absurd (cc)
end-line (form.Field x) n e = absurd (cc)
end-line (form.Method x) n e = absurd (cc)
end-line (form.StackLimit x) n e = absurd (cc)
end-line (form.LocalsLimit x) n e = absurd (cc)
end-line (form.Catch x) n e = absurd (cc)
end-line (form.Label x) n e = absurd (cc)
end-line (form.Code x) n e = absurd (cc)

end-lines : (n : ℕ) (fs : List Form) → has_end fs ≡ true → list_any is_end (numbered n (map words_of fs)) ≡ true
end-lines n [] e = absurd (cc)
end-lines n (f ∷ fs) e =
    either (is_end_form f) (has_end fs) e
    (λ (h : is_end_form f ≡ true). rw (end-line f n h) refl)
    (λ (h : has_end fs ≡ true). or-right (is_end (record { number = n; words = words_of f })) (list_any is_end (numbered (n + 1) (map words_of fs))) (end-lines (n + 1) fs h))

-- a form fits on any line, and whether or not a method ends after it, but for a method's head
still-fits : (ends : Bool) (n : ℕ) (s : PlainState) (f : Form) (fs : List Form) → misplaced true s f ≡ None → EndsBehind f fs → (has_end fs ≡ true → ends ≡ true) → misplaced ends s (on_line n f) ≡ None
still-fits ends n s form.Skipped fs e h g = e
still-fits ends n s form.Ignored fs e h g = e
still-fits ends n s form.End fs e h g = e
still-fits ends n s (form.Interface x) fs e h g = e
still-fits ends n s (form.Class x) fs e h g = e
still-fits ends n s (form.Super x) fs e h g = e
still-fits ends n s (form.Implements x) fs e h g = e
still-fits ends n s (form.Field x) fs e h g = e
still-fits ends n s (form.Method x) fs e h g = subst (λ (b : Bool). outside_methods s (only_if NoSuper (lacks_super s) (only_if EndMissing (not b) None)) ≡ None) (sym (g h)) e
still-fits ends n s (form.StackLimit x) fs e h g = e
still-fits ends n s (form.LocalsLimit x) fs e h g = e
still-fits ends n s (form.Catch x) fs e h g = e
still-fits ends n s (form.Label x) fs e h g = e
still-fits ends n s (form.Code x) fs e h g = e

same-state : (n : ℕ) (s : PlainState) (f : Form) → next_state (on_line n f) s ≡ next_state f s
same-state n s form.Skipped = refl
same-state n s form.Ignored = refl
same-state n s form.End = refl
same-state n s (form.Interface x) = refl
same-state n s (form.Class x) = refl
same-state n s (form.Super x) = refl
same-state n s (form.Implements x) = refl
same-state n s (form.Field x) = refl
same-state n s (form.Method x) = refl
same-state n s (form.StackLimit x) = refl
same-state n s (form.LocalsLimit x) = refl
same-state n s (form.Catch x) = refl
same-state n s (form.Label x) = refl
same-state n s (form.Code x) = refl

-- ---- one line

abbrev line_with : ℕ → Form → PlainLine
line_with n f = record { number = n; words = words_of f }

abbrev among : Bool → PlainState → PlainLine → Bool → Result Form ReadKind
among ends s line early = cond early (Err NoClass) (form_of line.number line.words >>= λ f. placed (misplaced ends s f) f)

line-read : (n : ℕ) (s : PlainState) (f : Form) (lines : List PlainLine) → (not s.has_class && not (may_stand_first (words_of f))) ≡ false → IsAgain f → misplaced (list_any is_end lines) s (on_line n f) ≡ None → form_among s (line_with n f) lines ≡ Ok (on_line n f)
unfolding form_among
line-read n s f lines first again here =
    ap (among (list_any is_end lines) s (line_with n f)) first
    ∙ step (form_of n (words_of f)) _ (on_line n f) (again.read n)
    ∙ ap (λ (o : Option ReadKind). placed o (on_line n f)) here

-- ---- all lines

abbrev ended : ℕ → Bool → Result (List Form) Refusal
ended last b = cond b (Err (record { kind = NoSuper; line = last })) (Ok [])

none-read : (last : ℕ) (s : PlainState) → lacks_super s ≡ false → forms_after last s [] ≡ Ok []
unfolding forms_after
none-read last s e = ap (ended last) e

more-read : (last n : ℕ) (s : PlainState) (f : Form) (lines : List PlainLine) (fs : List Form) → form_among s (line_with n f) lines ≡ Ok (on_line n f) → forms_after last (next_state f s) lines ≡ Ok fs → forms_after last s (line_with n f ∷ lines) ≡ Ok (on_line n f ∷ fs)
unfolding forms_after
more-read last n s f lines fs here rest =
    step (at_line n (form_among s (line_with n f) lines)) _ (on_line n f) (ap (at_line n) here)
    ∙ step (forms_after last (next_state (on_line n f) s) lines) _ fs (ap (λ (t : PlainState). forms_after last t lines) (same-state n s f) ∙ rest)

pub forms-read : (last n : ℕ) (s : PlainState) (fs : List Form) → AllByRecursion IsAgain fs → ArePlaced s fs → forms_after last s (numbered n (map words_of fs)) ≡ Ok (renumbered n fs)
forms-read last n s [] again fits = none-read last s fits
forms-read last n s (f ∷ fs) again fits =
    let here : misplaced (list_any is_end (numbered (n + 1) (map words_of fs))) s (on_line n f) ≡ None = still-fits (list_any is_end (numbered (n + 1) (map words_of fs))) n s f fs fits.0.here fits.0.ends (end-lines (n + 1) fs) in
    more-read last n s f (numbered (n + 1) (map words_of fs)) (renumbered (n + 1) fs)
    (line-read n s f (numbered (n + 1) (map words_of fs)) fits.0.first again.0 here)
    (forms-read last (n + 1) (next_state f s) fs again.1 fits.1)
