-- The numbers of lines don't matter for what is made of forms.
use Rattle.std.proofs.Common.{◌≡◌, ℕ, ◌+◌, List, [], ◌∷◌, map, refl, ap, sym, ◌∙◌}
use Rattle.jasmin_lines.specs.declared.form.Form.{Form}
use Rattle.jasmin_lines.specs.declared.form.Form.TheVariants as form
use Rattle.jasmin_lines.specs.Plain.{PlainLineText, PlainClassText}
use Rattle.jasmin_reader.specs.Assembly.{PlainBody, PlainMembers, PlainParts, no_parts, with_form, parts_of, classes_of, labelled_lines, labelled_end}
use Rattle.text_laws.specs.Alike.{name_without_line, catch_without_line, code_without_line, field_without_line, method_without_lines, without_lines, AreAlike}
use Rattle.text_laws.proofs.Again.{on_line}
use Rattle.text_laws.proofs.ReadAgain.{renumbered}

abbrev bare_body : PlainBody → PlainBody
bare_body b = record { stack = b.stack; locals = b.locals; lines = map code_without_line b.lines; end_labels = b.end_labels; catches = map catch_without_line b.catches }

abbrev bare_members : PlainMembers → PlainMembers
bare_members m = record { super_line = 0; super_name = m.super_name; implements = map name_without_line m.implements; fields = map field_without_line m.fields; methods = map method_without_lines m.methods }

abbrev bare : PlainParts → PlainParts
bare p = record { body = bare_body p.body; members = bare_members p.members; classes = map without_lines p.classes }

bare-lines : (label : List ℕ) (lines : List PlainLineText) → map code_without_line (labelled_lines label lines) ≡ labelled_lines label (map code_without_line lines)
bare-lines label [] = refl
bare-lines label (l ∷ ls) = refl

bare-ends : (label : List ℕ) (lines : List PlainLineText) (ends : List (List ℕ)) → labelled_end label lines ends ≡ labelled_end label (map code_without_line lines) ends
bare-ends label [] ends = refl
bare-ends label (l ∷ ls) ends = refl

abbrev with_labels : PlainParts → List PlainLineText → List (List ℕ) → PlainParts
with_labels p lines ends = record {
  body = record { stack = p.body.stack; locals = p.body.locals; lines = lines; end_labels = ends; catches = map catch_without_line p.body.catches };
  members = bare_members p.members;
  classes = map without_lines p.classes;
}

bare-form : (f : Form) (p : PlainParts) → bare (with_form f p) ≡ with_form (on_line 0 f) (bare p)
bare-form form.Skipped p = refl
bare-form form.Ignored p = refl
bare-form form.End p = refl
bare-form (form.Interface x) p = refl
bare-form (form.Class x) p = refl
bare-form (form.Super x) p = refl
bare-form (form.Implements x) p = refl
bare-form (form.Field x) p = refl
bare-form (form.Method x) p = refl
bare-form (form.StackLimit x) p = refl
bare-form (form.LocalsLimit x) p = refl
bare-form (form.Catch x) p = refl
bare-form (form.Label x) p =
    ap (λ (ls : List PlainLineText). with_labels p ls (labelled_end x p.body.lines p.body.end_labels)) (bare-lines x p.body.lines)
    ∙ ap (with_labels p (labelled_lines x (map code_without_line p.body.lines))) (bare-ends x p.body.lines p.body.end_labels)
bare-form (form.Code x) p = refl

bare-parts : (fs : List Form) (p : PlainParts) → bare (parts_of fs p) ≡ parts_of (map (on_line 0) fs) (bare p)
unfolding parts_of
bare-parts [] p = refl
bare-parts (f ∷ fs) p = bare-form f (parts_of fs p) ∙ ap (with_form (on_line 0 f)) (bare-parts fs p)

-- ---- numbers

same-bare : (n : ℕ) (f : Form) → on_line 0 (on_line n f) ≡ on_line 0 f
same-bare n form.Skipped = refl
same-bare n form.Ignored = refl
same-bare n form.End = refl
same-bare n (form.Interface x) = refl
same-bare n (form.Class x) = refl
same-bare n (form.Super x) = refl
same-bare n (form.Implements x) = refl
same-bare n (form.Field x) = refl
same-bare n (form.Method x) = refl
same-bare n (form.StackLimit x) = refl
same-bare n (form.LocalsLimit x) = refl
same-bare n (form.Catch x) = refl
same-bare n (form.Label x) = refl
same-bare n (form.Code x) = refl

all-bare : (n : ℕ) (fs : List Form) → map (on_line 0) (renumbered n fs) ≡ map (on_line 0) fs
all-bare n [] = refl
all-bare n (f ∷ fs) = ap (λ (g : Form). g ∷ map (on_line 0) (renumbered (n + 1) fs)) (same-bare n f) ∙ ap (λ (gs : List Form). on_line 0 f ∷ gs) (all-bare (n + 1) fs)

abbrev pub classes_in : PlainParts → List PlainClassText
classes_in p = p.classes

pub classes-alike : (n : ℕ) (fs : List Form) → AreAlike (classes_of (renumbered n fs)) (classes_of fs)
classes-alike n fs =
    ap classes_in (bare-parts (renumbered n fs) no_parts ∙ ap (λ (gs : List Form). parts_of gs no_parts) (all-bare n fs) ∙ sym (bare-parts fs no_parts))
