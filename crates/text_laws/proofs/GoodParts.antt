-- Classes that were read are good ones.
use Rattle.std.proofs.Common.{◌≡◌, ℕ, Bool, true, false, not, ◌&&◌, List, [], ◌∷◌, ◌++◌, Option, Some, None, Result, Ok, Err, refl, sym, subst}
use Rattle.std.specs.Prelude.{bytes_eq}
use Rattle.std.specs.List.{AllByRecursion, flat_map, list_any}
use Rattle.std.proofs.lemmas.List.{append_assoc, append-nil}
use Rattle.jasmin_lines.specs.declared.fault.ReadKind.{ReadKind}
use Rattle.jasmin_lines.specs.declared.fault.ReadKind.TheVariants.{InMethod, OutsideMethod, NoSuper, LabelTwice, EndMissing}
use Rattle.jasmin_lines.specs.declared.form.Form.{Form}
use Rattle.jasmin_lines.specs.declared.form.Form.TheVariants as form
use Rattle.jasmin_lines.specs.Plain.{PlainLineText}
use Rattle.jasmin_lines.specs.Lexemes.{PlainLine}
use Rattle.jasmin_lines.specs.Forms.{form_of}
use Rattle.jasmin_reader.specs.Grammar.{PlainState, next_state, only_if, outside_methods, inside_method, lacks_super, has_label, misplaced, may_stand_first, is_end, placed, form_among}
use Rattle.jasmin_reader.specs.Assembly.{PlainBody, PlainParts, no_parts, with_form, parts_of, labelled_lines, labelled_end}
use Rattle.jasmin_reader.specs.Reading.{at_line, forms_after}
use Rattle.text_laws.proofs.Tests.{tested, or-first}
use Rattle.text_laws.proofs.Found.{IsFoundLine}
use Rattle.text_laws.proofs.Again.{IsAgain, AreAgain, IsOneAtMost}
use Rattle.text_laws.proofs.FormLines.{form-found}
use Rattle.text_laws.proofs.Good.{AreFresh, labels_of, IsLabel, IsGoodLine, IsGoodBody, AreGoodMembers, IsGoodClass, Interface, Named}
use Rattle.text_laws.proofs.Successes.{Holds, behind}

abbrev body_labels : PlainBody → List (List ℕ)
body_labels b = labels_of b.lines b.end_labels

-- the parts of lines that come after this state
pub record AreGoodParts (s : PlainState) (p : PlainParts) : Type 0 where
  pub classes : AllByRecursion IsGoodClass p.classes
  pub members : AreGoodMembers p.members
  pub super : lacks_super s ≡ true → IsAgain (form.Super (record { line = p.members.super_line; name = p.members.super_name }))
  pub body : IsGoodBody p.body
  pub inside : s.is_inside ≡ true → AreFresh s.labels (body_labels p.body)
  pub outside : s.is_inside ≡ false → body_labels p.body ≡ []

-- ---- what a line that fits says of the state

not-fault : (kind : ReadKind) (b : Bool) (rest : Option ReadKind) → only_if kind b rest ≡ None → (b ≡ false) × (rest ≡ None)
not-fault kind true rest e = absurd (cc)
not-fault kind false rest e = (refl, e)

not-false : (b : Bool) → not b ≡ false → b ≡ true
not-false true e = refl
not-false false e = absurd (cc)

is-out : (s : PlainState) (rest : Option ReadKind) → outside_methods s rest ≡ None → (s.is_inside ≡ false) × (rest ≡ None)
is-out s rest e = not-fault InMethod s.is_inside rest e

is-in : (s : PlainState) (rest : Option ReadKind) → inside_method s rest ≡ None → (s.is_inside ≡ true) × (rest ≡ None)
is-in s rest e = let h : (not s.is_inside ≡ false) × (rest ≡ None) = not-fault OutsideMethod (not s.is_inside) rest e in (not-false s.is_inside h.0, h.1)

never : {A : Type 0} (b : Bool) → b ≡ true → b ≡ false → A
never b e f = absurd (cc)

no-stack : IsGoodBody (no_parts.body)
no-stack = record { stack = tt; locals = tt; lines = tt; ends = tt; catches = tt }

no-members : AreGoodMembers (no_parts.members)
no-members = record { implements = tt; fields = tt; methods = tt }

-- ---- labels

label-lines : (label : List ℕ) (lines : List PlainLineText) → IsLabel label → AllByRecursion IsGoodLine lines → AllByRecursion IsGoodLine (labelled_lines label lines)
label-lines label [] h good = tt
label-lines label (l ∷ ls) h good = (record { labels = (h, good.0.labels); code = good.0.code }, good.1)

label-ends : (label : List ℕ) (lines : List PlainLineText) (ends : List (List ℕ)) → IsLabel label → AllByRecursion IsLabel ends → AllByRecursion IsLabel (labelled_end label lines ends)
label-ends label [] ends h good = (h, good)
label-ends label (l ∷ ls) ends h good = good

labels-more : (label : List ℕ) (lines : List PlainLineText) (ends : List (List ℕ)) → labels_of (labelled_lines label lines) (labelled_end label lines ends) ≡ label ∷ labels_of lines ends
labels-more label [] ends = refl
labels-more label (l ∷ ls) ends = refl

fresh-more : (s : PlainState) (labels rest : List (List ℕ)) → IsOneAtMost labels → has_label s labels ≡ false → AreFresh (s.labels ++ labels) rest → AreFresh s.labels (labels ++ rest)
fresh-more s [] rest one none h = subst (λ (x : List (List ℕ)). AreFresh x rest) (append-nil s.labels) h
fresh-more s (x ∷ []) rest one none h = (or-first (list_any (bytes_eq x) s.labels) false none, h)
fresh-more s (x ∷ y ∷ xs) rest one none h = absurd one

-- ---- one line

good-form : (ends : Bool) (s : PlainState) (f : Form) (p : PlainParts) → misplaced ends s f ≡ None → AreAgain f → AreGoodParts (next_state f s) p → AreGoodParts s (with_form f p)
good-form ends s form.Skipped p e again h = h
good-form ends s form.Ignored p e again h = h
good-form ends s (form.Interface line) p e again h = record { classes = (Interface refl, h.classes); members = h.members; super = h.super; body = h.body; inside = h.inside; outside = h.outside }
good-form ends s (form.Class c) p e again h =
    let out : (s.is_inside ≡ false) × (only_if NoSuper (lacks_super s) None ≡ None) = is-out s (only_if NoSuper (lacks_super s) None) e in
    let whole : lacks_super s ≡ false = (not-fault NoSuper (lacks_super s) None out.1).0 in
    record {
      classes = (Named (record { filled = again.1; head = again.0; super = h.super refl; members = record { implements = h.members.implements; fields = h.members.fields; methods = h.members.methods } }), h.classes);
      members = no-members;
      super = λ t. never (lacks_super s) t whole;
      body = no-stack;
      inside = λ t. never s.is_inside t out.0;
      outside = λ _. refl;
    }
good-form ends s (form.Super n) p e again h = record { classes = h.classes; members = record { implements = h.members.implements; fields = h.members.fields; methods = h.members.methods }; super = λ _. again; body = h.body; inside = h.inside; outside = h.outside }
good-form ends s (form.Implements n) p e again h = record { classes = h.classes; members = record { implements = (again, h.members.implements); fields = h.members.fields; methods = h.members.methods }; super = h.super; body = h.body; inside = h.inside; outside = h.outside }
good-form ends s (form.Field f) p e again h = record { classes = h.classes; members = record { implements = h.members.implements; fields = (again, h.members.fields); methods = h.members.methods }; super = h.super; body = h.body; inside = h.inside; outside = h.outside }
good-form ends s (form.Method m) p e again h =
    let out : (s.is_inside ≡ false) × (only_if NoSuper (lacks_super s) (only_if EndMissing (not ends) None) ≡ None) = is-out s (only_if NoSuper (lacks_super s) (only_if EndMissing (not ends) None)) e in
    record {
      classes = h.classes;
      members = record { implements = h.members.implements; fields = h.members.fields; methods = (record { head = again; body = h.body; fresh = h.inside refl }, h.members.methods) };
      super = h.super;
      body = no-stack;
      inside = λ t. never s.is_inside t out.0;
      outside = λ _. refl;
    }
good-form ends s (form.StackLimit n) p e again h = record { classes = h.classes; members = h.members; super = h.super; body = record { stack = again; locals = h.body.locals; lines = h.body.lines; ends = h.body.ends; catches = h.body.catches }; inside = h.inside; outside = h.outside }
good-form ends s (form.LocalsLimit n) p e again h = record { classes = h.classes; members = h.members; super = h.super; body = record { stack = h.body.stack; locals = again; lines = h.body.lines; ends = h.body.ends; catches = h.body.catches }; inside = h.inside; outside = h.outside }
good-form ends s (form.Catch c) p e again h = record { classes = h.classes; members = h.members; super = h.super; body = record { stack = h.body.stack; locals = h.body.locals; lines = h.body.lines; ends = h.body.ends; catches = (again, h.body.catches) }; inside = h.inside; outside = h.outside }
good-form ends s form.End p e again h =
    let inside : s.is_inside ≡ true = (is-in s None e).0 in
    record {
      classes = h.classes;
      members = h.members;
      super = h.super;
      body = h.body;
      inside = λ _. subst (AreFresh s.labels) (sym (h.outside refl)) tt;
      outside = λ f. never s.is_inside inside f;
    }
good-form ends s (form.Label label) p e again h =
    let inside : (s.is_inside ≡ true) × (only_if LabelTwice (has_label s (label ∷ [])) None ≡ None) = is-in s (only_if LabelTwice (has_label s (label ∷ [])) None) e in
    let new : has_label s (label ∷ []) ≡ false = (not-fault LabelTwice (has_label s (label ∷ [])) None inside.1).0 in
    record {
      classes = h.classes;
      members = h.members;
      super = h.super;
      body = record { stack = h.body.stack; locals = h.body.locals; lines = label-lines label p.body.lines again h.body.lines; ends = label-ends label p.body.lines p.body.end_labels again h.body.ends; catches = h.body.catches };
      inside = λ t. subst (AreFresh s.labels) (sym (labels-more label p.body.lines p.body.end_labels)) (fresh-more s (label ∷ []) (body_labels p.body) tt new (h.inside t));
      outside = λ f. never s.is_inside inside.0 f;
    }
good-form ends s (form.Code l) p e again h =
    let inside : (s.is_inside ≡ true) × (only_if LabelTwice (has_label s l.labels) None ≡ None) = is-in s (only_if LabelTwice (has_label s l.labels) None) e in
    let new : has_label s l.labels ≡ false = (not-fault LabelTwice (has_label s l.labels) None inside.1).0 in
    record {
      classes = h.classes;
      members = h.members;
      super = h.super;
      body = record { stack = h.body.stack; locals = h.body.locals; lines = (record { labels = again.0; code = again.1 }, h.body.lines); ends = h.body.ends; catches = h.body.catches };
      inside = λ t. subst (AreFresh s.labels) (sym (append_assoc l.labels (flat_map (λ x. x.labels) p.body.lines) p.body.end_labels)) (fresh-more s l.labels (body_labels p.body) again.2 new (h.inside t));
      outside = λ f. never s.is_inside inside.0 f;
    }

-- ---- all lines

abbrev Fits : Bool → PlainState → Form → Type 0
Fits ends s f = AreAgain f × (misplaced ends s f ≡ None)

placed-fits : (ends : Bool) (s : PlainState) (f : Form) (o : Option ReadKind) → AreAgain f → misplaced ends s f ≡ o → Holds (Fits ends s) (placed o f)
placed-fits ends s f None again e = (again, e)
placed-fits ends s f (Some kind) again e = tt

among-fits : (s : PlainState) (line : PlainLine) (lines : List PlainLine) → IsFoundLine line → Holds (Fits (list_any is_end lines) s) (form_among s line lines)
unfolding form_among
among-fits s line lines found =
    tested (Holds (Fits (list_any is_end lines) s)) (not s.has_class && not (may_stand_first line.words)) _ _
    (λ (_ : (not s.has_class && not (may_stand_first line.words)) ≡ true). tt)
    (λ (_ : (not s.has_class && not (may_stand_first line.words)) ≡ false).
    behind (Fits (list_any is_end lines) s) (form_of line.number line.words) _ (λ (f : Form) (e : form_of line.number line.words ≡ Ok f).
    placed-fits (list_any is_end lines) s f (misplaced (list_any is_end lines) s f) (subst (Holds AreAgain) e (form-found line.number line.words found)) refl))

line-fits : (n : ℕ) (P : Form → Type 0) (r : Result Form ReadKind) → Holds P r → Holds P (at_line n r)
line-fits n P (Ok f) h = h
line-fits n P (Err kind) h = tt

abbrev GoodForms : PlainState → List Form → Type 0
GoodForms s forms = AreGoodParts s (parts_of forms no_parts)

none-good : (s : PlainState) → lacks_super s ≡ false → GoodForms s []
unfolding parts_of
none-good s e = record { classes = tt; members = no-members; super = λ t. never (lacks_super s) t e; body = no-stack; inside = λ _. tt; outside = λ _. refl }

more-good : (ends : Bool) (s : PlainState) (f : Form) (fs : List Form) → Fits ends s f → GoodForms (next_state f s) fs → GoodForms s (f ∷ fs)
unfolding parts_of
more-good ends s f fs fits h = good-form ends s f (parts_of fs no_parts) fits.1 fits.0 h

pub forms-good : (last : ℕ) (s : PlainState) (lines : List PlainLine) → AllByRecursion IsFoundLine lines → Holds (GoodForms s) (forms_after last s lines)
unfolding forms_after
forms-good last s [] found =
    tested (Holds (GoodForms s)) (lacks_super s) _ _
    (λ (_ : lacks_super s ≡ true). tt)
    (λ (e : lacks_super s ≡ false). none-good s e)
forms-good last s (line ∷ lines) found =
    behind (GoodForms s) (at_line line.number (form_among s line lines)) _ (λ (f : Form) (e : at_line line.number (form_among s line lines) ≡ Ok f).
    behind (GoodForms s) (forms_after last (next_state f s) lines) _ (λ (fs : List Form) (e' : forms_after last (next_state f s) lines ≡ Ok fs).
    let fits : Fits (list_any is_end lines) s f = subst (Holds (Fits (list_any is_end lines) s)) e (line-fits line.number (Fits (list_any is_end lines) s) (form_among s line lines) (among-fits s line lines found.0)) in
    let rest : GoodForms (next_state f s) fs = subst (Holds (GoodForms (next_state f s))) e' (forms-good last (next_state f s) lines found.1) in
    more-good (list_any is_end lines) s f fs fits rest))
