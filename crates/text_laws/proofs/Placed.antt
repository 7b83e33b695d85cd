-- The lines of a canonical text may stand where they stand.
use Rattle.std.proofs.Common.{◌≡◌, ℕ, Bool, true, false, not, ◌&&◌, ◌||◌, List, [], ◌∷◌, ◌++◌, Option, Some, None, map, refl, sym, ◌∙◌, subst}
use Rattle.std.specs.Prelude.{bytes_eq}
use Rattle.std.specs.List.{AllByRecursion, flat_map, list_any}
use Rattle.std.proofs.lemmas.List.{append_assoc, append-nil}
use Rattle.jasmin_lines.specs.declared.class_text.NameAt.{NameAt}
use Rattle.jasmin_lines.specs.declared.class_text.CatchText.{CatchText}
use Rattle.jasmin_lines.specs.declared.fault.ReadKind.{ReadKind}
use Rattle.jasmin_lines.specs.declared.fault.ReadKind.TheVariants.{InMethod, OutsideMethod, NoSuper, LabelTwice}
use Rattle.jasmin_lines.specs.declared.form.Form.{Form}
use Rattle.jasmin_lines.specs.declared.form.Form.TheVariants as form
use Rattle.jasmin_lines.specs.Plain.{PlainLineText, PlainFieldText, PlainMethodText, PlainClassText}
use Rattle.jasmin_reader.specs.Grammar.{PlainState, nothing_begun, class_begun, method_begun, method_ended, super_said, stack_said, locals_said, labelled, only_if, outside_methods, inside_method, lacks_super, has_label, may_stand_first}
use Rattle.text_laws.proofs.CanonicalForms.{words_of, unlabelled, line_forms, stack_forms, locals_forms, label_forms, catch_forms, head_form, method_forms, member_forms, named_forms, class_forms, forms_of, named_or}
use Rattle.text_laws.proofs.Good.{AreFresh, labels_of, IsGoodMethod, IsGoodNamed, IsGoodClass, Interface, Named}
use Rattle.text_laws.proofs.ReadAgain.{is_end_form, has_end, ArePlaced}

-- ---- states

-- a class has begun, with its super, and no method
record IsOut (s : PlainState) : Type 0 where
  class : s.has_class ≡ true
  super : s.has_super ≡ true
  out : s.is_inside ≡ false

-- the same inside a method
record IsIn (s : PlainState) : Type 0 where
  class : s.has_class ≡ true
  super : s.has_super ≡ true
  inside : s.is_inside ≡ true

none-if : (kind : ReadKind) (b : Bool) (rest : Option ReadKind) → b ≡ false → rest ≡ None → only_if kind b rest ≡ None
none-if kind true rest e r = absurd (cc)
none-if kind false rest e r = r

not-first : (b x : Bool) → b ≡ true → (not b && x) ≡ false
not-first true x e = refl
not-first false x e = absurd (cc)

may-be-first : (b : Bool) → (not b && false) ≡ false
may-be-first true = refl
may-be-first false = refl

or-nothing : (b : Bool) → b ≡ false → (b || false) ≡ false
or-nothing true e = absurd (cc)
or-nothing false e = refl

not-true : (b : Bool) → b ≡ true → not b ≡ false
not-true true e = refl
not-true false e = absurd (cc)

has-super : (s : PlainState) → s.has_super ≡ true → lacks_super s ≡ false
has-super s e = by s.has_class (not s.has_super) (not-true s.has_super e)
  where
    by : (a b : Bool) → b ≡ false → (a && b) ≡ false
    by true b h = h
    by false b h = refl

-- ---- lines of a method

in-fits : (s : PlainState) (f : Form) (fs : List Form) (rest : Option ReadKind) → IsIn s → rest ≡ None → inside_method s rest ≡ None
in-fits s f fs rest h e = none-if OutsideMethod (not s.is_inside) rest (not-true s.is_inside h.inside) e

first-in : (s : PlainState) (x : Bool) → IsIn s → (not s.has_class && x) ≡ false
first-in s x h = not-first s.has_class x h.class

placed-catches : (s : PlainState) (catches : List CatchText) (rest : List Form) → IsIn s → ArePlaced s rest → ArePlaced s (catch_forms catches ++ rest)
placed-catches s [] rest h more = more
placed-catches s (c ∷ catches) rest h more =
    (record { first = first-in s (not (may_stand_first (words_of (form.Catch c)))) h; here = in-fits s (form.Catch c) [] None h refl; ends = tt }, placed-catches s catches rest h more)

placed-labels : (s : PlainState) (labels more : List (List ℕ)) (rest : List Form) → IsIn s → AreFresh s.labels (labels ++ more) → ((t : PlainState) → IsIn t → AreFresh t.labels more → ArePlaced t rest) → ArePlaced s (label_forms labels ++ rest)
placed-labels s [] more rest h fresh k = k s h fresh
placed-labels s (l ∷ labels) more rest h fresh k =
    let new : has_label s (l ∷ []) ≡ false = or-nothing (list_any (bytes_eq l) s.labels) fresh.0 in (
      record {
        first = first-in s (not (may_stand_first (words_of (form.Label l)))) h;
        here = in-fits s (form.Label l) [] (only_if LabelTwice (has_label s (l ∷ [])) None) h (none-if LabelTwice (has_label s (l ∷ [])) None new refl);
        ends = tt;
      },
      placed-labels (labelled (l ∷ []) s) labels more rest (record { class = h.class; super = h.super; inside = h.inside }) fresh.1 k,
    )

abbrev line_labels : List PlainLineText → List (List ℕ)
line_labels lines = flat_map (λ l. l.labels) lines

placed-lines : (s : PlainState) (lines : List PlainLineText) (more : List (List ℕ)) (rest : List Form) → IsIn s → AreFresh s.labels (line_labels lines ++ more) → ((t : PlainState) → IsIn t → AreFresh t.labels more → ArePlaced t rest) → ArePlaced s (flat_map line_forms lines ++ rest)
placed-lines s [] more rest h fresh k = k s h fresh
placed-lines s (l ∷ lines) more rest h fresh k =
    let shape : flat_map line_forms (l ∷ lines) ++ rest ≡ label_forms l.labels ++ (form.Code (unlabelled l) ∷ (flat_map line_forms lines ++ rest)) =
    append_assoc (label_forms l.labels ++ form.Code (unlabelled l) ∷ []) (flat_map line_forms lines) rest ∙ append_assoc (label_forms l.labels) (form.Code (unlabelled l) ∷ []) (flat_map line_forms lines ++ rest) in
    let fresh' : AreFresh s.labels (l.labels ++ (line_labels lines ++ more)) = subst (AreFresh s.labels) (append_assoc l.labels (line_labels lines) more) fresh in
    subst (ArePlaced s) (sym shape)
    (placed-labels s l.labels (line_labels lines ++ more) (form.Code (unlabelled l) ∷ (flat_map line_forms lines ++ rest)) h fresh'
    (λ (t : PlainState) (i : IsIn t) (f : AreFresh t.labels (line_labels lines ++ more)). (
      record {
        first = first-in t (not (may_stand_first (words_of (form.Code (unlabelled l))))) i;
        here = in-fits t (form.Code (unlabelled l)) [] None i refl;
        ends = tt;
      },
      placed-lines (labelled [] t) lines more rest (record { class = i.class; super = i.super; inside = i.inside }) (subst (λ (x : List (List ℕ)). AreFresh x (line_labels lines ++ more)) (sym (append-nil t.labels)) f) k,
    )))

-- ---- methods

first-out : (s : PlainState) (x : Bool) → IsOut s → (not s.has_class && x) ≡ false
first-out s x h = not-first s.has_class x h.class

out-fits : (s : PlainState) (rest : Option ReadKind) → s.is_inside ≡ false → rest ≡ None → outside_methods s rest ≡ None
out-fits s rest h e = none-if InMethod s.is_inside rest h e

begun-in : (s : PlainState) → IsOut s → IsIn (method_begun s)
begun-in s h = record { class = h.class; super = h.super; inside = refl }

placed-limits : (s : PlainState) (stack locals : Option ℕ) (rest : List Form) → IsOut s → ((t : PlainState) → IsIn t → t.labels ≡ [] → ArePlaced t rest) → ArePlaced (method_begun s) (stack_forms stack ++ (locals_forms locals ++ rest))
placed-limits s None None rest h k = k (method_begun s) (begun-in s h) refl
placed-limits s None (Some n) rest h k = (
  record { first = first-out s (not (may_stand_first (words_of (form.LocalsLimit n)))) h; here = refl; ends = tt },
  k (locals_said (method_begun s)) (record { class = h.class; super = h.super; inside = refl }) refl,
)
placed-limits s (Some m) None rest h k = (
  record { first = first-out s (not (may_stand_first (words_of (form.StackLimit m)))) h; here = refl; ends = tt },
  k (stack_said (method_begun s)) (record { class = h.class; super = h.super; inside = refl }) refl,
)
placed-limits s (Some m) (Some n) rest h k = (
  record { first = first-out s (not (may_stand_first (words_of (form.StackLimit m)))) h; here = refl; ends = tt },
  (
    record { first = first-out s (not (may_stand_first (words_of (form.LocalsLimit n)))) h; here = refl; ends = tt },
    k (locals_said (stack_said (method_begun s))) (record { class = h.class; super = h.super; inside = refl }) refl,
  ),
)

shape : (h e : Form) (a b c d f rest : List Form) → ((h ∷ []) ++ (a ++ b) ++ (c ++ d ++ f) ++ e ∷ []) ++ rest ≡ h ∷ (a ++ (b ++ (c ++ (d ++ (f ++ (e ∷ rest))))))
shape h e a b c d f rest = simp append_assoc

end-behind : (xs ys : List Form) → has_end ys ≡ true → has_end (xs ++ ys) ≡ true
end-behind [] ys h = h
end-behind (x ∷ xs) ys h = by (is_end_form x) (has_end (xs ++ ys)) (end-behind xs ys h)
  where
    by : (a b : Bool) → b ≡ true → (a || b) ≡ true
    by true b e = refl
    by false b e = e

-- what comes after a method's head
abbrev tail_of : PlainMethodText → List Form → List Form
tail_of m rest = stack_forms m.stack ++ (locals_forms m.locals ++ (flat_map line_forms m.lines ++ (label_forms m.end_labels ++ (catch_forms m.catches ++ (form.End ∷ rest)))))

tail-ends : (m : PlainMethodText) (rest : List Form) → has_end (tail_of m rest) ≡ true
tail-ends m rest =
    end-behind (stack_forms m.stack) _ (end-behind (locals_forms m.locals) _ (end-behind (flat_map line_forms m.lines) _ (end-behind (label_forms m.end_labels) _ (end-behind (catch_forms m.catches) (form.End ∷ rest) refl))))

placed-end : (s : PlainState) (catches : List CatchText) (rest : List Form) → IsIn s → ((t : PlainState) → IsOut t → ArePlaced t rest) → ArePlaced s (catch_forms catches ++ (form.End ∷ rest))
placed-end s catches rest h k =
    placed-catches s catches (form.End ∷ rest) h (
      record { first = first-in s (not (may_stand_first (words_of form.End))) h; here = in-fits s form.End [] None h refl; ends = tt },
      k (method_ended s) (record { class = h.class; super = h.super; out = refl }),
    )

placed-method : (s : PlainState) (m : PlainMethodText) (rest : List Form) → IsOut s → IsGoodMethod m → ((t : PlainState) → IsOut t → ArePlaced t rest) → ArePlaced s (method_forms m ++ rest)
placed-method s m rest h good k =
    let whole : lacks_super s ≡ false = has-super s h.super in
    subst (ArePlaced s) (sym (shape (head_form m) form.End (stack_forms m.stack) (locals_forms m.locals) (flat_map line_forms m.lines) (label_forms m.end_labels) (catch_forms m.catches) rest)) (
      record {
        first = first-out s (not (may_stand_first (words_of (head_form m)))) h;
        here = out-fits s (only_if NoSuper (lacks_super s) None) h.out (none-if NoSuper (lacks_super s) None whole refl);
        ends = tail-ends m rest;
      },
      placed-limits s m.stack m.locals (flat_map line_forms m.lines ++ (label_forms m.end_labels ++ (catch_forms m.catches ++ (form.End ∷ rest)))) h
          (λ (t : PlainState) (i : IsIn t) (none : t.labels ≡ []).
          placed-lines t m.lines m.end_labels (label_forms m.end_labels ++ (catch_forms m.catches ++ (form.End ∷ rest))) i (subst (λ (x : List (List ℕ)). AreFresh x (labels_of m.lines m.end_labels)) (sym none) good.fresh)
          (λ (u : PlainState) (j : IsIn u) (f : AreFresh u.labels m.end_labels).
          placed-labels u m.end_labels [] (catch_forms m.catches ++ (form.End ∷ rest)) j (subst (AreFresh u.labels) (sym (append-nil m.end_labels)) f)
          (λ (v : PlainState) (l : IsIn v) (_ : AreFresh v.labels []). placed-end v m.catches rest l k))),
    )

placed-methods : (s : PlainState) (methods : List PlainMethodText) (rest : List Form) → IsOut s → AllByRecursion IsGoodMethod methods → ((t : PlainState) → IsOut t → ArePlaced t rest) → ArePlaced s (flat_map method_forms methods ++ rest)
placed-methods s [] rest h good k = k s h
placed-methods s (m ∷ methods) rest h good k =
    subst (ArePlaced s) (sym (append_assoc (method_forms m) (flat_map method_forms methods) rest))
    (placed-method s m (flat_map method_forms methods ++ rest) h good.0 (λ (t : PlainState) (o : IsOut t). placed-methods t methods rest o good.1 k))

-- ---- classes

placed-fields : (s : PlainState) (fields : List PlainFieldText) (rest : List Form) → IsOut s → ArePlaced s rest → ArePlaced s (map (λ f. form.Field f) fields ++ rest)
placed-fields s [] rest h more = more
placed-fields s (f ∷ fields) rest h more =
    let whole : lacks_super s ≡ false = has-super s h.super in (
      record {
        first = first-out s (not (may_stand_first (words_of (form.Field f)))) h;
        here = out-fits s (only_if NoSuper (lacks_super s) None) h.out (none-if NoSuper (lacks_super s) None whole refl);
        ends = tt;
      },
      placed-fields s fields rest h more,
    )

placed-implements : (s : PlainState) (implements : List NameAt) (rest : List Form) → IsOut s → ArePlaced s rest → ArePlaced s (map (λ n. form.Implements n) implements ++ rest)
placed-implements s [] rest h more = more
placed-implements s (n ∷ implements) rest h more =
    (record { first = first-out s (not (may_stand_first (words_of (form.Implements n)))) h; here = out-fits s None h.out refl; ends = tt }, placed-implements s implements rest h more)

member-shape : (a b c rest : List Form) → (a ++ b ++ c) ++ rest ≡ a ++ (b ++ (c ++ rest))
member-shape a b c rest = simp append_assoc

placed-members : (s : PlainState) (c : PlainClassText) (rest : List Form) → IsOut s → IsGoodNamed c → ((t : PlainState) → IsOut t → ArePlaced t rest) → ArePlaced s (member_forms c ++ rest)
placed-members s c rest h good k =
    subst (ArePlaced s) (sym (member-shape (map (λ n. form.Implements n) c.implements) (map (λ f. form.Field f) c.fields) (flat_map method_forms c.methods) rest))
    (placed-implements s c.implements (map (λ f. form.Field f) c.fields ++ (flat_map method_forms c.methods ++ rest)) h
    (placed-fields s c.fields (flat_map method_forms c.methods ++ rest) h
    (placed-methods s c.methods rest h good.members.methods k)))

-- a state in which a class may begin
record IsBetween (s : PlainState) : Type 0 where
  out : s.is_inside ≡ false
  whole : lacks_super s ≡ false

placed-named : (s : PlainState) (c : PlainClassText) (rest : List Form) → IsBetween s → IsGoodNamed c → ((t : PlainState) → IsBetween t → ArePlaced t rest) → ArePlaced s (named_forms c ++ rest)
placed-named s c rest h good k = (
  record {
    first = may-be-first s.has_class;
    here = out-fits s (only_if NoSuper (lacks_super s) None) h.out (none-if NoSuper (lacks_super s) None h.whole refl);
    ends = tt;
  },
  (
    record { first = refl; here = refl; ends = tt },
    placed-members (super_said class_begun) c rest (record { class = refl; super = refl; out = refl }) good
        (λ (t : PlainState) (o : IsOut t). k t (record { out = o.out; whole = has-super t o.super })),
  ),
)

placed-interface : (s : PlainState) (line : ℕ) (rest : List Form) → IsBetween s → ArePlaced s rest → ArePlaced s (form.Interface line ∷ rest)
placed-interface s line rest h more = (record { first = may-be-first s.has_class; here = out-fits s None h.out refl; ends = tt }, more)

placed-class : (s : PlainState) (c : PlainClassText) (rest : List Form) → IsBetween s → IsGoodClass c → ((t : PlainState) → IsBetween t → ArePlaced t rest) → ArePlaced s (class_forms c ++ rest)
placed-class s c rest h (Interface e) k = subst (λ (x : PlainClassText). ArePlaced s (class_forms x ++ rest)) (sym e) (placed-interface s c.line rest h (k s h))
placed-class s c rest h (Named good) k = subst (λ (b : Bool). ArePlaced s (named_or c b ++ rest)) (sym good.filled) (placed-named s c rest h good k)

placed-classes : (s : PlainState) (classes : List PlainClassText) → IsBetween s → AllByRecursion IsGoodClass classes → ArePlaced s (forms_of classes)
placed-classes s [] h good = h.whole
placed-classes s (c ∷ classes) h good = placed-class s c (forms_of classes) h good.0 (λ (t : PlainState) (b : IsBetween t). placed-classes t classes b good.1)

pub all-placed : (classes : List PlainClassText) → AllByRecursion IsGoodClass classes → ArePlaced nothing_begun (forms_of classes)
all-placed classes good = placed-classes nothing_begun classes (record { out = refl; whole = refl }) good
