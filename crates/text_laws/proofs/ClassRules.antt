-- The classes of a text's lines are the ones that these make by the rules.
use Rattle.std.proofs.Common.{◌≡◌, ℕ, List, [], ◌∷◌, ◌++◌, Option, refl, ap, sym, ◌∙◌, subst, append-nil, append_assoc}
use Rattle.std.specs.Prelude.{◌↔◌, flat_map}
use Rattle.jasmin_lines.specs.declared.class_text.NameAt.{NameAt}
use Rattle.jasmin_lines.specs.declared.class_text.CatchText.{CatchText}
use Rattle.jasmin_lines.specs.declared.form.Form.{Form}
use Rattle.jasmin_lines.specs.declared.form.Form.TheVariants as form
use Rattle.jasmin_lines.specs.Plain.{PlainLineText, PlainFieldText, PlainMethodText, PlainClassText}
use Rattle.jasmin_reader.specs.Assembly.{no_parts, labelled_lines, labelled_end, method_of, class_of, parts_of, classes_of}
use Rattle.text_laws.specs.ClassRules.{stack_limits, locals_limits, catches_said, supers_said, interfaces_said, fields_said, up_to, IsFirstIfAny, labelled_by, AreCoded, IsMethodOf, IsSuper, AreMethodsOf, IsClassOf, AreClassesOf}
use Rattle.text_laws.specs.LineRules.{is_class, begins_anew}
use Rattle.text_laws.specs.WordRules.{bare_class}

-- ---- a method

stack-said : (forms : List Form) → IsFirstIfAny (flat_map stack_limits (up_to begins_anew forms)) (parts_of forms no_parts).body.stack
unfolding parts_of
stack-said [] = refl
stack-said (form.Skipped ∷ fs) = stack-said fs
stack-said (form.Ignored ∷ fs) = stack-said fs
stack-said (form.End ∷ fs) = stack-said fs
stack-said (form.Interface x ∷ fs) = stack-said fs
stack-said (form.Class x ∷ fs) = refl
stack-said (form.Super x ∷ fs) = stack-said fs
stack-said (form.Implements x ∷ fs) = stack-said fs
stack-said (form.Field x ∷ fs) = stack-said fs
stack-said (form.Method x ∷ fs) = refl
stack-said (form.StackLimit x ∷ fs) = refl
stack-said (form.LocalsLimit x ∷ fs) = stack-said fs
stack-said (form.Catch x ∷ fs) = stack-said fs
stack-said (form.Label x ∷ fs) = stack-said fs
stack-said (form.Code x ∷ fs) = stack-said fs

locals-said : (forms : List Form) → IsFirstIfAny (flat_map locals_limits (up_to begins_anew forms)) (parts_of forms no_parts).body.locals
unfolding parts_of
locals-said [] = refl
locals-said (form.Skipped ∷ fs) = locals-said fs
locals-said (form.Ignored ∷ fs) = locals-said fs
locals-said (form.End ∷ fs) = locals-said fs
locals-said (form.Interface x ∷ fs) = locals-said fs
locals-said (form.Class x ∷ fs) = refl
locals-said (form.Super x ∷ fs) = locals-said fs
locals-said (form.Implements x ∷ fs) = locals-said fs
locals-said (form.Field x ∷ fs) = locals-said fs
locals-said (form.Method x ∷ fs) = refl
locals-said (form.StackLimit x ∷ fs) = locals-said fs
locals-said (form.LocalsLimit x ∷ fs) = refl
locals-said (form.Catch x ∷ fs) = locals-said fs
locals-said (form.Label x ∷ fs) = locals-said fs
locals-said (form.Code x ∷ fs) = locals-said fs

caught : (forms : List Form) → (parts_of forms no_parts).body.catches ≡ flat_map catches_said (up_to begins_anew forms)
unfolding parts_of
caught [] = refl
caught (form.Skipped ∷ fs) = caught fs
caught (form.Ignored ∷ fs) = caught fs
caught (form.End ∷ fs) = caught fs
caught (form.Interface x ∷ fs) = caught fs
caught (form.Class x ∷ fs) = refl
caught (form.Super x ∷ fs) = caught fs
caught (form.Implements x ∷ fs) = caught fs
caught (form.Field x ∷ fs) = caught fs
caught (form.Method x ∷ fs) = refl
caught (form.StackLimit x ∷ fs) = caught fs
caught (form.LocalsLimit x ∷ fs) = caught fs
caught (form.Catch x ∷ fs) = ap (λ (cs : List CatchText). x ∷ cs) (caught fs)
caught (form.Label x ∷ fs) = caught fs
caught (form.Code x ∷ fs) = caught fs

-- labels in front of the first instruction, or at the end where there is none
abbrev led : List (List ℕ) → List PlainLineText → List PlainLineText
led set [] = []
led set (l ∷ ls) = labelled_by set l ∷ ls

abbrev led_end : List (List ℕ) → List PlainLineText → List (List ℕ) → List (List ℕ)
led_end set [] ends = set ++ ends
led_end set (l ∷ ls) ends = ends

abbrev with_labels : List (List ℕ) → PlainLineText → PlainLineText
with_labels labels l = record { line = l.line; labels = labels; word = l.word; operands = l.operands }

led-label : (set : List (List ℕ)) (label : List ℕ) (ls : List PlainLineText) → led (set ++ label ∷ []) ls ≡ led set (labelled_lines label ls)
led-label set label [] = refl
led-label set label (l ∷ ls) = ap (λ (labels : List (List ℕ)). with_labels labels l ∷ ls) (append_assoc set (label ∷ []) l.labels)

led-end : (set : List (List ℕ)) (label : List ℕ) (ls : List PlainLineText) (ends : List (List ℕ)) → led_end (set ++ label ∷ []) ls ends ≡ led_end set (labelled_lines label ls) (labelled_end label ls ends)
led-end set label [] ends = append_assoc set (label ∷ []) ends
led-end set label (l ∷ ls) ends = refl

led-none : (ls : List PlainLineText) → led [] ls ≡ ls
led-none [] = refl
led-none (l ∷ ls) = refl

end-none : (ls : List PlainLineText) (ends : List (List ℕ)) → led_end [] ls ends ≡ ends
end-none [] ends = refl
end-none (l ∷ ls) ends = refl

same-code : (set : List (List ℕ)) (forms : List Form) (a b : List PlainLineText) (c d : List (List ℕ)) → a ≡ b → c ≡ d → AreCoded set forms a c → AreCoded set forms b d
same-code set forms a b c d e g h = subst (λ (ls : List PlainLineText). AreCoded set forms ls d) e (subst (AreCoded set forms a) g h)

coded-on : (set : List (List ℕ)) (forms : List Form) → AreCoded set (up_to begins_anew forms) (led set (parts_of forms no_parts).body.lines) (led_end set (parts_of forms no_parts).body.lines (parts_of forms no_parts).body.end_labels)
unfolding parts_of
coded-on set [] = (refl, append-nil set)
coded-on set (form.Skipped ∷ fs) = coded-on set fs
coded-on set (form.Ignored ∷ fs) = coded-on set fs
coded-on set (form.End ∷ fs) = coded-on set fs
coded-on set (form.Interface x ∷ fs) = coded-on set fs
coded-on set (form.Class x ∷ fs) = (refl, append-nil set)
coded-on set (form.Super x ∷ fs) = coded-on set fs
coded-on set (form.Implements x ∷ fs) = coded-on set fs
coded-on set (form.Field x ∷ fs) = coded-on set fs
coded-on set (form.Method x ∷ fs) = (refl, append-nil set)
coded-on set (form.StackLimit x ∷ fs) = coded-on set fs
coded-on set (form.LocalsLimit x ∷ fs) = coded-on set fs
coded-on set (form.Catch x ∷ fs) = coded-on set fs
coded-on set (form.Label x ∷ fs) = same-code (set ++ x ∷ []) (up_to begins_anew fs) (led (set ++ x ∷ []) (parts_of fs no_parts).body.lines) (led set (labelled_lines x (parts_of fs no_parts).body.lines)) (led_end (set ++ x ∷ []) (parts_of fs no_parts).body.lines (parts_of fs no_parts).body.end_labels) (led_end set (labelled_lines x (parts_of fs no_parts).body.lines) (labelled_end x (parts_of fs no_parts).body.lines (parts_of fs no_parts).body.end_labels)) (led-label set x (parts_of fs no_parts).body.lines) (led-end set x (parts_of fs no_parts).body.lines (parts_of fs no_parts).body.end_labels) (coded-on (set ++ x ∷ []) fs)
coded-on set (form.Code x ∷ fs) = ((parts_of fs no_parts).body.lines, refl, same-code [] (up_to begins_anew fs) (led [] (parts_of fs no_parts).body.lines) (parts_of fs no_parts).body.lines (led_end [] (parts_of fs no_parts).body.lines (parts_of fs no_parts).body.end_labels) (parts_of fs no_parts).body.end_labels (led-none (parts_of fs no_parts).body.lines) (end-none (parts_of fs no_parts).body.lines (parts_of fs no_parts).body.end_labels) (coded-on [] fs))

coded : (forms : List Form) → AreCoded [] (up_to begins_anew forms) (parts_of forms no_parts).body.lines (parts_of forms no_parts).body.end_labels
coded forms = same-code [] (up_to begins_anew forms) (led [] (parts_of forms no_parts).body.lines) (parts_of forms no_parts).body.lines (led_end [] (parts_of forms no_parts).body.lines (parts_of forms no_parts).body.end_labels) (parts_of forms no_parts).body.end_labels (led-none (parts_of forms no_parts).body.lines) (end-none (parts_of forms no_parts).body.lines (parts_of forms no_parts).body.end_labels) (coded-on [] forms)

method-so : (m : PlainMethodText) (forms : List Form) → IsMethodOf m (up_to begins_anew forms) (method_of m (parts_of forms no_parts).body)
method-so m forms = record {
  line = refl;
  flags = refl;
  name = refl;
  desc = refl;
  stack = stack-said forms;
  locals = locals-said forms;
  code = coded forms;
  catches = caught forms;
}

-- ---- a class

super-so : (forms : List Form) → IsSuper (flat_map supers_said (up_to is_class forms)) (parts_of forms no_parts).members.super_line (parts_of forms no_parts).members.super_name
unfolding parts_of
super-so [] = (refl, refl)
super-so (form.Skipped ∷ fs) = super-so fs
super-so (form.Ignored ∷ fs) = super-so fs
super-so (form.End ∷ fs) = super-so fs
super-so (form.Interface x ∷ fs) = super-so fs
super-so (form.Class x ∷ fs) = (refl, refl)
super-so (form.Super x ∷ fs) = (refl, refl)
super-so (form.Implements x ∷ fs) = super-so fs
super-so (form.Field x ∷ fs) = super-so fs
super-so (form.Method x ∷ fs) = super-so fs
super-so (form.StackLimit x ∷ fs) = super-so fs
super-so (form.LocalsLimit x ∷ fs) = super-so fs
super-so (form.Catch x ∷ fs) = super-so fs
super-so (form.Label x ∷ fs) = super-so fs
super-so (form.Code x ∷ fs) = super-so fs

interfaces-so : (forms : List Form) → (parts_of forms no_parts).members.implements ≡ flat_map interfaces_said (up_to is_class forms)
unfolding parts_of
interfaces-so [] = refl
interfaces-so (form.Skipped ∷ fs) = interfaces-so fs
interfaces-so (form.Ignored ∷ fs) = interfaces-so fs
interfaces-so (form.End ∷ fs) = interfaces-so fs
interfaces-so (form.Interface x ∷ fs) = interfaces-so fs
interfaces-so (form.Class x ∷ fs) = refl
interfaces-so (form.Super x ∷ fs) = interfaces-so fs
interfaces-so (form.Implements x ∷ fs) = ap (λ (ns : List NameAt). x ∷ ns) (interfaces-so fs)
interfaces-so (form.Field x ∷ fs) = interfaces-so fs
interfaces-so (form.Method x ∷ fs) = interfaces-so fs
interfaces-so (form.StackLimit x ∷ fs) = interfaces-so fs
interfaces-so (form.LocalsLimit x ∷ fs) = interfaces-so fs
interfaces-so (form.Catch x ∷ fs) = interfaces-so fs
interfaces-so (form.Label x ∷ fs) = interfaces-so fs
interfaces-so (form.Code x ∷ fs) = interfaces-so fs

fields-so : (forms : List Form) → (parts_of forms no_parts).members.fields ≡ flat_map fields_said (up_to is_class forms)
unfolding parts_of
fields-so [] = refl
fields-so (form.Skipped ∷ fs) = fields-so fs
fields-so (form.Ignored ∷ fs) = fields-so fs
fields-so (form.End ∷ fs) = fields-so fs
fields-so (form.Interface x ∷ fs) = fields-so fs
fields-so (form.Class x ∷ fs) = refl
fields-so (form.Super x ∷ fs) = fields-so fs
fields-so (form.Implements x ∷ fs) = fields-so fs
fields-so (form.Field x ∷ fs) = ap (λ (xs : List PlainFieldText). x ∷ xs) (fields-so fs)
fields-so (form.Method x ∷ fs) = fields-so fs
fields-so (form.StackLimit x ∷ fs) = fields-so fs
fields-so (form.LocalsLimit x ∷ fs) = fields-so fs
fields-so (form.Catch x ∷ fs) = fields-so fs
fields-so (form.Label x ∷ fs) = fields-so fs
fields-so (form.Code x ∷ fs) = fields-so fs

methods-so : (forms : List Form) → AreMethodsOf forms (parts_of forms no_parts).members.methods
unfolding parts_of
methods-so [] = refl
methods-so (form.Skipped ∷ fs) = methods-so fs
methods-so (form.Ignored ∷ fs) = methods-so fs
methods-so (form.End ∷ fs) = methods-so fs
methods-so (form.Interface x ∷ fs) = methods-so fs
methods-so (form.Class x ∷ fs) = refl
methods-so (form.Super x ∷ fs) = methods-so fs
methods-so (form.Implements x ∷ fs) = methods-so fs
methods-so (form.Field x ∷ fs) = methods-so fs
methods-so (form.Method x ∷ fs) = (method_of x (parts_of fs no_parts).body, (parts_of fs no_parts).members.methods, refl, method-so x fs, methods-so fs)
methods-so (form.StackLimit x ∷ fs) = methods-so fs
methods-so (form.LocalsLimit x ∷ fs) = methods-so fs
methods-so (form.Catch x ∷ fs) = methods-so fs
methods-so (form.Label x ∷ fs) = methods-so fs
methods-so (form.Code x ∷ fs) = methods-so fs

class-so : (c : PlainClassText) (forms : List Form) → IsClassOf c forms (class_of c (parts_of forms no_parts).members)
class-so c forms = record {
  line = refl;
  flags = refl;
  name = refl;
  extends = super-so forms;
  implements = interfaces-so forms;
  fields = fields-so forms;
  methods = methods-so forms;
}

classes-so : (forms : List Form) → AreClassesOf forms (parts_of forms no_parts).classes
unfolding parts_of
classes-so [] = refl
classes-so (form.Skipped ∷ fs) = classes-so fs
classes-so (form.Ignored ∷ fs) = classes-so fs
classes-so (form.End ∷ fs) = classes-so fs
classes-so (form.Interface x ∷ fs) = ((parts_of fs no_parts).classes, refl, classes-so fs)
classes-so (form.Class x ∷ fs) = (class_of x (parts_of fs no_parts).members, (parts_of fs no_parts).classes, refl, class-so x fs, classes-so fs)
classes-so (form.Super x ∷ fs) = classes-so fs
classes-so (form.Implements x ∷ fs) = classes-so fs
classes-so (form.Field x ∷ fs) = classes-so fs
classes-so (form.Method x ∷ fs) = classes-so fs
classes-so (form.StackLimit x ∷ fs) = classes-so fs
classes-so (form.LocalsLimit x ∷ fs) = classes-so fs
classes-so (form.Catch x ∷ fs) = classes-so fs
classes-so (form.Label x ∷ fs) = classes-so fs
classes-so (form.Code x ∷ fs) = classes-so fs

-- ---- there are no others

one-first : (ns : List ℕ) (a b : Option ℕ) → IsFirstIfAny ns a → IsFirstIfAny ns b → a ≡ b
one-first [] a b h i = h ∙ sym i
one-first (n ∷ ns) a b h i = h ∙ sym i

one-code : (set : List (List ℕ)) (forms : List Form) (a b : List PlainLineText) (c d : List (List ℕ)) → AreCoded set forms a c → AreCoded set forms b d → (a ≡ b) × (c ≡ d)
one-code set [] a b c d h i = (h.0 ∙ sym i.0, h.1 ∙ sym i.1)
one-code set (form.Skipped ∷ fs) a b c d h i = one-code set fs a b c d h i
one-code set (form.Ignored ∷ fs) a b c d h i = one-code set fs a b c d h i
one-code set (form.End ∷ fs) a b c d h i = one-code set fs a b c d h i
one-code set (form.Interface x ∷ fs) a b c d h i = one-code set fs a b c d h i
one-code set (form.Class x ∷ fs) a b c d h i = one-code set fs a b c d h i
one-code set (form.Super x ∷ fs) a b c d h i = one-code set fs a b c d h i
one-code set (form.Implements x ∷ fs) a b c d h i = one-code set fs a b c d h i
one-code set (form.Field x ∷ fs) a b c d h i = one-code set fs a b c d h i
one-code set (form.Method x ∷ fs) a b c d h i = one-code set fs a b c d h i
one-code set (form.StackLimit x ∷ fs) a b c d h i = one-code set fs a b c d h i
one-code set (form.LocalsLimit x ∷ fs) a b c d h i = one-code set fs a b c d h i
one-code set (form.Catch x ∷ fs) a b c d h i = one-code set fs a b c d h i
one-code set (form.Label x ∷ fs) a b c d h i = one-code (set ++ x ∷ []) fs a b c d h i
one-code set (form.Code x ∷ fs) a b c d h i = let rest = one-code [] fs h.0 i.0 c d h.2 i.2 in (h.1 ∙ ap (λ (ls : List PlainLineText). labelled_by set x ∷ ls) rest.0 ∙ sym i.1, rest.1)

abbrev method_with : ℕ → List (List ℕ) → List ℕ → List ℕ → Option ℕ → Option ℕ → List PlainLineText → List (List ℕ) → List CatchText → PlainMethodText
method_with line flags name desc stack locals lines ends catches = record {
  line = line;
  flags = flags;
  name = name;
  desc = desc;
  stack = stack;
  locals = locals;
  lines = lines;
  end_labels = ends;
  catches = catches;
}

same-method : (x y : PlainMethodText) → x.line ≡ y.line → x.flags ≡ y.flags → x.name ≡ y.name → x.desc ≡ y.desc → x.stack ≡ y.stack → x.locals ≡ y.locals → x.lines ≡ y.lines → x.end_labels ≡ y.end_labels → x.catches ≡ y.catches → x ≡ y
same-method x y a b c d e f g h i = parts x.line y.line x.flags y.flags x.name y.name x.desc y.desc x.stack y.stack x.locals y.locals x.lines y.lines x.end_labels y.end_labels x.catches y.catches a b c d e f g h i
  where
    parts : (l l' : ℕ) (fs fs' : List (List ℕ)) (n n' : List ℕ) (t t' : List ℕ) (s s' : Option ℕ) (o o' : Option ℕ) (c c' : List PlainLineText) (ls ls' : List (List ℕ)) (cs cs' : List CatchText) → l ≡ l' → fs ≡ fs' → n ≡ n' → t ≡ t' → s ≡ s' → o ≡ o' → c ≡ c' → ls ≡ ls' → cs ≡ cs' → method_with l fs n t s o c ls cs ≡ method_with l' fs' n' t' s' o' c' ls' cs'
    parts l l' fs fs' n n' t t' s s' o o' c c' ls ls' cs cs' e1 e2 e3 e4 e5 e6 e7 e8 e9 = rw (e1, e2, e3, e4, e5, e6, e7, e8, e9) refl

one-method : (m : PlainMethodText) (lines : List Form) (x y : PlainMethodText) → IsMethodOf m lines x → IsMethodOf m lines y → x ≡ y
one-method m lines x y h i =
    let code = one-code [] lines x.lines y.lines x.end_labels y.end_labels h.code i.code in
    same-method x y (h.line ∙ sym i.line) (h.flags ∙ sym i.flags) (h.name ∙ sym i.name) (h.desc ∙ sym i.desc)
    (one-first (flat_map stack_limits lines) x.stack y.stack h.stack i.stack) (one-first (flat_map locals_limits lines) x.locals y.locals h.locals i.locals)
    code.0 code.1 (h.catches ∙ sym i.catches)

one-more : {A : Type 0} (a b : A) (rest others : List A) → a ≡ b → rest ≡ others → a ∷ rest ≡ b ∷ others
one-more a b rest others e f = rw (e, f) refl

one-methods : (forms : List Form) (xs ys : List PlainMethodText) → AreMethodsOf forms xs → AreMethodsOf forms ys → xs ≡ ys
one-methods [] xs ys h i = h ∙ sym i
one-methods (form.Skipped ∷ fs) xs ys h i = one-methods fs xs ys h i
one-methods (form.Ignored ∷ fs) xs ys h i = one-methods fs xs ys h i
one-methods (form.End ∷ fs) xs ys h i = one-methods fs xs ys h i
one-methods (form.Interface x ∷ fs) xs ys h i = one-methods fs xs ys h i
one-methods (form.Class x ∷ fs) xs ys h i = h ∙ sym i
one-methods (form.Super x ∷ fs) xs ys h i = one-methods fs xs ys h i
one-methods (form.Implements x ∷ fs) xs ys h i = one-methods fs xs ys h i
one-methods (form.Field x ∷ fs) xs ys h i = one-methods fs xs ys h i
one-methods (form.Method x ∷ fs) xs ys h i = h.2 ∙ one-more h.0 i.0 h.1 i.1 (one-method x (up_to begins_anew fs) h.0 i.0 h.3 i.3) (one-methods fs h.1 i.1 h.4 i.4) ∙ sym i.2
one-methods (form.StackLimit x ∷ fs) xs ys h i = one-methods fs xs ys h i
one-methods (form.LocalsLimit x ∷ fs) xs ys h i = one-methods fs xs ys h i
one-methods (form.Catch x ∷ fs) xs ys h i = one-methods fs xs ys h i
one-methods (form.Label x ∷ fs) xs ys h i = one-methods fs xs ys h i
one-methods (form.Code x ∷ fs) xs ys h i = one-methods fs xs ys h i

one-super : (ns : List NameAt) (a b : ℕ) (c d : List ℕ) → IsSuper ns a c → IsSuper ns b d → (a ≡ b) × (c ≡ d)
one-super [] a b c d h i = (h.0 ∙ sym i.0, h.1 ∙ sym i.1)
one-super (n ∷ ns) a b c d h i = (h.0 ∙ sym i.0, h.1 ∙ sym i.1)

abbrev class_with : ℕ → List (List ℕ) → List ℕ → ℕ → List ℕ → List NameAt → List PlainFieldText → List PlainMethodText → PlainClassText
class_with line flags name super_line super_name implements fields methods = record {
  line = line;
  flags = flags;
  name = name;
  super_line = super_line;
  super_name = super_name;
  implements = implements;
  fields = fields;
  methods = methods;
}

same-class : (x y : PlainClassText) → x.line ≡ y.line → x.flags ≡ y.flags → x.name ≡ y.name → x.super_line ≡ y.super_line → x.super_name ≡ y.super_name → x.implements ≡ y.implements → x.fields ≡ y.fields → x.methods ≡ y.methods → x ≡ y
same-class x y a b c d e f g h = parts x.line y.line x.flags y.flags x.name y.name x.super_line y.super_line x.super_name y.super_name x.implements y.implements x.fields y.fields x.methods y.methods a b c d e f g h
  where
    parts : (l l' : ℕ) (fs fs' : List (List ℕ)) (n n' : List ℕ) (s s' : ℕ) (t t' : List ℕ) (is is' : List NameAt) (xs xs' : List PlainFieldText) (ms ms' : List PlainMethodText) → l ≡ l' → fs ≡ fs' → n ≡ n' → s ≡ s' → t ≡ t' → is ≡ is' → xs ≡ xs' → ms ≡ ms' → class_with l fs n s t is xs ms ≡ class_with l' fs' n' s' t' is' xs' ms'
    parts l l' fs fs' n n' s s' t t' is is' xs xs' ms ms' e1 e2 e3 e4 e5 e6 e7 e8 = rw (e1, e2, e3, e4, e5, e6, e7, e8) refl

one-class : (c : PlainClassText) (behind : List Form) (x y : PlainClassText) → IsClassOf c behind x → IsClassOf c behind y → x ≡ y
one-class c behind x y h i =
    let super = one-super (flat_map supers_said (up_to is_class behind)) x.super_line y.super_line x.super_name y.super_name h.extends i.extends in
    same-class x y (h.line ∙ sym i.line) (h.flags ∙ sym i.flags) (h.name ∙ sym i.name) super.0 super.1 (h.implements ∙ sym i.implements) (h.fields ∙ sym i.fields)
    (one-methods behind x.methods y.methods h.methods i.methods)

one-classes : (forms : List Form) (xs ys : List PlainClassText) → AreClassesOf forms xs → AreClassesOf forms ys → xs ≡ ys
one-classes [] xs ys h i = h ∙ sym i
one-classes (form.Skipped ∷ fs) xs ys h i = one-classes fs xs ys h i
one-classes (form.Ignored ∷ fs) xs ys h i = one-classes fs xs ys h i
one-classes (form.End ∷ fs) xs ys h i = one-classes fs xs ys h i
one-classes (form.Interface x ∷ fs) xs ys h i = h.1 ∙ ap (λ (cs : List PlainClassText). bare_class x [] [] ∷ cs) (one-classes fs h.0 i.0 h.2 i.2) ∙ sym i.1
one-classes (form.Class x ∷ fs) xs ys h i = h.2 ∙ one-more h.0 i.0 h.1 i.1 (one-class x fs h.0 i.0 h.3 i.3) (one-classes fs h.1 i.1 h.4 i.4) ∙ sym i.2
one-classes (form.Super x ∷ fs) xs ys h i = one-classes fs xs ys h i
one-classes (form.Implements x ∷ fs) xs ys h i = one-classes fs xs ys h i
one-classes (form.Field x ∷ fs) xs ys h i = one-classes fs xs ys h i
one-classes (form.Method x ∷ fs) xs ys h i = one-classes fs xs ys h i
one-classes (form.StackLimit x ∷ fs) xs ys h i = one-classes fs xs ys h i
one-classes (form.LocalsLimit x ∷ fs) xs ys h i = one-classes fs xs ys h i
one-classes (form.Catch x ∷ fs) xs ys h i = one-classes fs xs ys h i
one-classes (form.Label x ∷ fs) xs ys h i = one-classes fs xs ys h i
one-classes (form.Code x ∷ fs) xs ys h i = one-classes fs xs ys h i

-- ---- the law

pub classes-made : (forms : List Form) (classes : List PlainClassText) → (classes ≡ classes_of forms) ↔ AreClassesOf forms classes
classes-made forms classes = (
  (λ (e : classes ≡ classes_of forms). subst (AreClassesOf forms) (sym e) (classes-so forms)),
  (λ (h : AreClassesOf forms classes). one-classes forms classes (classes_of forms) h (classes-so forms)),
)
