-- The forms of a canonical text make its classes.
use Rattle.std.proofs.Common.{◌≡◌, ℕ, Bool, List, [], ◌∷◌, ◌++◌, Option, Some, None, map, refl, ap, sym, ◌∙◌, subst}
use Rattle.std.specs.List.{AllByRecursion, flat_map}
use Rattle.jasmin_lines.specs.declared.class_text.NameAt.{NameAt}
use Rattle.jasmin_lines.specs.declared.class_text.CatchText.{CatchText}
use Rattle.jasmin_lines.specs.declared.form.Form.{Form}
use Rattle.jasmin_lines.specs.declared.form.Form.TheVariants as form
use Rattle.jasmin_lines.specs.Directives.{empty_class}
use Rattle.jasmin_lines.specs.Plain.{PlainLineText, PlainFieldText, PlainMethodText, PlainClassText}
use Rattle.jasmin_reader.specs.Assembly.{PlainBody, PlainMembers, PlainParts, no_body, no_members, no_parts, with_form, parts_of, classes_of}
use Rattle.text_laws.proofs.CanonicalForms.{unlabelled, line_forms, stack_forms, locals_forms, label_forms, catch_forms, body_forms, limit_forms, head_form, method_forms, super_of, member_forms, named_forms, class_forms, forms_of, named_or}
use Rattle.text_laws.proofs.Good.{IsGoodClass, Interface, Named}
use Rattle.text_laws.proofs.Bare.{classes_in}

none-made : (p : PlainParts) → parts_of [] p ≡ p
unfolding parts_of
none-made p = refl

more-made : (f : Form) (fs : List Form) (p : PlainParts) → parts_of (f ∷ fs) p ≡ with_form f (parts_of fs p)
unfolding parts_of
more-made f fs p = refl

made-append : (xs ys : List Form) (p : PlainParts) → parts_of (xs ++ ys) p ≡ parts_of xs (parts_of ys p)
made-append [] ys p = sym (none-made (parts_of ys p))
made-append (f ∷ xs) ys p = more-made f (xs ++ ys) p ∙ ap (with_form f) (made-append xs ys p) ∙ sym (more-made f xs (parts_of ys p))

made-one : (f : Form) (p : PlainParts) → parts_of (f ∷ []) p ≡ with_form f p
made-one f p = more-made f [] p ∙ ap (with_form f) (none-made p)

-- one form in front of what is made already
made-on : (f : Form) (fs : List Form) (p q : PlainParts) → parts_of fs p ≡ q → parts_of (f ∷ fs) p ≡ with_form f q
made-on f fs p q e = more-made f fs p ∙ ap (with_form f) e

-- ---- a method

abbrev body : Option ℕ → Option ℕ → List PlainLineText → List (List ℕ) → List CatchText → PlainBody
body stack locals lines ends catches = record { stack = stack; locals = locals; lines = lines; end_labels = ends; catches = catches }

abbrev in_body : PlainBody → PlainMembers → List PlainClassText → PlainParts
in_body b m cs = record { body = b; members = m; classes = cs }

catches-made : (catches : List CatchText) (m : PlainMembers) (cs : List PlainClassText) → parts_of (catch_forms catches) (in_body no_body m cs) ≡ in_body (body None None [] [] catches) m cs
catches-made [] m cs = none-made (in_body no_body m cs)
catches-made (c ∷ catches) m cs = made-on (form.Catch c) (catch_forms catches) (in_body no_body m cs) (in_body (body None None [] [] catches) m cs) (catches-made catches m cs)

ends-made : (labels : List (List ℕ)) (catches : List CatchText) (m : PlainMembers) (cs : List PlainClassText) → parts_of (label_forms labels) (in_body (body None None [] [] catches) m cs) ≡ in_body (body None None [] labels catches) m cs
ends-made [] catches m cs = none-made (in_body (body None None [] [] catches) m cs)
ends-made (l ∷ labels) catches m cs = made-on (form.Label l) (label_forms labels) (in_body (body None None [] [] catches) m cs) (in_body (body None None [] labels catches) m cs) (ends-made labels catches m cs)

abbrev labelled : List (List ℕ) → PlainLineText → PlainLineText
labelled labels l = record { line = l.line; labels = labels; word = l.word; operands = l.operands }

labels-made : (labels : List (List ℕ)) (l : PlainLineText) (lines : List PlainLineText) (ends : List (List ℕ)) (catches : List CatchText) (m : PlainMembers) (cs : List PlainClassText) → parts_of (label_forms labels) (in_body (body None None (unlabelled l ∷ lines) ends catches) m cs) ≡ in_body (body None None (labelled labels l ∷ lines) ends catches) m cs
labels-made [] l lines ends catches m cs = none-made (in_body (body None None (unlabelled l ∷ lines) ends catches) m cs)
labels-made (x ∷ labels) l lines ends catches m cs = made-on (form.Label x) (label_forms labels) (in_body (body None None (unlabelled l ∷ lines) ends catches) m cs) (in_body (body None None (labelled labels l ∷ lines) ends catches) m cs) (labels-made labels l lines ends catches m cs)

lines-made : (lines : List PlainLineText) (ends : List (List ℕ)) (catches : List CatchText) (m : PlainMembers) (cs : List PlainClassText) → parts_of (flat_map line_forms lines) (in_body (body None None [] ends catches) m cs) ≡ in_body (body None None lines ends catches) m cs
lines-made [] ends catches m cs = none-made (in_body (body None None [] ends catches) m cs)
lines-made (l ∷ lines) ends catches m cs =
    made-append (line_forms l) (flat_map line_forms lines) (in_body (body None None [] ends catches) m cs)
    ∙ ap (parts_of (line_forms l)) (lines-made lines ends catches m cs)
    ∙ made-append (label_forms l.labels) (form.Code (unlabelled l) ∷ []) (in_body (body None None lines ends catches) m cs)
    ∙ ap (parts_of (label_forms l.labels)) (made-one (form.Code (unlabelled l)) (in_body (body None None lines ends catches) m cs))
    ∙ labels-made l.labels l lines ends catches m cs

body-made : (x : PlainMethodText) (m : PlainMembers) (cs : List PlainClassText) → parts_of (body_forms x) (in_body no_body m cs) ≡ in_body (body None None x.lines x.end_labels x.catches) m cs
body-made x m cs =
    made-append (flat_map line_forms x.lines ++ label_forms x.end_labels) (catch_forms x.catches) (in_body no_body m cs)
    ∙ ap (parts_of (flat_map line_forms x.lines ++ label_forms x.end_labels)) (catches-made x.catches m cs)
    ∙ made-append (flat_map line_forms x.lines) (label_forms x.end_labels) (in_body (body None None [] [] x.catches) m cs)
    ∙ ap (parts_of (flat_map line_forms x.lines)) (ends-made x.end_labels x.catches m cs)
    ∙ lines-made x.lines x.end_labels x.catches m cs

locals-made : (o : Option ℕ) (lines : List PlainLineText) (ends : List (List ℕ)) (catches : List CatchText) (m : PlainMembers) (cs : List PlainClassText) → parts_of (locals_forms o) (in_body (body None None lines ends catches) m cs) ≡ in_body (body None o lines ends catches) m cs
locals-made None lines ends catches m cs = none-made (in_body (body None None lines ends catches) m cs)
locals-made (Some n) lines ends catches m cs = made-one (form.LocalsLimit n) (in_body (body None None lines ends catches) m cs)

stack-made : (o locals : Option ℕ) (lines : List PlainLineText) (ends : List (List ℕ)) (catches : List CatchText) (m : PlainMembers) (cs : List PlainClassText) → parts_of (stack_forms o) (in_body (body None locals lines ends catches) m cs) ≡ in_body (body o locals lines ends catches) m cs
stack-made None locals lines ends catches m cs = none-made (in_body (body None locals lines ends catches) m cs)
stack-made (Some n) locals lines ends catches m cs = made-one (form.StackLimit n) (in_body (body None locals lines ends catches) m cs)

abbrev with_methods : List PlainMethodText → PlainMembers
with_methods methods = record { super_line = 0; super_name = []; implements = []; fields = []; methods = methods }

abbrev ready : PlainMembers → List PlainClassText → PlainParts
ready m cs = record { body = no_body; members = m; classes = cs }

method-made : (x : PlainMethodText) (methods : List PlainMethodText) (cs : List PlainClassText) → parts_of (method_forms x) (ready (with_methods methods) cs) ≡ ready (with_methods (x ∷ methods)) cs
method-made x methods cs =
    made-append ((head_form x ∷ []) ++ limit_forms x ++ body_forms x) (form.End ∷ []) (ready (with_methods methods) cs)
    ∙ ap (parts_of ((head_form x ∷ []) ++ limit_forms x ++ body_forms x)) (made-one form.End (ready (with_methods methods) cs))
    ∙ made-append ((head_form x ∷ []) ++ limit_forms x) (body_forms x) (ready (with_methods methods) cs)
    ∙ ap (parts_of ((head_form x ∷ []) ++ limit_forms x)) (body-made x (with_methods methods) cs)
    ∙ more-made (head_form x) (limit_forms x) (in_body (body None None x.lines x.end_labels x.catches) (with_methods methods) cs)
    ∙ ap (with_form (head_form x))
    (made-append (stack_forms x.stack) (locals_forms x.locals) (in_body (body None None x.lines x.end_labels x.catches) (with_methods methods) cs)
    ∙ ap (parts_of (stack_forms x.stack)) (locals-made x.locals x.lines x.end_labels x.catches (with_methods methods) cs)
    ∙ stack-made x.stack x.locals x.lines x.end_labels x.catches (with_methods methods) cs)

methods-made : (methods : List PlainMethodText) (cs : List PlainClassText) → parts_of (flat_map method_forms methods) (ready no_members cs) ≡ ready (with_methods methods) cs
methods-made [] cs = none-made (ready no_members cs)
methods-made (x ∷ methods) cs =
    made-append (method_forms x) (flat_map method_forms methods) (ready no_members cs)
    ∙ ap (parts_of (method_forms x)) (methods-made methods cs) ∙ method-made x methods cs

-- ---- a class

abbrev members : List NameAt → List PlainFieldText → List PlainMethodText → PlainMembers
members implements fields methods = record { super_line = 0; super_name = []; implements = implements; fields = fields; methods = methods }

fields-made : (fields : List PlainFieldText) (methods : List PlainMethodText) (cs : List PlainClassText) → parts_of (map (λ f. form.Field f) fields) (ready (members [] [] methods) cs) ≡ ready (members [] fields methods) cs
fields-made [] methods cs = none-made (ready (members [] [] methods) cs)
fields-made (f ∷ fields) methods cs = made-on (form.Field f) (map (λ g. form.Field g) fields) (ready (members [] [] methods) cs) (ready (members [] fields methods) cs) (fields-made fields methods cs)

implements-made : (implements : List NameAt) (fields : List PlainFieldText) (methods : List PlainMethodText) (cs : List PlainClassText) → parts_of (map (λ n. form.Implements n) implements) (ready (members [] fields methods) cs) ≡ ready (members implements fields methods) cs
implements-made [] fields methods cs = none-made (ready (members [] fields methods) cs)
implements-made (n ∷ implements) fields methods cs = made-on (form.Implements n) (map (λ x. form.Implements x) implements) (ready (members [] fields methods) cs) (ready (members implements fields methods) cs) (implements-made implements fields methods cs)

members-made : (c : PlainClassText) (cs : List PlainClassText) → parts_of (member_forms c) (ready no_members cs) ≡ ready (members c.implements c.fields c.methods) cs
members-made c cs =
    made-append (map (λ n. form.Implements n) c.implements ++ map (λ f. form.Field f) c.fields) (flat_map method_forms c.methods) (ready no_members cs)
    ∙ ap (parts_of (map (λ n. form.Implements n) c.implements ++ map (λ f. form.Field f) c.fields)) (methods-made c.methods cs)
    ∙ made-append (map (λ n. form.Implements n) c.implements) (map (λ f. form.Field f) c.fields) (ready (with_methods c.methods) cs)
    ∙ ap (parts_of (map (λ n. form.Implements n) c.implements)) (fields-made c.fields c.methods cs)
    ∙ implements-made c.implements c.fields c.methods cs

named-made : (c : PlainClassText) (cs : List PlainClassText) → parts_of (named_forms c) (ready no_members cs) ≡ ready no_members (c ∷ cs)
named-made c cs =
    more-made (form.Class (empty_class c.line c.flags c.name)) (form.Super (super_of c) ∷ member_forms c) (ready no_members cs)
    ∙ ap (with_form (form.Class (empty_class c.line c.flags c.name))) (more-made (form.Super (super_of c)) (member_forms c) (ready no_members cs) ∙ ap (with_form (form.Super (super_of c))) (members-made c cs))

interface-made : (line : ℕ) (cs : List PlainClassText) → parts_of (class_forms (empty_class line [] [])) (ready no_members cs) ≡ ready no_members (empty_class line [] [] ∷ cs)
interface-made line cs = made-one (form.Interface line) (ready no_members cs)

class-made : (c : PlainClassText) (cs : List PlainClassText) → IsGoodClass c → parts_of (class_forms c) (ready no_members cs) ≡ ready no_members (c ∷ cs)
class-made c cs (Interface e) = subst (λ (x : PlainClassText). parts_of (class_forms x) (ready no_members cs) ≡ ready no_members (x ∷ cs)) (sym e) (interface-made c.line cs)
class-made c cs (Named h) = ap (λ (b : Bool). parts_of (named_or c b) (ready no_members cs)) h.filled ∙ named-made c cs

classes-made : (classes : List PlainClassText) → AllByRecursion IsGoodClass classes → parts_of (forms_of classes) no_parts ≡ ready no_members classes
classes-made [] h = none-made no_parts
classes-made (c ∷ classes) h =
    made-append (class_forms c) (forms_of classes) no_parts ∙ ap (parts_of (class_forms c)) (classes-made classes h.1) ∙ class-made c classes h.0

pub classes-again : (classes : List PlainClassText) → AllByRecursion IsGoodClass classes → classes_of (forms_of classes) ≡ classes
classes-again classes h = ap classes_in (classes-made classes h)
