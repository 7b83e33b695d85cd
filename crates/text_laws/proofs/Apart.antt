-- Two canonical texts are the same exactly if their classes are alike.
use Rattle.std.proofs.Common.{◌≡◌, ℕ, List, [], ◌∷◌, ◌++◌, Ok, cond, map, nat_eq, length, refl, ap, sym, ◌∙◌, subst}
use Rattle.std.specs.Prelude.{codes}
use Rattle.std.specs.List.{flat_map}
use Rattle.jasmin_text.specs.declared.token.Token.{Token}
use Rattle.jasmin_writer.specs.Canonical.{label_line, code_lines, catch_line, begun, method_head, method_limits, method_body, method_lines, field_line, name_line, implements_line, members, class_lines, class_text, canonical}
use Rattle.jasmin_lines.specs.Plain.{PlainFieldText, PlainMethodText, PlainClassText}
use Rattle.jasmin_reader.specs.Reading.{reading}
use Rattle.text_laws.specs.Alike.{name_without_line, catch_without_line, code_without_line, field_without_line, method_without_lines, without_lines, AreAlike, ReadsAlike}

flat-same : {A : Type 0} (f : A → List ℕ) (g : A → A) → ((x : A) → f (g x) ≡ f x) → (xs : List A) → flat_map f (map g xs) ≡ flat_map f xs
flat-same f g same [] = refl
flat-same f g same (x ∷ xs) = ap (λ (y : List ℕ). y ++ flat_map f (map g xs)) (same x) ∙ ap (λ (y : List ℕ). f x ++ y) (flat-same f g same xs)

head-same : (m : PlainMethodText) → method_head (method_without_lines m) ≡ method_head m
unfolding method_head
head-same m = refl

limits-same : (m : PlainMethodText) → method_limits (method_without_lines m) ≡ method_limits m
unfolding method_limits
limits-same m = refl

body-same : (m : PlainMethodText) → method_body (method_without_lines m) ≡ method_body m
unfolding method_body
body-same m =
    ap (λ (y : List ℕ). y ++ flat_map label_line m.end_labels ++ flat_map catch_line (map catch_without_line m.catches)) (flat-same code_lines code_without_line (λ l. refl) m.lines)
    ∙ ap (λ (y : List ℕ). flat_map code_lines m.lines ++ flat_map label_line m.end_labels ++ y) (flat-same catch_line catch_without_line (λ c. refl) m.catches)

method-same : (m : PlainMethodText) → method_lines (method_without_lines m) ≡ method_lines m
unfolding method_lines
method-same m =
    ap (λ (y : List ℕ). y ++ method_limits (method_without_lines m) ++ method_body (method_without_lines m) ++ codes ".end method" ++ (10 ∷ [])) (head-same m)
    ∙ ap (λ (y : List ℕ). method_head m ++ y ++ method_body (method_without_lines m) ++ codes ".end method" ++ (10 ∷ [])) (limits-same m)
    ∙ ap (λ (y : List ℕ). method_head m ++ method_limits m ++ y ++ codes ".end method" ++ (10 ∷ [])) (body-same m)

field-same : (f : PlainFieldText) → field_line (field_without_line f) ≡ field_line f
unfolding field_line
field-same f = refl

members-same : (c : PlainClassText) → members (without_lines c) ≡ members c
unfolding members
members-same c =
    ap (λ (y : List ℕ). y ++ flat_map field_line (map field_without_line c.fields) ++ flat_map method_lines (map method_without_lines c.methods)) (flat-same implements_line name_without_line (λ n. refl) c.implements)
    ∙ ap (λ (y : List ℕ). flat_map implements_line c.implements ++ y ++ flat_map method_lines (map method_without_lines c.methods)) (flat-same field_line field_without_line field-same c.fields)
    ∙ ap (λ (y : List ℕ). flat_map implements_line c.implements ++ flat_map field_line c.fields ++ y) (flat-same method_lines method_without_lines method-same c.methods)

class-same : (c : PlainClassText) → class_lines (without_lines c) ≡ class_lines c
unfolding class_lines
class-same c = ap (λ (y : List ℕ). begun (codes ".class") c.flags ++ c.name ++ (10 ∷ []) ++ name_line (codes ".super ") c.super_name ++ y) (members-same c)

text-same : (c : PlainClassText) → class_text (without_lines c) ≡ class_text c
text-same c = ap (λ (y : List ℕ). cond (nat_eq (length c.name) 0) (codes ".interface" ++ (10 ∷ [])) y) (class-same c)

all-same : (classes : List PlainClassText) → canonical (map without_lines classes) ≡ canonical classes
unfolding canonical
all-same classes = flat-same class_text without_lines text-same classes

pub alike-same : (classes others : List PlainClassText) → AreAlike classes others → canonical classes ≡ canonical others
alike-same classes others e = sym (all-same classes) ∙ ap canonical e ∙ all-same others

-- one text reads as one list of classes
one-reading : (text : List ℕ) (classes others : List PlainClassText) → ReadsAlike text classes → ReadsAlike text others → AreAlike classes others
one-reading text classes others a b =
    let tokens : a.0 ≡ b.0 = cc (a.2, b.2) in
    let second : reading text a.0 ≡ Ok b.1 = subst (λ (ts : List Token). reading text ts ≡ Ok b.1) (sym tokens) b.3 in
    let read : a.1 ≡ b.1 = cc (a.3, second) in
    sym a.4 ∙ ap (map without_lines) read ∙ b.4

pub same-alike : (classes others : List PlainClassText) → ReadsAlike (canonical classes) classes → ReadsAlike (canonical others) others → canonical classes ≡ canonical others → AreAlike classes others
same-alike classes others a b e = one-reading (canonical others) classes others (subst (λ (x : List ℕ). ReadsAlike x classes) e a) b
