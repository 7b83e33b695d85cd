-- A canonical text is the lines of its forms, spelled.
use Rattle.std.proofs.Common.{◌≡◌, ℕ, Bool, true, false, List, [], ◌∷◌, ◌++◌, Option, Some, None, ℤ, length, map, refl, ap, sym, ◌∙◌, cond, nat_eq, decimal}
use Rattle.std.specs.Prelude.{codes}
use Rattle.std.specs.List.{flat_map}
use Rattle.std.proofs.lemmas.List.{append_assoc, append-nil}
use Rattle.std.proofs.lemmas.Grind.{flat_map-append}
use Rattle.std.proofs.lemmas.List.Folds.{flat_map-map}
use Rattle.jasmin_lines.specs.declared.class_text.Operand.{Operand}
use Rattle.jasmin_lines.specs.declared.class_text.Operand.TheVariants as operand
use Rattle.jasmin_lines.specs.declared.class_text.NameAt.{NameAt}
use Rattle.jasmin_lines.specs.declared.class_text.CatchText.{CatchText}
use Rattle.jasmin_lines.specs.declared.form.Form.{Form}
use Rattle.jasmin_lines.specs.declared.form.Form.TheVariants as form
use Rattle.jasmin_lines.specs.declared.lexeme.Lexeme.{Lexeme}
use Rattle.jasmin_lines.specs.declared.lexeme.Lexeme.TheVariants as lexeme
use Rattle.jasmin_lines.specs.Directives.{empty_class}
use Rattle.jasmin_lines.specs.Plain.{PlainLineText, PlainFieldText, PlainMethodText, PlainClassText}
use Rattle.jasmin_writer.specs.Canonical.{spaced_operand, spaced_word, label_line, code_lines, catch_line, limit_line, begun, method_head, method_limits, method_body, method_lines, value_text, field_line, name_line, implements_line, members, class_lines, class_text, canonical}
use Rattle.text_laws.specs.Spelled.{spaced, spelled_line, spelled}
use Rattle.text_laws.proofs.CanonicalForms.{word, operand_word, value_words, words_of, written, unlabelled, line_forms, stack_forms, locals_forms, label_forms, catch_forms, body_forms, limit_forms, head_form, method_forms, super_of, member_forms, named_forms, class_forms, forms_of}

-- ---- lists of lines

abbrev line_of : Form → List ℕ
line_of f = spelled_line (words_of f)

written-append : (xs ys : List Form) → written (xs ++ ys) ≡ written xs ++ written ys
written-append xs ys = flat_map-append line_of xs ys

each-line : {A : Type 0} (g : A → Form) (h : A → List ℕ) → ((x : A) → h x ≡ line_of (g x)) → (xs : List A) → flat_map h xs ≡ written (map g xs)
each-line g h same [] = refl
each-line g h same (x ∷ xs) = rw (same x, each-line g h same xs) refl

each-lines : {A : Type 0} (g : A → List Form) (h : A → List ℕ) → ((x : A) → h x ≡ written (g x)) → (xs : List A) → flat_map h xs ≡ written (flat_map g xs)
each-lines g h same [] = refl
each-lines g h same (x ∷ xs) = rw (same x, each-lines g h same xs) (sym (written-append (g x) (flat_map g xs)))

one-line : (f : Form) → written (f ∷ []) ≡ line_of f
one-line f = append-nil (line_of f)

-- ---- lines

label-line : (label : List ℕ) → label_line label ≡ line_of (form.Label label)
label-line label = simp (append_assoc, append-nil)

spaced-operand : (x : Operand) → spaced_operand x ≡ spaced (operand_word x)
spaced-operand (operand.Number n) = refl
spaced-operand (operand.Word bytes) = refl
spaced-operand (operand.Text text) = refl

spaced-operands : (xs : List Operand) → flat_map spaced_operand xs ≡ flat_map spaced (map operand_word xs)
spaced-operands [] = refl
spaced-operands (x ∷ xs) = ap (λ (y : List ℕ). y ++ flat_map spaced_operand xs) (spaced-operand x) ∙ ap (λ (y : List ℕ). spaced (operand_word x) ++ y) (spaced-operands xs)

spaced-words : (xs : List (List ℕ)) → flat_map spaced_word xs ≡ flat_map spaced (map word xs)
spaced-words [] = refl
spaced-words (x ∷ xs) = rw (spaced-words xs) refl

code-line : (l : PlainLineText) → code_lines l ≡ written (line_forms l)
code-line l =
    append_assoc (flat_map label_line l.labels ++ l.word) (flat_map spaced_operand l.operands) (10 ∷ [])
    ∙ append_assoc (flat_map label_line l.labels) l.word (flat_map spaced_operand l.operands ++ 10 ∷ [])
    ∙ ap (λ (x : List ℕ). x ++ (l.word ++ (flat_map spaced_operand l.operands ++ 10 ∷ []))) (each-line (λ label. form.Label label) label_line label-line l.labels)
    ∙ ap (λ (x : List ℕ). written (label_forms l.labels) ++ (l.word ++ (x ++ 10 ∷ []))) (spaced-operands l.operands)
    ∙ ap (λ (x : List ℕ). written (label_forms l.labels) ++ x) (sym (append_assoc l.word (flat_map spaced (map operand_word l.operands)) (10 ∷ [])) ∙ sym (one-line (form.Code (unlabelled l))))
    ∙ sym (written-append (label_forms l.labels) (form.Code (unlabelled l) ∷ []))

catch-plain : (a b c d : List ℕ) → codes ".catch " ++ a ++ codes " from " ++ b ++ codes " to " ++ c ++ codes " using " ++ d ++ 10 ∷ [] ≡ codes ".catch" ++ (32 ∷ (a ++ (codes " from" ++ (32 ∷ (b ++ (codes " to" ++ (32 ∷ (c ++ (codes " using" ++ (32 ∷ (d ++ []))))))))))) ++ 10 ∷ []
catch-plain a b c d = simp (append_assoc, append-nil)

catch-line : (c : CatchText) → catch_line c ≡ line_of (form.Catch c)
catch-line c = catch-plain c.class c.from c.to c.using

stack-line : (o : Option ℕ) → limit_line (codes ".limit stack ") o ≡ written (stack_forms o)
stack-line None = refl
stack-line (Some n) = ap (λ (x : List ℕ). codes ".limit stack " ++ x ++ 10 ∷ []) (sym (append-nil (decimal n))) ∙ sym (one-line (form.StackLimit n))

locals-line : (o : Option ℕ) → limit_line (codes ".limit locals ") o ≡ written (locals_forms o)
locals-line None = refl
locals-line (Some n) = ap (λ (x : List ℕ). codes ".limit locals " ++ x ++ 10 ∷ []) (sym (append-nil (decimal n))) ∙ sym (one-line (form.LocalsLimit n))

begun-words : (directive : List ℕ) (flags : List (List ℕ)) (ws : List Lexeme) (more : List ℕ) → flat_map spaced ws ≡ 32 ∷ more → begun directive flags ++ more ≡ directive ++ flat_map spaced (map word flags ++ ws)
unfolding begun
begun-words directive flags ws more e =
    append_assoc (directive ++ flat_map spaced_word flags) (32 ∷ []) more
    ∙ append_assoc directive (flat_map spaced_word flags) (32 ∷ more)
    ∙ ap (λ (x : List ℕ). directive ++ (x ++ 32 ∷ more)) (spaced-words flags)
    ∙ ap (λ (x : List ℕ). directive ++ (flat_map spaced (map word flags) ++ x)) (sym e)
    ∙ ap (λ (x : List ℕ). directive ++ x) (sym (flat_map-append spaced (map word flags) ws))

method-line : (m : PlainMethodText) → method_head m ≡ line_of (head_form m)
unfolding method_head
method-line m =
    ap (λ (x : List ℕ). x ++ 10 ∷ []) (append_assoc (begun (codes ".method") m.flags) m.name m.desc ∙ begun-words (codes ".method") m.flags (lexeme.Word (m.name ++ m.desc) ∷ []) (m.name ++ m.desc) (simp append-nil))

value-text : (o : Option ℤ) → value_text o ≡ flat_map spaced (value_words o)
value-text None = refl
value-text (Some n) = simp append-nil

field-line : (f : PlainFieldText) → field_line f ≡ line_of (form.Field f)
unfolding field_line
field-line f =
    let last : flat_map spaced (lexeme.Word f.name ∷ lexeme.Word f.desc ∷ value_words f.value) ≡ 32 ∷ (f.name ++ (32 ∷ (f.desc ++ value_text f.value))) = ap (λ (x : List ℕ). 32 ∷ (f.name ++ (32 ∷ (f.desc ++ x)))) (sym (value-text f.value)) in
    let grouped : begun (codes ".field") f.flags ++ f.name ++ codes " " ++ f.desc ++ value_text f.value ≡ begun (codes ".field") f.flags ++ (f.name ++ (32 ∷ (f.desc ++ value_text f.value))) = simp append_assoc in
    ap (λ (x : List ℕ). x ++ 10 ∷ []) (grouped ∙ begun-words (codes ".field") f.flags (lexeme.Word f.name ∷ lexeme.Word f.desc ∷ value_words f.value) (f.name ++ (32 ∷ (f.desc ++ value_text f.value))) last)

class-line : (flags : List (List ℕ)) (name : List ℕ) → begun (codes ".class") flags ++ name ++ 10 ∷ [] ≡ codes ".class" ++ flat_map spaced (map word flags ++ lexeme.Word name ∷ []) ++ 10 ∷ []
class-line flags name = ap (λ (x : List ℕ). x ++ 10 ∷ []) (begun-words (codes ".class") flags (lexeme.Word name ∷ []) name (simp append-nil))

super-line : (n : NameAt) → name_line (codes ".super ") n.name ≡ line_of (form.Super n)
unfolding name_line
super-line n = ap (λ (x : List ℕ). codes ".super " ++ x ++ 10 ∷ []) (sym (append-nil n.name))

implements-line : (n : NameAt) → implements_line n ≡ line_of (form.Implements n)
unfolding name_line
implements-line n = ap (λ (x : List ℕ). codes ".implements " ++ x ++ 10 ∷ []) (sym (append-nil n.name))

-- ---- methods and classes

method-limits : (m : PlainMethodText) → method_limits m ≡ written (limit_forms m)
unfolding method_limits
method-limits m = rw (stack-line m.stack, locals-line m.locals) (sym (written-append (stack_forms m.stack) (locals_forms m.locals)))

method-body : (m : PlainMethodText) → method_body m ≡ written (body_forms m)
unfolding method_body
method-body m =
    let labels : flat_map label_line m.end_labels ≡ written (label_forms m.end_labels) = each-line (λ label. form.Label label) label_line label-line m.end_labels in
    let catches : flat_map catch_line m.catches ≡ written (catch_forms m.catches) = each-line (λ c. form.Catch c) catch_line catch-line m.catches in
    rw (each-lines line_forms code_lines code-line m.lines, labels, catches)
    (ap (λ (x : List ℕ). x ++ written (catch_forms m.catches)) (sym (written-append (flat_map line_forms m.lines) (label_forms m.end_labels))) ∙ sym (written-append (flat_map line_forms m.lines ++ label_forms m.end_labels) (catch_forms m.catches)))

method-written : (m : PlainMethodText) → method_lines m ≡ written (method_forms m)
unfolding method_lines
method-written m =
    let end : codes ".end method" ++ 10 ∷ [] ≡ written (form.End ∷ []) = refl in
    let front : method_head m ++ method_limits m ≡ written ((head_form m ∷ []) ++ limit_forms m) = rw (method-line m, method-limits m) (ap (λ (x : List ℕ). x ++ written (limit_forms m)) (sym (one-line (head_form m))) ∙ sym (written-append (head_form m ∷ []) (limit_forms m))) in
    append_assoc (method_head m ++ method_limits m ++ method_body m) (codes ".end method") (10 ∷ [])
    ∙ ap (λ (x : List ℕ). x ++ method_body m ++ written (form.End ∷ [])) front
    ∙ ap (λ (x : List ℕ). written ((head_form m ∷ []) ++ limit_forms m) ++ x ++ written (form.End ∷ [])) (method-body m)
    ∙ ap (λ (x : List ℕ). x ++ written (form.End ∷ [])) (sym (written-append ((head_form m ∷ []) ++ limit_forms m) (body_forms m)))
    ∙ sym (written-append ((head_form m ∷ []) ++ limit_forms m ++ body_forms m) (form.End ∷ []))

members-written : (c : PlainClassText) → members c ≡ written (member_forms c)
unfolding members
members-written c =
    let implements : flat_map implements_line c.implements ≡ written (map (λ n. form.Implements n) c.implements) = each-line (λ n. form.Implements n) implements_line implements-line c.implements in
    let fields : flat_map field_line c.fields ≡ written (map (λ f. form.Field f) c.fields) = each-line (λ f. form.Field f) field_line field-line c.fields in
    rw (implements, fields, each-lines method_forms method_lines method-written c.methods)
    (ap (λ (x : List ℕ). x ++ written (flat_map method_forms c.methods)) (sym (written-append (map (λ n. form.Implements n) c.implements) (map (λ f. form.Field f) c.fields)))
    ∙ sym (written-append (map (λ n. form.Implements n) c.implements ++ map (λ f. form.Field f) c.fields) (flat_map method_forms c.methods)))

class-written : (c : PlainClassText) → class_lines c ≡ written (named_forms c)
unfolding class_lines
class-written c =
    rw (class-line c.flags c.name, super-line (super_of c), members-written c)
    (append_assoc (line_of (form.Class (empty_class c.line c.flags c.name))) (line_of (form.Super (super_of c))) (written (member_forms c)))

text-written : (c : PlainClassText) → class_text c ≡ written (class_forms c)
text-written c = by_name (nat_eq (length c.name) 0)
  where
    by_name : (b : Bool) → cond b (codes ".interface" ++ 10 ∷ []) (class_lines c) ≡ written (cond b (form.Interface c.line ∷ []) (named_forms c))
    by_name true = refl
    by_name false = class-written c

pub canonical-written : (classes : List PlainClassText) → canonical classes ≡ written (forms_of classes)
unfolding canonical
canonical-written classes = each-lines class_forms class_text text-written classes

-- the same as lines of words
pub canonical-spelled : (classes : List PlainClassText) → canonical classes ≡ spelled (map words_of (forms_of classes))
canonical-spelled classes = canonical-written classes ∙ sym (flat_map-map spelled_line words_of (forms_of classes))
