-- The canonical text of classes that were read reads as the same classes in all but line numbers.
use Rattle.std.proofs.Common.{◌≡◌, ℕ, Bool, List, [], ◌∷◌, ◌++◌, Option, Some, None, Ok, map, refl, ap, sym, ◌∙◌, subst}
use Rattle.std.specs.Prelude.{codes}
use Rattle.std.specs.List.{AllByRecursion, flat_map}
use Rattle.jasmin_text.specs.declared.token.Token.{Token}
use Rattle.jasmin_text.specs.Texts.{tokens_of}
use Rattle.jasmin_lines.specs.declared.form.Form.{Form}
use Rattle.jasmin_lines.specs.declared.form.Form.TheVariants as form
use Rattle.jasmin_lines.specs.declared.lexeme.Lexeme.TheVariants as lexeme
use Rattle.jasmin_writer.specs.Canonical.{canonical}
use Rattle.jasmin_lines.specs.Plain.{PlainLineText, PlainMethodText, PlainClassText}
use Rattle.jasmin_lines.specs.Lexemes.{lines_after}
use Rattle.jasmin_lines.specs.Directives.{end_form}
use Rattle.jasmin_lines.specs.Forms.{form_of}
use Rattle.jasmin_reader.specs.Grammar.{nothing_begun}
use Rattle.jasmin_reader.specs.Assembly.{no_parts, parts_of, classes_of}
use Rattle.jasmin_reader.specs.Reading.{forms_after, last_line, reading}
use Rattle.text_laws.specs.Spelled.{spelled, IsSpellableLine, numbered}
use Rattle.text_laws.specs.Alike.{HasLines, ReadsAlike, without_lines}
use Rattle.text_laws.proofs.CanonicalForms.{words_of, unlabelled, line_forms, stack_forms, locals_forms, label_forms, catch_forms, body_forms, limit_forms, head_form, method_forms, member_forms, class_forms, forms_of, named_or}
use Rattle.text_laws.proofs.Again.{IsAgain}
use Rattle.text_laws.proofs.Names.{good-word}
use Rattle.text_laws.proofs.Flags.{all-joined, all-mapped, all-by}
use Rattle.text_laws.proofs.Good.{IsLabel, IsGoodLine, IsStack, IsLocals, IsGoodMethod, IsGoodNamed, IsGoodClass, Interface, Named}
use Rattle.text_laws.proofs.GoodParts.{AreGoodParts, forms-good}
use Rattle.text_laws.proofs.ReadAgain.{renumbered, forms-read}
use Rattle.text_laws.proofs.Bare.{classes-alike}
use Rattle.text_laws.proofs.Assembled.{classes-again}
use Rattle.text_laws.proofs.Placed.{all-placed}
use Rattle.text_laws.proofs.Written.{canonical-spelled}
use Rattle.text_laws.proofs.Lines.{has-lines}
use Rattle.text_laws.proofs.Found.{text-found}
use Rattle.text_laws.proofs.Successes.{Holds, behind, step}

-- ---- each form of good classes is read again

interface-read : (n : ℕ) → form_of n (lexeme.Word (codes ".interface") ∷ []) ≡ Ok (form.Interface n)
unfolding form_of
interface-read n = refl

interface-again : (line : ℕ) → IsAgain (form.Interface line)
interface-again line = record { fit = (good-word (codes ".interface") refl, tt); read = λ n. interface-read n }

end-read : (n : ℕ) → form_of n (lexeme.Word (codes ".end") ∷ lexeme.Word (codes "method") ∷ []) ≡ Ok form.End
unfolding form_of end_form
end-read n = refl

end-again : IsAgain form.End
end-again = record { fit = (good-word (codes ".end") refl, (good-word (codes "method") refl, tt)); read = λ n. end-read n }

all-flat : {A : Type 0} (P : Form → Type 0) (g : A → List Form) (xs : List A) → AllByRecursion (λ x. AllByRecursion P (g x)) xs → AllByRecursion P (flat_map g xs)
all-flat P g [] h = tt
all-flat P g (x ∷ xs) h = all-joined P (g x) (flat_map g xs) h.0 (all-flat P g xs h.1)

abbrev AllAgain : List Form → Type 0
AllAgain forms = AllByRecursion IsAgain forms

labels-again : (labels : List (List ℕ)) → AllByRecursion IsLabel labels → AllAgain (label_forms labels)
labels-again labels h = all-mapped IsAgain (λ label. form.Label label) labels h

line-again : (l : PlainLineText) → IsGoodLine l → AllAgain (line_forms l)
line-again l h = all-joined IsAgain (label_forms l.labels) (form.Code (unlabelled l) ∷ []) (labels-again l.labels h.labels) (h.code, tt)

stack-again : (o : Option ℕ) → IsStack o → AllAgain (stack_forms o)
stack-again None h = tt
stack-again (Some n) h = (h, tt)

locals-again : (o : Option ℕ) → IsLocals o → AllAgain (locals_forms o)
locals-again None h = tt
locals-again (Some n) h = (h, tt)

method-again : (m : PlainMethodText) → IsGoodMethod m → AllAgain (method_forms m)
method-again m h =
    let lines : AllAgain (flat_map line_forms m.lines) = all-flat IsAgain line_forms m.lines (all-by IsGoodLine (λ l. AllAgain (line_forms l)) line-again m.lines h.body.lines) in
    let catches : AllAgain (catch_forms m.catches) = all-mapped IsAgain (λ c. form.Catch c) m.catches h.body.catches in
    let body : AllAgain (body_forms m) = all-joined IsAgain (flat_map line_forms m.lines ++ label_forms m.end_labels) (catch_forms m.catches) (all-joined IsAgain (flat_map line_forms m.lines) (label_forms m.end_labels) lines (labels-again m.end_labels h.body.ends)) catches in
    let limits : AllAgain (limit_forms m) = all-joined IsAgain (stack_forms m.stack) (locals_forms m.locals) (stack-again m.stack h.body.stack) (locals-again m.locals h.body.locals) in
    all-joined IsAgain ((head_form m ∷ []) ++ limit_forms m ++ body_forms m) (form.End ∷ []) (all-joined IsAgain ((head_form m ∷ []) ++ limit_forms m) (body_forms m) (h.head, limits) body) (end-again, tt)

members-again : (c : PlainClassText) → IsGoodNamed c → AllAgain (member_forms c)
members-again c h =
    let implements : AllAgain (map (λ n. form.Implements n) c.implements) = all-mapped IsAgain (λ n. form.Implements n) c.implements h.members.implements in
    let fields : AllAgain (map (λ f. form.Field f) c.fields) = all-mapped IsAgain (λ f. form.Field f) c.fields h.members.fields in
    let methods : AllAgain (flat_map method_forms c.methods) = all-flat IsAgain method_forms c.methods (all-by IsGoodMethod (λ m. AllAgain (method_forms m)) method-again c.methods h.members.methods) in
    all-joined IsAgain (map (λ n. form.Implements n) c.implements ++ map (λ f. form.Field f) c.fields) (flat_map method_forms c.methods) (all-joined IsAgain (map (λ n. form.Implements n) c.implements) (map (λ f. form.Field f) c.fields) implements fields) methods

class-again : (c : PlainClassText) → IsGoodClass c → AllAgain (class_forms c)
class-again c (Interface e) = subst (λ (x : PlainClassText). AllAgain (class_forms x)) (sym e) (interface-again c.line, tt)
class-again c (Named h) = subst (λ (b : Bool). AllAgain (named_or c b)) (sym h.filled) (h.head, (h.super, members-again c h))

classes-are-again : (classes : List PlainClassText) → AllByRecursion IsGoodClass classes → AllAgain (forms_of classes)
classes-are-again classes good = all-flat IsAgain class_forms classes (all-by IsGoodClass (λ c. AllAgain (class_forms c)) class-again classes good)

lines-fit : (fs : List Form) → AllAgain fs → AllByRecursion IsSpellableLine (map words_of fs)
lines-fit [] h = tt
lines-fit (f ∷ fs) h = (h.0.fit, lines-fit fs h.1)

-- ---- what was read

classes-good : (text : List ℕ) (tokens : List Token) (classes : List PlainClassText) → tokens_of text ≡ Ok tokens → reading text tokens ≡ Ok classes → AllByRecursion IsGoodClass classes
unfolding reading
classes-good text tokens classes e r =
    subst (Holds (AllByRecursion IsGoodClass)) r
    (behind (AllByRecursion IsGoodClass) (forms_after (last_line tokens) nothing_begun (lines_after text [] tokens)) (λ forms. Ok (classes_of forms))
    (λ (forms : List Form) (f : forms_after (last_line tokens) nothing_begun (lines_after text [] tokens) ≡ Ok forms).
    let good : AreGoodParts nothing_begun (parts_of forms no_parts) = subst (Holds (λ fs. AreGoodParts nothing_begun (parts_of fs no_parts))) f (forms-good (last_line tokens) nothing_begun (lines_after text [] tokens) (text-found text tokens e)) in
    good.classes))

-- ---- what is read again

forms-reading : (text : List ℕ) (tokens : List Token) (forms : List Form) → forms_after (last_line tokens) nothing_begun (lines_after text [] tokens) ≡ Ok forms → reading text tokens ≡ Ok (classes_of forms)
unfolding reading
forms-reading text tokens forms e = step (forms_after (last_line tokens) nothing_begun (lines_after text [] tokens)) (λ fs. Ok (classes_of fs)) forms e

forms-alike : (fs : List Form) (classes : List PlainClassText) → AllAgain fs → ((last : ℕ) → forms_after last nothing_begun (numbered 1 (map words_of fs)) ≡ Ok (renumbered 1 fs)) → classes_of fs ≡ classes → ReadsAlike (spelled (map words_of fs)) classes
forms-alike fs classes again read same =
    let found : HasLines (spelled (map words_of fs)) (map words_of fs) = has-lines (map words_of fs) (lines-fit fs again) in (
      found.0,
      classes_of (renumbered 1 fs),
      found.1,
      forms-reading (spelled (map words_of fs)) found.0 (renumbered 1 fs) (ap (forms_after (last_line found.0) nothing_begun) found.2 ∙ read (last_line found.0)),
      classes-alike 1 fs ∙ ap (map without_lines) same,
    )

pub reads-the-same : (text : List ℕ) (tokens : List Token) (classes : List PlainClassText) → tokens_of text ≡ Ok tokens → reading text tokens ≡ Ok classes → ReadsAlike (canonical classes) classes
reads-the-same text tokens classes e r =
    let good : AllByRecursion IsGoodClass classes = classes-good text tokens classes e r in
    let again : AllAgain (forms_of classes) = classes-are-again classes good in
    subst (λ (x : List ℕ). ReadsAlike x classes) (sym (canonical-spelled classes))
    (forms-alike (forms_of classes) classes again (λ last. forms-read last 1 nothing_begun (forms_of classes) again (all-placed classes good)) (classes-again classes good))
