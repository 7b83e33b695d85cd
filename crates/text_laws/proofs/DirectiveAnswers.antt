-- A line that begins with a dot is read where its words follow the rules, and has a bad name where only that is wrong.
use Rattle.std.proofs.Common.{◌≡◌, ℕ, Bool, true, ◌&&◌, List, [], ◌∷◌, ◌++◌, Option, Some, None, Result, Ok, refl, ap, sym, ◌∙◌, subst, ℤ, pos}
use Rattle.std.specs.Prelude.{Contains, codes}
use Rattle.vm_model.specs.Failures.{◌>>=◌}
use Rattle.jasmin_lines.specs.declared.class_text.NameAt.{NameAt}
use Rattle.jasmin_lines.specs.declared.fault.ReadKind.{ReadKind}
use Rattle.jasmin_lines.specs.declared.form.Form.{Form}
use Rattle.jasmin_lines.specs.declared.form.Form.TheVariants as form
use Rattle.jasmin_lines.specs.declared.lexeme.Lexeme.{Lexeme}
use Rattle.jasmin_lines.specs.declared.lexeme.Lexeme.TheVariants as lexeme
use Rattle.jasmin_lines.specs.Words.{in_range, is_name, is_class_name, is_method_name, described}
use Rattle.jasmin_lines.specs.Directives.{class_flags, field_flags, method_flags, split_last, source_form, class_form, name_at, after_sign, valued_by, valued, field_of, field_form, method_form, limit_form, end_form, catch_of, catch_form, directive_form}
use Rattle.text_laws.specs.WordRules.{HasFlags, bare_class, bare_method, flags_of_classes, flags_of_fields, flags_of_methods, IsDescribed, IsFrom, directives, FollowsDirective, Source, Bytecode, Interface, Class, Super, Implements, Field, ValuedField, Method, StackLimit, LocalsLimit, Line, Var, Throws, Catch, End}
use Rattle.text_laws.proofs.Successes.{split-again}
use Rattle.text_laws.proofs.WordParts.{described-again}
use Rattle.text_laws.proofs.WordSteps.{AnswersSo, known, last-name, more-names, in-range, flags-read}
use Rattle.text_laws.proofs.DirectiveRules.{answered, is-known}

-- the same of equal words and equal judgement
pub settled : {A : Type 0} (x y : A) (good other : Bool) (words others : List Lexeme) (read : List Lexeme → Result A ReadKind) → words ≡ others → x ≡ y → good ≡ other → AnswersSo y other (read others) → AnswersSo x good (read words)
settled x y good other words others read w s g h = rw (w, s, g) h

source-answers : (word : Lexeme) → AnswersSo form.Skipped true (source_form (word ∷ []))
unfolding source_form
source-answers word = refl

class-answers : (line : ℕ) (flags : List Lexeme) (kept : List (List ℕ)) (name : List ℕ) → HasFlags flags_of_classes flags kept → AnswersSo (form.Class (bare_class line kept name)) (is_class_name name) (class_form line (flags ++ lexeme.Word name ∷ []))
unfolding class_form
class-answers line flags kept name f =
    let said : Form = form.Class (bare_class line kept name) in
    known said (is_class_name name) (split_last (flags ++ lexeme.Word name ∷ [])) _ (flags, lexeme.Word name) (split-again flags (lexeme.Word name))
    (known said (is_class_name name) (class_flags flags) _ kept (flags-read flags_of_classes flags kept f)
    (last-name (is_class_name name) name (λ n. form.Class (bare_class line kept n))))

abbrev name_on : ℕ → List ℕ → NameAt
name_on line name = record { line = line; name = name }

name-answers : (line : ℕ) (name : List ℕ) → AnswersSo (name_on line name) (is_class_name name) (name_at line (lexeme.Word name ∷ []))
unfolding name_at
name-answers line name = last-name (is_class_name name) name (name_on line)

abbrev to_desc : List Lexeme → List ℕ → List ℕ → List Lexeme
to_desc flags name desc = flags ++ lexeme.Word name ∷ [] ++ lexeme.Word desc ∷ []

abbrev field_on : ℕ → List (List ℕ) → List ℕ → List ℕ → Option ℤ → Form
field_on line flags name desc value = form.Field (record { line = line; flags = flags; name = name; desc = desc; value = value })

field-of-answers : (line : ℕ) (flags : List Lexeme) (kept : List (List ℕ)) (name desc : List ℕ) (value : Option ℤ) → HasFlags flags_of_fields flags kept → AnswersSo (field_on line kept name desc value) (is_name name) (field_of line (to_desc flags name desc) value)
unfolding field_of
field-of-answers line flags kept name desc value f =
    let said : Form = field_on line kept name desc value in
    known said (is_name name) (split_last (to_desc flags name desc)) _ (flags ++ lexeme.Word name ∷ [], lexeme.Word desc) (split-again (flags ++ lexeme.Word name ∷ []) (lexeme.Word desc))
    (known said (is_name name) (split_last (flags ++ lexeme.Word name ∷ [])) _ (flags, lexeme.Word name) (split-again flags (lexeme.Word name))
    (known said (is_name name) (field_flags flags) _ kept (flags-read flags_of_fields flags kept f)
    (last-name (is_name name) name (λ n. field_on line kept n desc value))))

unvalued : (flags : List Lexeme) (name desc : List ℕ) → valued (to_desc flags name desc) ≡ (to_desc flags name desc, None)
unvalued flags name desc = ap (valued_by (to_desc flags name desc)) (split-again (flags ++ lexeme.Word name ∷ []) (lexeme.Word desc))

abbrev with_value : List Lexeme → ℤ → List Lexeme
with_value words n = words ++ lexeme.Word (codes "=") ∷ [] ++ lexeme.Number n ∷ []

with-value : (words : List Lexeme) (n : ℤ) → valued (with_value words n) ≡ (words, Some n)
with-value words n = ap (valued_by (with_value words n)) (split-again (words ++ lexeme.Word (codes "=") ∷ []) (lexeme.Number n)) ∙ ap (after_sign (with_value words n) n) (split-again words (lexeme.Word (codes "=")))

abbrev field_by : ℕ → List Lexeme × Option ℤ → Result Form ReadKind
field_by line v = field_of line v.0 v.1

method-answers : (line : ℕ) (flags : List Lexeme) (kept : List (List ℕ)) (bytes name desc : List ℕ) → HasFlags flags_of_methods flags kept → IsDescribed bytes name desc → AnswersSo (form.Method (bare_method line kept name desc)) (is_method_name name) (method_form line (flags ++ lexeme.Word bytes ∷ []))
unfolding method_form
method-answers line flags kept bytes name desc f d =
    let said : Form = form.Method (bare_method line kept name desc) in
    known said (is_method_name name) (split_last (flags ++ lexeme.Word bytes ∷ [])) _ (flags, lexeme.Word bytes) (split-again flags (lexeme.Word bytes))
    (known said (is_method_name name) (method_flags flags) _ kept (flags-read flags_of_methods flags kept f)
    (known said (is_method_name name) (described bytes) _ (name, desc) (described-again bytes name desc d)
    (last-name (is_method_name name) name (λ n. form.Method (bare_method line kept n desc)))))

stack-answers : (n : ℕ) → IsFrom (pos 0) (pos 2147483647) (pos n) → AnswersSo (form.StackLimit n) true (limit_form (lexeme.Word (codes "stack") ∷ lexeme.Number (pos n) ∷ []))
unfolding limit_form
stack-answers n h = known (form.StackLimit n) true (in_range (pos 0) (pos 2147483647) (pos n)) _ (pos n) (in-range (pos 0) (pos 2147483647) (pos n) h) refl

locals-answers : (n : ℕ) → IsFrom (pos 0) (pos 2147483647) (pos n) → AnswersSo (form.LocalsLimit n) true (limit_form (lexeme.Word (codes "locals") ∷ lexeme.Number (pos n) ∷ []))
unfolding limit_form
locals-answers n h = known (form.LocalsLimit n) true (in_range (pos 0) (pos 2147483647) (pos n)) _ (pos n) (in-range (pos 0) (pos 2147483647) (pos n) h) refl

abbrev catch_words : List ℕ → List ℕ → List ℕ → List ℕ → List Lexeme
catch_words class from to using = lexeme.Word class ∷ lexeme.Word (codes "from") ∷ lexeme.Word from ∷ lexeme.Word (codes "to") ∷ lexeme.Word to ∷ lexeme.Word (codes "using") ∷ lexeme.Word using ∷ []

abbrev catch_on : ℕ → List ℕ → List ℕ → List ℕ → List ℕ → Form
catch_on line class from to using = form.Catch (record { line = line; class = class; from = from; to = to; using = using })

catch-answers : (line : ℕ) (class from to using : List ℕ) → AnswersSo (catch_on line class from to using) (is_class_name class && (is_name from && (is_name to && is_name using))) (catch_form line (catch_words class from to using))
unfolding catch_of
catch-answers line class from to using =
    let said : Form = catch_on line class from to using in
    more-names said (is_class_name class) _ class _ (more-names said (is_name from) _ from _ (more-names said (is_name to) (is_name using) to _ (last-name (is_name using) using (catch_on line class from to))))

end-answers : AnswersSo form.End true (end_form (lexeme.Word (codes "method") ∷ []))
unfolding end_form
end-answers = refl

-- the reading by a directive that is known
by-directive : (f : Form) (good : Bool) (line : ℕ) (first d : List ℕ) (words : List Lexeme) → first ≡ d → AnswersSo f good (directive_form line d words) → AnswersSo f good (directive_form line first words)
by-directive f good line first d words e h = subst (λ (x : List ℕ). AnswersSo f good (directive_form line x words)) (sym e) h

-- what is said on a line
abbrev on : ℕ → (ℕ → Form) → Form
on line says = says line

pub directive-answers : (line : ℕ) (first : List ℕ) (words : List Lexeme) (says : ℕ → Form) (good : Bool) → FollowsDirective first words says good → AnswersSo (says line) good (directive_form line first words)
directive-answers line first words says good (Source word d w s g) = by-directive (says line) good line first (codes ".source") words d (settled (says line) form.Skipped good true words (word ∷ []) source_form w (ap (on line) s) g (source-answers word))
directive-answers line first words says good (Bytecode word d w s g) = by-directive (says line) good line first (codes ".bytecode") words d (settled (says line) form.Skipped good true words (word ∷ []) source_form w (ap (on line) s) g (source-answers word))
directive-answers line first words says good (Interface d s g) = by-directive (says line) good line first (codes ".interface") words d (settled (says line) (form.Interface line) good true words words (λ _. Ok (form.Interface line)) refl (ap (on line) s) g refl)
directive-answers line first words says good (Class flags kept name d f w s g) = by-directive (says line) good line first (codes ".class") words d (settled (says line) _ good (is_class_name name) words (flags ++ lexeme.Word name ∷ []) (class_form line) w (ap (on line) s) g (class-answers line flags kept name f))
directive-answers line first words says good (Super name d w s g) =
    by-directive (says line) good line first (codes ".super") words d
    (settled (says line) (form.Super (name_on line name)) good (is_class_name name) words (lexeme.Word name ∷ []) (λ ws. name_at line ws >>= λ x. Ok (form.Super x)) w (ap (on line) s) g
    (answered (name_on line name) (is_class_name name) (name_at line (lexeme.Word name ∷ [])) (λ x. form.Super x) (name-answers line name)))
directive-answers line first words says good (Implements name d w s g) =
    by-directive (says line) good line first (codes ".implements") words d
    (settled (says line) (form.Implements (name_on line name)) good (is_class_name name) words (lexeme.Word name ∷ []) (λ ws. name_at line ws >>= λ x. Ok (form.Implements x)) w (ap (on line) s) g
    (answered (name_on line name) (is_class_name name) (name_at line (lexeme.Word name ∷ [])) (λ x. form.Implements x) (name-answers line name)))
directive-answers line first words says good (Field flags kept name desc d f w s g) =
    by-directive (says line) good line first (codes ".field") words d (settled (says line) (field_on line kept name desc None) good (is_name name) words (to_desc flags name desc) (field_form line) w (ap (on line) s) g
    (subst (λ (v : List Lexeme × Option ℤ). AnswersSo (field_on line kept name desc None) (is_name name) (field_by line v)) (sym (unvalued flags name desc)) (field-of-answers line flags kept name desc None f)))
directive-answers line first words says good (ValuedField flags kept name desc n d f w s g) =
    by-directive (says line) good line first (codes ".field") words d (settled (says line) (field_on line kept name desc (Some n)) good (is_name name) words (with_value (to_desc flags name desc) n) (field_form line) w (ap (on line) s) g
    (subst (λ (v : List Lexeme × Option ℤ). AnswersSo (field_on line kept name desc (Some n)) (is_name name) (field_by line v)) (sym (with-value (to_desc flags name desc) n)) (field-of-answers line flags kept name desc (Some n) f)))
directive-answers line first words says good (Method flags kept bytes name desc d f w p s g) = by-directive (says line) good line first (codes ".method") words d (settled (says line) _ good (is_method_name name) words (flags ++ lexeme.Word bytes ∷ []) (method_form line) w (ap (on line) s) g (method-answers line flags kept bytes name desc f p))
directive-answers line first words says good (StackLimit n d w r s g) = by-directive (says line) good line first (codes ".limit") words d (settled (says line) (form.StackLimit n) good true words (lexeme.Word (codes "stack") ∷ lexeme.Number (pos n) ∷ []) limit_form w (ap (on line) s) g (stack-answers n r))
directive-answers line first words says good (LocalsLimit n d w r s g) = by-directive (says line) good line first (codes ".limit") words d (settled (says line) (form.LocalsLimit n) good true words (lexeme.Word (codes "locals") ∷ lexeme.Number (pos n) ∷ []) limit_form w (ap (on line) s) g (locals-answers n r))
directive-answers line first words says good (Line d s g) = by-directive (says line) good line first (codes ".line") words d (settled (says line) form.Ignored good true words words (λ _. Ok form.Ignored) refl (ap (on line) s) g refl)
directive-answers line first words says good (Var d s g) = by-directive (says line) good line first (codes ".var") words d (settled (says line) form.Ignored good true words words (λ _. Ok form.Ignored) refl (ap (on line) s) g refl)
directive-answers line first words says good (Throws d s g) = by-directive (says line) good line first (codes ".throws") words d (settled (says line) form.Ignored good true words words (λ _. Ok form.Ignored) refl (ap (on line) s) g refl)
directive-answers line first words says good (Catch class from to using d w s g) =
    by-directive (says line) good line first (codes ".catch") words d (settled (says line) (catch_on line class from to using) good (is_class_name class && (is_name from && (is_name to && is_name using))) words (catch_words class from to using) (catch_form line) w (ap (on line) s) g (catch-answers line class from to using))
directive-answers line first words says good (End d w s g) = by-directive (says line) good line first (codes ".end") words d (settled (says line) form.End good true words (lexeme.Word (codes "method") ∷ []) end_form w (ap (on line) s) g end-answers)

pub known-directive : (first : List ℕ) (words : List Lexeme) (says : ℕ → Form) (good : Bool) → FollowsDirective first words says good → Contains directives first
known-directive first words says good (Source word d w s g) = is-known first (codes ".source") d refl
known-directive first words says good (Bytecode word d w s g) = is-known first (codes ".bytecode") d refl
known-directive first words says good (Interface d s g) = is-known first (codes ".interface") d refl
known-directive first words says good (Class flags kept name d f w s g) = is-known first (codes ".class") d refl
known-directive first words says good (Super name d w s g) = is-known first (codes ".super") d refl
known-directive first words says good (Implements name d w s g) = is-known first (codes ".implements") d refl
known-directive first words says good (Field flags kept name desc d f w s g) = is-known first (codes ".field") d refl
known-directive first words says good (ValuedField flags kept name desc n d f w s g) = is-known first (codes ".field") d refl
known-directive first words says good (Method flags kept bytes name desc d f w p s g) = is-known first (codes ".method") d refl
known-directive first words says good (StackLimit n d w r s g) = is-known first (codes ".limit") d refl
known-directive first words says good (LocalsLimit n d w r s g) = is-known first (codes ".limit") d refl
known-directive first words says good (Line d s g) = is-known first (codes ".line") d refl
known-directive first words says good (Var d s g) = is-known first (codes ".var") d refl
known-directive first words says good (Throws d s g) = is-known first (codes ".throws") d refl
known-directive first words says good (Catch class from to using d w s g) = is-known first (codes ".catch") d refl
known-directive first words says good (End d w s g) = is-known first (codes ".end") d refl
