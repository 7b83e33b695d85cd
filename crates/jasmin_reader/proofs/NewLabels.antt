-- A line that fits among others has new labels.
use Rattle.std.proofs.Common.{◌≡◌, ℕ, Bool, true, false, not, ◌&&◌, ◌||◌, List, [], ◌∷◌, Option, Some, None, Result, Ok, Err, cond, refl, subst, ℤ}
use Rattle.std.specs.Prelude.{bytes_eq, codes, pos}
use Rattle.std.specs.List.{list_any}
use Rattle.vm_model.specs.Failures.{◌>>=◌}
use Rattle.jasmin_lines.specs.declared.fault.ReadKind.{ReadKind}
use Rattle.jasmin_lines.specs.declared.fault.ReadKind.TheVariants.{NoClass, OutsideMethod, LabelTwice}
use Rattle.jasmin_lines.specs.declared.form.Form.{Form}
use Rattle.jasmin_lines.specs.declared.form.Form.TheVariants as form
use Rattle.jasmin_lines.specs.declared.lexeme.Lexeme.{Lexeme}
use Rattle.jasmin_lines.specs.declared.lexeme.Lexeme.TheVariants as lexeme
use Rattle.jasmin_lines.specs.Lexemes.{PlainLine}
use Rattle.jasmin_lines.specs.Words.{one, two, word_of, number_of, is_word, named, is_name, is_class_name, is_method_name, name_of, class_name_of, described}
use Rattle.jasmin_lines.specs.Instructions.{instruction}
use Rattle.jasmin_lines.specs.Directives.{class_flags, field_flags, method_flags, split_last, source_form, class_form, name_at, valued, field_of, method_form, limit_form, end_form, catch_of, catch_form, class_directive, method_directive, directive_form}
use Rattle.jasmin_lines.specs.Forms.{unlabelled_form, labelled_form, label_of, coded, begins_with_dot, form_of}
use Rattle.jasmin_reader.specs.Grammar.{PlainState, only_if, inside_method, has_label, misplaced, is_end, may_stand_first, placed, form_among}
use Rattle.jasmin_reader.specs.Labels.{labels_in, are_new}

-- at most one
abbrev few : List (List ℕ) → Bool
few [] = true
few (x ∷ []) = true
few (x ∷ y ∷ zs) = false

abbrev Few : Result Form ReadKind → Type 0
Few (Ok f) = few (labels_in f) ≡ true
Few (Err kind) = Unit {0}

behind : {A : Type 0} (r : Result A ReadKind) (g : A → Result Form ReadKind) → ((x : A) → Few (g x)) → Few (r >>= g)
behind (Ok x) g h = h x
behind (Err kind) g h = tt

choice : (c : Bool) (x y : Result Form ReadKind) → Few x → Few y → Few (cond c x y)
choice true x y hx hy = hx
choice false x y hx hy = hy

-- ---- each directive

source-few : (words : List Lexeme) → Few (source_form words)
unfolding source_form
source-few words = behind (one words) _ (λ _. refl)

class-few : (line : ℕ) (words : List Lexeme) → Few (class_form line words)
unfolding class_form
class-few line words = behind (split_last words) _ (λ last. behind (class_flags last.0) _ (λ _. behind (class_name_of last.1) _ (λ _. refl)))

super-few : (line : ℕ) (words : List Lexeme) → Few (name_at line words >>= λ x. Ok (form.Super x))
super-few line words = behind (name_at line words) _ (λ _. refl)

implements-few : (line : ℕ) (words : List Lexeme) → Few (name_at line words >>= λ x. Ok (form.Implements x))
implements-few line words = behind (name_at line words) _ (λ _. refl)

field-few : (line : ℕ) (words : List Lexeme) (value : Option ℤ) → Few (field_of line words value)
unfolding field_of
field-few line words value =
    behind (split_last words) _ (λ last. behind (split_last last.0) _ (λ before. behind (field_flags before.0) _ (λ _. behind (word_of last.1) _ (λ _. behind (name_of before.1) _ (λ _. refl)))))

method-few : (line : ℕ) (words : List Lexeme) → Few (method_form line words)
unfolding method_form
method-few line words =
    behind (split_last words) _ (λ last. behind (method_flags last.0) _ (λ _. behind (word_of last.1) _ (λ bytes. behind (described bytes) _ (λ parts. behind (named (is_method_name parts.0) parts.0) _ (λ _. refl)))))

limit-few : (words : List Lexeme) → Few (limit_form words)
unfolding limit_form
limit-few words =
    behind (two words) _ (λ pair. behind (number_of (pos 0) (pos 2147483647) pair.1) _ (λ _. choice (is_word (codes "stack") pair.0) _ _ refl (choice (is_word (codes "locals") pair.0) _ _ refl tt)))

end-few : (words : List Lexeme) → Few (end_form words)
unfolding end_form
end-few words = behind (one words) _ (λ word. choice (is_word (codes "method") word) _ _ refl tt)

catch-of-few : (line : ℕ) (class from to using' : Lexeme) → Few (catch_of line class from to using')
unfolding catch_of
catch-of-few line class from to using' =
    behind (word_of class) _ (λ c. behind (word_of from) _ (λ f. behind (word_of to) _ (λ t. behind (word_of using') _ (λ u.
    behind (named (is_class_name c) c) _ (λ _. behind (named (is_name f) f) _ (λ _. behind (named (is_name t) t) _ (λ _. behind (named (is_name u) u) _ (λ _. refl))))))))

catch-few : (line : ℕ) (words : List Lexeme) → Few (catch_form line words)
catch-few line [] = tt
catch-few line (class ∷ []) = tt
catch-few line (class ∷ a ∷ []) = tt
catch-few line (class ∷ a ∷ from ∷ []) = tt
catch-few line (class ∷ a ∷ from ∷ b ∷ []) = tt
catch-few line (class ∷ a ∷ from ∷ b ∷ to ∷ []) = tt
catch-few line (class ∷ a ∷ from ∷ b ∷ to ∷ c ∷ []) = tt
catch-few line (class ∷ a ∷ from ∷ b ∷ to ∷ c ∷ u ∷ []) =
    choice (is_word (codes "from") a && is_word (codes "to") b && is_word (codes "using") c) _ _ (catch-of-few line class from to u) tt
catch-few line (class ∷ a ∷ from ∷ b ∷ to ∷ c ∷ u ∷ w ∷ ws) = tt

-- ---- by the first word

class-directive-few : (line : ℕ) (first : List ℕ) (words : List Lexeme) → Few (class_directive line first words)
class-directive-few line first words =
    choice (bytes_eq first (codes ".class")) _ _ (class-few line words)
    (choice (bytes_eq first (codes ".super")) _ _ (super-few line words)
    (choice (bytes_eq first (codes ".implements")) _ _ (implements-few line words)
    (choice (bytes_eq first (codes ".field")) _ _ (field-few line (valued words).0 (valued words).1)
    (choice (bytes_eq first (codes ".method")) _ _ (method-few line words) tt))))

method-directive-few : (line : ℕ) (first : List ℕ) (words : List Lexeme) → Few (method_directive line first words)
method-directive-few line first words =
    choice (bytes_eq first (codes ".limit")) _ _ (limit-few words)
    (choice (bytes_eq first (codes ".line") || bytes_eq first (codes ".var") || bytes_eq first (codes ".throws")) _ _ refl
    (choice (bytes_eq first (codes ".catch")) _ _ (catch-few line words)
    (choice (bytes_eq first (codes ".end")) _ _ (end-few words) (class-directive-few line first words))))

directive-few : (line : ℕ) (first : List ℕ) (words : List Lexeme) → Few (directive_form line first words)
directive-few line first words =
    choice (bytes_eq first (codes ".source") || bytes_eq first (codes ".bytecode")) _ _ (source-few words)
    (choice (bytes_eq first (codes ".interface")) _ _ refl (method-directive-few line first words))

unlabelled-few : (line : ℕ) (words : List Lexeme) → Few (unlabelled_form line words)
unfolding unlabelled_form
unlabelled-few line words = behind (instruction words) _ (λ _. refl)

labelled-few : (line : ℕ) (label : List ℕ) (words : List Lexeme) → Few (labelled_form line label words)
unfolding labelled_form
labelled-few line label [] = behind (named (is_name label) label) _ (λ _. refl)
labelled-few line label (word ∷ words) = behind (instruction (word ∷ words)) _ (λ _. behind (named (is_name label) label) _ (λ _. refl))

coded-few : (line : ℕ) (label : Option (List ℕ)) (words all : List Lexeme) → Few (coded line label words all)
coded-few line (Some label) words all = labelled-few line label words
coded-few line None words all = unlabelled-few line all

form-few : (line : ℕ) (words : List Lexeme) → Few (form_of line words)
unfolding form_of
form-few line [] = unlabelled-few line []
form-few line (lexeme.Number n ∷ words) = unlabelled-few line (lexeme.Number n ∷ words)
form-few line (lexeme.Text t ∷ words) = unlabelled-few line (lexeme.Text t ∷ words)
form-few line (lexeme.Word first ∷ words) = choice (begins_with_dot first) _ _ (directive-few line first words) (coded-few line (label_of first) words (lexeme.Word first ∷ words))

-- ---- among others

few-new : (before labels : List (List ℕ)) → few labels ≡ true → list_any (λ label. list_any (bytes_eq label) before) labels ≡ false → are_new before labels ≡ true
few-new before [] few' absent = refl
few-new before (x ∷ []) few' absent = by (list_any (bytes_eq x) before) absent
  where
    by : (b : Bool) → (b || false) ≡ false → (not b && true) ≡ true
    by true e = absurd (cc)
    by false e = refl
few-new before (x ∷ y ∷ zs) few' absent = absurd (cc)

-- what is in a label's way is a fault
twice-not : (s : PlainState) (b : Bool) → inside_method s (only_if LabelTwice b None) ≡ None → b ≡ false
twice-not s b e = by s.is_inside b e
  where
    by : (inside b : Bool) → cond (not inside) (Some OutsideMethod) (cond b (Some LabelTwice) None) ≡ None → b ≡ false
    by true true e = absurd (cc)
    by true false e = refl
    by false b e = absurd (cc)

placed-new : (ends : Bool) (s : PlainState) (f : Form) → few (labels_in f) ≡ true → misplaced ends s f ≡ None → are_new s.labels (labels_in f) ≡ true
placed-new ends s form.Skipped h e = refl
placed-new ends s (form.Interface line) h e = refl
placed-new ends s (form.Class c) h e = refl
placed-new ends s (form.Super name) h e = refl
placed-new ends s (form.Implements name) h e = refl
placed-new ends s (form.Field f) h e = refl
placed-new ends s (form.Method m) h e = refl
placed-new ends s (form.StackLimit n) h e = refl
placed-new ends s (form.LocalsLimit n) h e = refl
placed-new ends s form.Ignored h e = refl
placed-new ends s (form.Catch c) h e = refl
placed-new ends s form.End h e = refl
placed-new ends s (form.Label label) h e = few-new s.labels (label ∷ []) h (twice-not s (has_label s (label ∷ [])) e)
placed-new ends s (form.Code l) h e = few-new s.labels l.labels h (twice-not s (has_label s l.labels) e)

judged-new : (ends : Bool) (s : PlainState) (r : Result Form ReadKind) (f : Form) → Few r → (r >>= λ x. placed (misplaced ends s x) x) ≡ Ok f → are_new s.labels (labels_in f) ≡ true
judged-new ends s (Err kind) f h e = absurd (cc)
judged-new ends s (Ok x) f h e = by (misplaced ends s x) refl e
  where
    by : (fault : Option ReadKind) → misplaced ends s x ≡ fault → placed fault x ≡ Ok f → are_new s.labels (labels_in f) ≡ true
    by None m p = let same : x ≡ f = cc in subst (λ (y : Form). are_new s.labels (labels_in y) ≡ true) same (placed-new ends s x h m)
    by (Some kind) m p = absurd (cc)

pub among-new : (s : PlainState) (line : PlainLine) (lines : List PlainLine) (f : Form) → form_among s line lines ≡ Ok f → are_new s.labels (labels_in f) ≡ true
unfolding form_among
among-new s line lines f e = by (not s.has_class && not (may_stand_first line.words)) e
  where
    by : (early : Bool) → cond early (Err NoClass) (form_of line.number line.words >>= λ x. placed (misplaced (list_any is_end lines) s x) x) ≡ Ok f → are_new s.labels (labels_in f) ≡ true
    by true h = absurd (cc)
    by false h = judged-new (list_any is_end lines) s (form_of line.number line.words) f (form-few line.number line.words) h
