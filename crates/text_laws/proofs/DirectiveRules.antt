-- What is read of a line that begins with a dot is what the rules of its words say.
use Rattle.std.proofs.Common.{◌≡◌, ℕ, Bool, true, false, ◌&&◌, ◌||◌, List, [], ◌∷◌, ◌++◌, Option, Some, None, Result, Ok, Err, refl, ap, sym, ◌∙◌, subst, cond, ℤ, pos, negsuc, inl, inr, ◌⊎◌}
use Rattle.std.specs.Prelude.{Contains, bytes_eq, codes, int_le, unsigned_abs}
use Rattle.std.specs.List.{list_any}
use Rattle.std.proofs.lemmas.Map.Views.{Contains-from_any}
use Rattle.vm_model.specs.Failures.{◌>>=◌}
use Rattle.jasmin_lines.specs.declared.class_text.NameAt.{NameAt}
use Rattle.jasmin_lines.specs.declared.fault.ReadKind.{ReadKind}
use Rattle.jasmin_lines.specs.declared.fault.ReadKind.TheVariants.{BadDirective}
use Rattle.jasmin_lines.specs.declared.form.Form.{Form}
use Rattle.jasmin_lines.specs.declared.form.Form.TheVariants as form
use Rattle.jasmin_lines.specs.declared.lexeme.Lexeme.{Lexeme}
use Rattle.jasmin_lines.specs.declared.lexeme.Lexeme.TheVariants as lexeme
use Rattle.jasmin_lines.specs.Words.{one, two, word_of, number_of, is_word, is_name, is_class_name, is_method_name, described}
use Rattle.jasmin_lines.specs.Directives.{class_flags, field_flags, method_flags, split_last, source_form, class_form, name_at, after_sign, valued_by, valued, field_of, field_form, method_form, limit_form, end_form, catch_of, catch_form, directive_form}
use Rattle.text_laws.specs.WordRules.{HasFlags, bare_class, bare_method, flags_of_classes, flags_of_fields, flags_of_methods, IsDescribed, IsFrom, directives, FollowsDirective, Source, Bytecode, Interface, Class, Super, Implements, Field, ValuedField, Method, StackLimit, LocalsLimit, Line, Var, Throws, Catch, End}
use Rattle.text_laws.proofs.FaultTests.{any-there, same-label}
use Rattle.text_laws.proofs.Successes.{one-is, two-is, word-is, number-is, is-word, split-is, same-bytes}
use Rattle.text_laws.proofs.Tests.{tested, and-first, and-second, or-first, or-second, either}
use Rattle.text_laws.proofs.WordParts.{described-is}
use Rattle.text_laws.proofs.WordSteps.{JudgedSo, passes, names, name-word, AnswersSo, one-lacks, two-lacks, word-lacks, number-lacks, split-lacks, flags-lack, described-lacks, from-range, flags-found}

-- what a line of this number says, judged by the rules
abbrev pub DirectedAt : ℕ → List ℕ → List Lexeme → Form → Bool → Type 0
DirectedAt line first words f good = (says : ℕ → Form) × (f ≡ says line) × FollowsDirective first words says good

-- what comes after a reading that is judged
through : {A B : Type 0} (P : B → Bool → Type 0) (r : Result A ReadKind) (f : A → B) → JudgedSo (λ x. P (f x)) r → JudgedSo P (r >>= λ x. Ok (f x))
through P (Ok x) f h = h
through P (Err kind) f (inl h) = inl h
through P (Err kind) f (inr h) = inr (h.0, (f h.1.0, h.1.1))

pub answered : {A B : Type 0} (x : A) (good : Bool) (r : Result A ReadKind) (f : A → B) → AnswersSo x good r → AnswersSo (f x) good (r >>= λ y. Ok (f y))
answered x true (Ok y) f h = ap f h
answered x true (Err kind) f h = h
answered x false (Ok y) f h = h
answered x false (Err kind) f h = h

-- ---- what is read follows

source-judged : (P : Form → Bool → Type 0) (words : List Lexeme) → ((word : Lexeme) → words ≡ word ∷ [] → P form.Skipped true) → JudgedSo P (source_form words)
unfolding source_form
source-judged P words h = passes P (one words) _ (one-lacks words) (λ word e. h word (one-is words word e))

class-so : (first : List ℕ) (line : ℕ) (words front : List Lexeme) (flags : List (List ℕ)) (name : List ℕ) (good : Bool) → first ≡ codes ".class" → HasFlags flags_of_classes front flags → words ≡ front ++ lexeme.Word name ∷ [] → good ≡ is_class_name name → DirectedAt line first words (form.Class (bare_class line flags name)) good
class-so first line words front flags name good d f w g = ((λ n. form.Class (bare_class n flags name)), refl, Class front flags name d f w refl g)

class-judged : (first : List ℕ) (line : ℕ) (words : List Lexeme) → first ≡ codes ".class" → JudgedSo (DirectedAt line first words) (class_form line words)
unfolding class_form
class-judged first line words d =
    let P : Form → Bool → Type 0 = DirectedAt line first words in
    passes P (split_last words) _ (split-lacks words) (λ (last : List Lexeme × Lexeme) (e : split_last words ≡ Ok last).
    passes P (class_flags last.0) _ (flags-lack flags_of_classes last.0) (λ (flags : List (List ℕ)) (f : class_flags last.0 ≡ Ok flags).
    name-word P is_class_name last.1 _
    (λ (name : List ℕ) (w : last.1 ≡ lexeme.Word name) (good : is_class_name name ≡ true). class-so first line words last.0 flags name true d (flags-found flags_of_classes last.0 flags f) (split-is words last e ∙ ap (λ (x : Lexeme). last.0 ++ x ∷ []) w) (sym good))
    (λ (name : List ℕ) (w : last.1 ≡ lexeme.Word name) (bad : is_class_name name ≡ false).
    (form.Class (bare_class line flags name), class-so first line words last.0 flags name false d (flags-found flags_of_classes last.0 flags f) (split-is words last e ∙ ap (λ (x : Lexeme). last.0 ++ x ∷ []) w) (sym bad)))))

abbrev name_on : ℕ → List ℕ → NameAt
name_on line name = record { line = line; name = name }

name-judged : (P : NameAt → Bool → Type 0) (line : ℕ) (words : List Lexeme) → ((name : List ℕ) (good : Bool) → words ≡ lexeme.Word name ∷ [] → good ≡ is_class_name name → P (name_on line name) good) → JudgedSo P (name_at line words)
unfolding name_at
name-judged P line words h =
    passes P (one words) _ (one-lacks words) (λ (word : Lexeme) (e : one words ≡ Ok word).
    name-word P is_class_name word _
    (λ (name : List ℕ) (w : word ≡ lexeme.Word name) (good : is_class_name name ≡ true). h name true (one-is words word e ∙ ap (λ (x : Lexeme). x ∷ []) w) (sym good))
    (λ (name : List ℕ) (w : word ≡ lexeme.Word name) (bad : is_class_name name ≡ false). (name_on line name, h name false (one-is words word e ∙ ap (λ (x : Lexeme). x ∷ []) w) (sym bad))))

-- a field's words, with its value or without it
abbrev ValuedSo : List Lexeme → List Lexeme × Option ℤ → Type 0
ValuedSo words (v, None) = v ≡ words
ValuedSo words (v, Some n) = words ≡ v ++ lexeme.Word (codes "=") ∷ [] ++ lexeme.Number n ∷ []

signed-so : (words front : List Lexeme) (n : ℤ) (r : Result (List Lexeme × Lexeme) ReadKind) → split_last front ≡ r → words ≡ front ++ lexeme.Number n ∷ [] → ValuedSo words (after_sign words n r)
signed-so words front n (Err kind) e w = refl
signed-so words front n (Ok p) e w =
    tested (ValuedSo words) (is_word (codes "=") p.1) _ _
    (λ (i : is_word (codes "=") p.1 ≡ true). w ∙ ap (λ (x : List Lexeme). x ++ lexeme.Number n ∷ []) (split-is front p e ∙ ap (λ (x : Lexeme). p.0 ++ x ∷ []) (is-word (codes "=") p.1 i)))
    (λ (_ : is_word (codes "=") p.1 ≡ false). refl)

last-so : (words front : List Lexeme) (last : Lexeme) → words ≡ front ++ last ∷ [] → ValuedSo words (valued_by words (Ok (front, last)))
last-so words front (lexeme.Word b) e = refl
last-so words front (lexeme.Text t) e = refl
last-so words front (lexeme.Number n) e = signed-so words front n (split_last front) refl e

valued-so : (words : List Lexeme) → ValuedSo words (valued words)
valued-so words = by_last (split_last words) refl
  where
    by_last : (r : Result (List Lexeme × Lexeme) ReadKind) → split_last words ≡ r → ValuedSo words (valued_by words r)
    by_last (Err kind) e = refl
    by_last (Ok p) e = last-so words p.0 p.1 (split-is words p e)

abbrev field_on : ℕ → List (List ℕ) → List ℕ → List ℕ → Option ℤ → Form
field_on line flags name desc value = form.Field (record { line = line; flags = flags; name = name; desc = desc; value = value })

field-of-judged : (P : Form → Bool → Type 0) (line : ℕ) (words : List Lexeme) (value : Option ℤ) → ((flags : List Lexeme) (kept : List (List ℕ)) (name desc : List ℕ) (good : Bool) → HasFlags flags_of_fields flags kept → words ≡ flags ++ lexeme.Word name ∷ [] ++ lexeme.Word desc ∷ [] → good ≡ is_name name → P (field_on line kept name desc value) good) → JudgedSo P (field_of line words value)
unfolding field_of
field-of-judged P line words value h =
    passes P (split_last words) _ (split-lacks words) (λ (last : List Lexeme × Lexeme) (e : split_last words ≡ Ok last).
    passes P (split_last last.0) _ (split-lacks last.0) (λ (before : List Lexeme × Lexeme) (e' : split_last last.0 ≡ Ok before).
    passes P (field_flags before.0) _ (flags-lack flags_of_fields before.0) (λ (flags : List (List ℕ)) (f : field_flags before.0 ≡ Ok flags).
    passes P (word_of last.1) _ (word-lacks last.1) (λ (desc : List ℕ) (d : word_of last.1 ≡ Ok desc).
    let shape : words ≡ before.0 ++ before.1 ∷ [] ++ lexeme.Word desc ∷ [] = split-is words last e ∙ ap (λ (x : List Lexeme). x ++ last.1 ∷ []) (split-is last.0 before e') ∙ ap (λ (x : Lexeme). before.0 ++ before.1 ∷ [] ++ x ∷ []) (word-is last.1 desc d) in
    let known_flags : HasFlags flags_of_fields before.0 flags = flags-found flags_of_fields before.0 flags f in
    name-word P is_name before.1 _
    (λ (name : List ℕ) (w : before.1 ≡ lexeme.Word name) (good : is_name name ≡ true). h before.0 flags name desc true known_flags (shape ∙ ap (λ (x : Lexeme). before.0 ++ x ∷ [] ++ lexeme.Word desc ∷ []) w) (sym good))
    (λ (name : List ℕ) (w : before.1 ≡ lexeme.Word name) (bad : is_name name ≡ false). (field_on line flags name desc value, h before.0 flags name desc false known_flags (shape ∙ ap (λ (x : Lexeme). before.0 ++ x ∷ [] ++ lexeme.Word desc ∷ []) w) (sym bad)))))))

field-judged : (first : List ℕ) (line : ℕ) (words : List Lexeme) → first ≡ codes ".field" → JudgedSo (DirectedAt line first words) (field_form line words)
field-judged first line words d = by_value (valued words).0 (valued words).1 (valued-so words)
  where
    by_value : (v : List Lexeme) (o : Option ℤ) → ValuedSo words (v, o) → JudgedSo (DirectedAt line first words) (field_of line v o)
    by_value v None e = field-of-judged (DirectedAt line first words) line v None (λ flags kept name desc good f w g. ((λ n. field_on n kept name desc None), refl, Field flags kept name desc d f (sym e ∙ w) refl g))
    by_value v (Some n) e = field-of-judged (DirectedAt line first words) line v (Some n) (λ flags kept name desc good f w g. ((λ m. field_on m kept name desc (Some n)), refl, ValuedField flags kept name desc n d f (e ∙ ap (λ (x : List Lexeme). x ++ lexeme.Word (codes "=") ∷ [] ++ lexeme.Number n ∷ []) w) refl g))

method-so : (first : List ℕ) (line : ℕ) (words front : List Lexeme) (flags : List (List ℕ)) (bytes name desc : List ℕ) (good : Bool) → first ≡ codes ".method" → HasFlags flags_of_methods front flags → words ≡ front ++ lexeme.Word bytes ∷ [] → IsDescribed bytes name desc → good ≡ is_method_name name → DirectedAt line first words (form.Method (bare_method line flags name desc)) good
method-so first line words front flags bytes name desc good d f w p g = ((λ n. form.Method (bare_method n flags name desc)), refl, Method front flags bytes name desc d f w p refl g)

method-judged : (first : List ℕ) (line : ℕ) (words : List Lexeme) → first ≡ codes ".method" → JudgedSo (DirectedAt line first words) (method_form line words)
unfolding method_form
method-judged first line words d =
    let P : Form → Bool → Type 0 = DirectedAt line first words in
    passes P (split_last words) _ (split-lacks words) (λ (last : List Lexeme × Lexeme) (e : split_last words ≡ Ok last).
    passes P (method_flags last.0) _ (flags-lack flags_of_methods last.0) (λ (flags : List (List ℕ)) (f : method_flags last.0 ≡ Ok flags).
    passes P (word_of last.1) _ (word-lacks last.1) (λ (bytes : List ℕ) (w : word_of last.1 ≡ Ok bytes).
    passes P (described bytes) _ (described-lacks bytes) (λ (parts : List ℕ × List ℕ) (p : described bytes ≡ Ok parts).
    let shape : words ≡ last.0 ++ lexeme.Word bytes ∷ [] = split-is words last e ∙ ap (λ (x : Lexeme). last.0 ++ x ∷ []) (word-is last.1 bytes w) in
    let so : (good : Bool) → good ≡ is_method_name parts.0 → P (form.Method (bare_method line flags parts.0 parts.1)) good =
    λ good g. method-so first line words last.0 flags bytes parts.0 parts.1 good d (flags-found flags_of_methods last.0 flags f) shape (described-is bytes parts p) g in
    names P (is_method_name parts.0) parts.0 _
    (λ (good : is_method_name parts.0 ≡ true). so true (sym good))
    (λ (bad : is_method_name parts.0 ≡ false). (form.Method (bare_method line flags parts.0 parts.1), so false (sym bad)))))))

-- a number from 0 on
count-is : (n : ℤ) → int_le (pos 0) n ≡ true → n ≡ pos (unsigned_abs n)
count-is (pos k) h = refl
count-is (negsuc k) h = absurd (cc)

limit-judged : (first : List ℕ) (line : ℕ) (words : List Lexeme) → first ≡ codes ".limit" → JudgedSo (DirectedAt line first words) (limit_form words)
unfolding limit_form
limit-judged first line words d =
    let P : Form → Bool → Type 0 = DirectedAt line first words in
    passes P (two words) _ (two-lacks words) (λ (pair : Lexeme × Lexeme) (e : two words ≡ Ok pair).
    passes P (number_of (pos 0) (pos 2147483647) pair.1) _ (number-lacks (pos 0) (pos 2147483647) pair.1) (λ (n : ℤ) (k : number_of (pos 0) (pos 2147483647) pair.1 ≡ Ok n).
    let is = number-is (pos 0) (pos 2147483647) pair.1 n k in
    let range : IsFrom (pos 0) (pos 2147483647) n = from-range (pos 0) (pos 2147483647) n is.1 in
    let count : ℕ = unsigned_abs n in
    let counts : n ≡ pos count = count-is n range.0 in
    let shape : words ≡ pair.0 ∷ lexeme.Number (pos count) ∷ [] = two-is words pair e ∙ ap (λ (x : Lexeme). pair.0 ∷ x ∷ []) (is.0 ∙ ap (λ (x : ℤ). lexeme.Number x) counts) in
    let within : IsFrom (pos 0) (pos 2147483647) (pos count) = subst (IsFrom (pos 0) (pos 2147483647)) counts range in
    tested (JudgedSo P) (is_word (codes "stack") pair.0) _ _
    (λ (s : is_word (codes "stack") pair.0 ≡ true). ((λ m. form.StackLimit count), refl, StackLimit count d (shape ∙ ap (λ (x : Lexeme). x ∷ lexeme.Number (pos count) ∷ []) (is-word (codes "stack") pair.0 s)) within refl refl))
    (λ (_ : is_word (codes "stack") pair.0 ≡ false). tested (JudgedSo P) (is_word (codes "locals") pair.0) _ _
    (λ (l : is_word (codes "locals") pair.0 ≡ true). ((λ m. form.LocalsLimit count), refl, LocalsLimit count d (shape ∙ ap (λ (x : Lexeme). x ∷ lexeme.Number (pos count) ∷ []) (is-word (codes "locals") pair.0 l)) within refl refl))
    (λ (_ : is_word (codes "locals") pair.0 ≡ false). inl refl))))

end-judged : (first : List ℕ) (line : ℕ) (words : List Lexeme) → first ≡ codes ".end" → JudgedSo (DirectedAt line first words) (end_form words)
unfolding end_form
end-judged first line words d =
    let P : Form → Bool → Type 0 = DirectedAt line first words in
    passes P (one words) _ (one-lacks words) (λ (word : Lexeme) (e : one words ≡ Ok word).
    tested (JudgedSo P) (is_word (codes "method") word) _ _
    (λ (m : is_word (codes "method") word ≡ true). ((λ n. form.End), refl, End d (one-is words word e ∙ ap (λ (x : Lexeme). x ∷ []) (is-word (codes "method") word m)) refl refl))
    (λ (_ : is_word (codes "method") word ≡ false). inl refl))

abbrev all_good : List ℕ → List ℕ → List ℕ → List ℕ → Bool
all_good class from to using = is_class_name class && (is_name from && (is_name to && is_name using))

abbrev catch_on : ℕ → List ℕ → List ℕ → List ℕ → List ℕ → Form
catch_on line class from to using = form.Catch (record { line = line; class = class; from = from; to = to; using = using })

catch-of-judged : (P : Form → Bool → Type 0) (line : ℕ) (class from to using : Lexeme) → ((c f t u : List ℕ) (good : Bool) → class ≡ lexeme.Word c → from ≡ lexeme.Word f → to ≡ lexeme.Word t → using ≡ lexeme.Word u → good ≡ all_good c f t u → P (catch_on line c f t u) good) → JudgedSo P (catch_of line class from to using)
unfolding catch_of
catch-of-judged P line class from to using h =
    passes P (word_of class) _ (word-lacks class) (λ (c : List ℕ) (ec : word_of class ≡ Ok c).
    passes P (word_of from) _ (word-lacks from) (λ (f : List ℕ) (ef : word_of from ≡ Ok f).
    passes P (word_of to) _ (word-lacks to) (λ (t : List ℕ) (et : word_of to ≡ Ok t).
    passes P (word_of using) _ (word-lacks using) (λ (u : List ℕ) (eu : word_of using ≡ Ok u).
    let so : (good : Bool) → good ≡ all_good c f t u → P (catch_on line c f t u) good = λ good g. h c f t u good (word-is class c ec) (word-is from f ef) (word-is to t et) (word-is using u eu) g in
    names P (is_class_name c) c _
    (λ (gc : is_class_name c ≡ true). names P (is_name f) f _
    (λ (gf : is_name f ≡ true). names P (is_name t) t _
    (λ (gt : is_name t ≡ true). names P (is_name u) u _
    (λ (gu : is_name u ≡ true). so true (rw (gc, gf, gt, gu) refl))
    (λ (gu : is_name u ≡ false). (catch_on line c f t u, so false (rw (gc, gf, gt, gu) refl))))
    (λ (gt : is_name t ≡ false). (catch_on line c f t u, so false (rw (gc, gf, gt) refl))))
    (λ (gf : is_name f ≡ false). (catch_on line c f t u, so false (rw (gc, gf) refl))))
    (λ (gc : is_class_name c ≡ false). (catch_on line c f t u, so false (rw gc refl)))))))

abbrev seven : Lexeme → Lexeme → Lexeme → Lexeme → Lexeme → Lexeme → Lexeme → List Lexeme
seven a b c d e f g = a ∷ b ∷ c ∷ d ∷ e ∷ f ∷ g ∷ []

catch-judged : (first : List ℕ) (line : ℕ) (words : List Lexeme) → first ≡ codes ".catch" → JudgedSo (DirectedAt line first words) (catch_form line words)
catch-judged first line (class ∷ a ∷ from ∷ b ∷ to ∷ c ∷ using ∷ []) d =
    tested (JudgedSo (DirectedAt line first (seven class a from b to c using))) (is_word (codes "from") a && is_word (codes "to") b && is_word (codes "using") c) _ _
    (λ (k : (is_word (codes "from") a && is_word (codes "to") b && is_word (codes "using") c) ≡ true).
    let fb : (is_word (codes "from") a && is_word (codes "to") b) ≡ true = and-first _ (is_word (codes "using") c) k in
    let ka : a ≡ lexeme.Word (codes "from") = is-word (codes "from") a (and-first (is_word (codes "from") a) (is_word (codes "to") b) fb) in
    let kb : b ≡ lexeme.Word (codes "to") = is-word (codes "to") b (and-second (is_word (codes "from") a) (is_word (codes "to") b) fb) in
    let kc : c ≡ lexeme.Word (codes "using") = is-word (codes "using") c (and-second (is_word (codes "from") a && is_word (codes "to") b) (is_word (codes "using") c) k) in
    catch-of-judged (DirectedAt line first (seven class a from b to c using)) line class from to using
    (λ c' f t u good ec ef et eu g. ((λ n. catch_on n c' f t u), refl, Catch c' f t u d (rw (ec, ka, ef, kb, et, kc, eu) refl) refl g)))
    (λ (_ : (is_word (codes "from") a && is_word (codes "to") b && is_word (codes "using") c) ≡ false). inl refl)
catch-judged first line words d = inl refl

-- ---- the directive

-- a directive that is known is judged by its words, and any other is none
abbrev pub DirectedSo : ℕ → List ℕ → List Lexeme → Result Form ReadKind → Type 0
DirectedSo line first words r = (Contains directives first × JudgedSo (DirectedAt line first words) r) ⊎ ((Contains directives first → ⊥) × (r ≡ Err BadDirective))

pub is-known : (first d : List ℕ) → first ≡ d → list_any (bytes_eq d) directives ≡ true → Contains directives first
is-known first d e h = Contains-from_any same-label first directives (ap (λ (x : List ℕ). list_any (bytes_eq x) directives) e ∙ h)

not-known : (first : List ℕ) → list_any (bytes_eq first) directives ≡ false → Contains directives first → ⊥
not-known first h c = let there : list_any (bytes_eq first) directives ≡ true = any-there (bytes_eq first) directives first c (same-bytes first) in absurd (cc)

on-directive : (line : ℕ) (first d : List ℕ) (words : List Lexeme) (x y : Result Form ReadKind) → list_any (bytes_eq d) directives ≡ true → (first ≡ d → JudgedSo (DirectedAt line first words) x) → (bytes_eq first d ≡ false → DirectedSo line first words y) → DirectedSo line first words (cond (bytes_eq first d) x y)
on-directive line first d words x y k h more =
    tested (DirectedSo line first words) (bytes_eq first d) x y (λ (e : bytes_eq first d ≡ true). inl (is-known first d (same-label first d e) k, h (same-label first d e))) more

on-either : (line : ℕ) (first d e : List ℕ) (words : List Lexeme) (x y : Result Form ReadKind) → list_any (bytes_eq d) directives ≡ true → list_any (bytes_eq e) directives ≡ true → (first ≡ d → JudgedSo (DirectedAt line first words) x) → (first ≡ e → JudgedSo (DirectedAt line first words) x) → ((bytes_eq first d || bytes_eq first e) ≡ false → DirectedSo line first words y) → DirectedSo line first words (cond (bytes_eq first d || bytes_eq first e) x y)
on-either line first d e words x y k l h i more =
    tested (DirectedSo line first words) (bytes_eq first d || bytes_eq first e) x y
    (λ (t : (bytes_eq first d || bytes_eq first e) ≡ true). either (bytes_eq first d) (bytes_eq first e) t
    (λ (u : bytes_eq first d ≡ true). inl (is-known first d (same-label first d u) k, h (same-label first d u)))
    (λ (u : bytes_eq first e ≡ true). inl (is-known first e (same-label first e u) l, i (same-label first e u)))) more

-- the tests of a list that all fail
none-of-two : (a b more : Bool) → (a || b) ≡ false → more ≡ false → (a || (b || more)) ≡ false
none-of-two a b more h e = rw (or-first a b h, or-second a b h, e) refl

none-of-one : (a more : Bool) → a ≡ false → more ≡ false → (a || more) ≡ false
none-of-one a more h e = rw (h, e) refl

pub directed : (line : ℕ) (first : List ℕ) (words : List Lexeme) → DirectedSo line first words (directive_form line first words)
directed line first words =
    on-either line first (codes ".source") (codes ".bytecode") words _ _ refl refl (λ d. source-judged (DirectedAt line first words) words (λ word w. ((λ n. form.Skipped), refl, Source word d w refl refl))) (λ d. source-judged (DirectedAt line first words) words (λ word w. ((λ n. form.Skipped), refl, Bytecode word d w refl refl))) (λ n0.
    on-directive line first (codes ".interface") words _ _ refl (λ d. ((λ n. form.Interface n), refl, Interface d refl refl)) (λ n1.
    on-directive line first (codes ".limit") words _ _ refl (limit-judged first line words) (λ n2.
    tested (DirectedSo line first words) (bytes_eq first (codes ".line") || bytes_eq first (codes ".var") || bytes_eq first (codes ".throws")) _ _
    (λ (t : (bytes_eq first (codes ".line") || bytes_eq first (codes ".var") || bytes_eq first (codes ".throws")) ≡ true).
    either (bytes_eq first (codes ".line") || bytes_eq first (codes ".var")) (bytes_eq first (codes ".throws")) t
    (λ (u : (bytes_eq first (codes ".line") || bytes_eq first (codes ".var")) ≡ true). either (bytes_eq first (codes ".line")) (bytes_eq first (codes ".var")) u
    (λ (v : bytes_eq first (codes ".line") ≡ true). inl (is-known first (codes ".line") (same-label first (codes ".line") v) refl, ((λ n. form.Ignored), refl, Line (same-label first (codes ".line") v) refl refl)))
    (λ (v : bytes_eq first (codes ".var") ≡ true). inl (is-known first (codes ".var") (same-label first (codes ".var") v) refl, ((λ n. form.Ignored), refl, Var (same-label first (codes ".var") v) refl refl))))
    (λ (v : bytes_eq first (codes ".throws") ≡ true). inl (is-known first (codes ".throws") (same-label first (codes ".throws") v) refl, ((λ n. form.Ignored), refl, Throws (same-label first (codes ".throws") v) refl refl))))
    (λ (n3 : (bytes_eq first (codes ".line") || bytes_eq first (codes ".var") || bytes_eq first (codes ".throws")) ≡ false).
    let n34 : (bytes_eq first (codes ".line") || bytes_eq first (codes ".var")) ≡ false = or-first (bytes_eq first (codes ".line") || bytes_eq first (codes ".var")) (bytes_eq first (codes ".throws")) n3 in
    let n5 : bytes_eq first (codes ".throws") ≡ false = or-second (bytes_eq first (codes ".line") || bytes_eq first (codes ".var")) (bytes_eq first (codes ".throws")) n3 in
    on-directive line first (codes ".catch") words _ _ refl (catch-judged first line words) (λ n6.
    on-directive line first (codes ".end") words _ _ refl (end-judged first line words) (λ n7.
    on-directive line first (codes ".class") words _ _ refl (class-judged first line words) (λ n8.
    on-directive line first (codes ".super") words _ _ refl (λ d. through (DirectedAt line first words) (name_at line words) (λ x. form.Super x) (name-judged (λ x. DirectedAt line first words (form.Super x)) line words (λ name good w g. ((λ n. form.Super (name_on n name)), refl, Super name d w refl g)))) (λ n9.
    on-directive line first (codes ".implements") words _ _ refl (λ d. through (DirectedAt line first words) (name_at line words) (λ x. form.Implements x) (name-judged (λ x. DirectedAt line first words (form.Implements x)) line words (λ name good w g. ((λ n. form.Implements (name_on n name)), refl, Implements name d w refl g)))) (λ n10.
    on-directive line first (codes ".field") words _ _ refl (field-judged first line words) (λ n11.
    on-directive line first (codes ".method") words _ _ refl (method-judged first line words) (λ n12.
    inr (
      not-known first (none-of-two _ _ _ n0 (none-of-one _ _ n1 (none-of-one _ _ n8 (none-of-one _ _ n9 (none-of-one _ _ n10 (none-of-one _ _ n11 (none-of-one _ _ n12
          (none-of-one _ _ n2 (none-of-two _ _ _ n34 (none-of-one _ _ n5 (none-of-one _ _ n6 (none-of-one _ _ n7 refl)))))))))))),
      refl,
    ))))))))))))
