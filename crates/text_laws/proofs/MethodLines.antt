-- The lines of a method are read again: its head, its limits, what it catches, and its end.
use Rattle.std.proofs.Common.{◌≡◌, ℕ, Bool, true, false, ◌&&◌, ◌||◌, nat_eq, List, [], ◌∷◌, ◌++◌, Option, Some, None, Result, Ok, ℤ, pos, negsuc, map, drop, cond, position, refl, ap, sym, ◌∙◌, subst}
use Rattle.std.specs.Prelude.{codes, unsigned_abs, bytes_eq}
use Rattle.std.specs.List.{AllByRecursion, list_any}
use Rattle.std.proofs.lemmas.List.{take-append-drop}
use Rattle.jasmin_lines.specs.declared.fault.ReadKind.{ReadKind}
use Rattle.jasmin_lines.specs.declared.form.Form.{Form}
use Rattle.jasmin_lines.specs.declared.form.Form.TheVariants as form
use Rattle.jasmin_lines.specs.declared.lexeme.Lexeme.{Lexeme}
use Rattle.jasmin_lines.specs.declared.lexeme.Lexeme.TheVariants as lexeme
use Rattle.jasmin_lines.specs.Words.{one, two, word_of, in_range, number_of, is_word, named, is_name, is_class_name, is_method_name, split_at, described}
use Rattle.jasmin_lines.specs.Directives.{split_last, method_flags, empty_method, source_form, method_form, limit_of, limit_form, end_form, catch_of, catch_form, class_directive, method_directive, directive_form}
use Rattle.jasmin_lines.specs.Forms.{form_of}
use Rattle.text_laws.specs.Sizes.{IsSmall}
use Rattle.text_laws.specs.Spelled.{IsSpellable, BeginsNoComment}
use Rattle.text_laws.specs.OfText.{is_text, IsFound, AreFound}
use Rattle.text_laws.proofs.Tests.{tested}
use Rattle.text_laws.proofs.CanonicalForms.{word, catch_words}
use Rattle.text_laws.proofs.Again.{IsAgain, AreAgain}
use Rattle.text_laws.proofs.Names.{good-word, plain-found, class-spellable, name-spellable, method-no-comment, more-no-comment}
use Rattle.text_laws.proofs.Flags.{all-joined}
use Rattle.text_laws.proofs.Known.{method-flags-again, method-flags-fit}
use Rattle.text_laws.proofs.Successes.{Holds, behind, step, two-is, word-is, named-is, named-again, number-is, split-again, split-is, last_text}
use Rattle.text_laws.proofs.ClassLines.{class-found, super-found, implements-found, field-found, found-small, last-named}

-- ---- `.method`

method-start : (n : ℕ) (ws : List Lexeme) → form_of n (lexeme.Word (codes ".method") ∷ ws) ≡ method_form n ws
unfolding form_of
method-start n ws = refl

abbrev Joined : List ℕ → List ℕ × List ℕ → Type 0
Joined bytes parts = parts.0 ++ parts.1 ≡ bytes

split-joined : (bytes : List ℕ) (o : Option ℕ) → Holds (Joined bytes) (split_at bytes o)
split-joined bytes None = tt
split-joined bytes (Some n) =
    tested (Holds (Joined bytes)) (list_any (λ b. nat_eq b 41) (drop n bytes)) _ _
    (λ (_ : list_any (λ b. nat_eq b 41) (drop n bytes) ≡ true). take-append-drop n bytes)
    (λ (_ : list_any (λ b. nat_eq b 41) (drop n bytes) ≡ false). tt)

pub described-joined : (bytes : List ℕ) (parts : List ℕ × List ℕ) → described bytes ≡ Ok parts → parts.0 ++ parts.1 ≡ bytes
described-joined bytes parts e = subst (Holds (Joined bytes)) e (split-joined bytes (position (λ b. nat_eq b 40) bytes))

method-read : (n : ℕ) (flags : List (List ℕ)) (bytes : List ℕ) (parts : List ℕ × List ℕ) → method_flags (map word flags) ≡ Ok flags → described bytes ≡ Ok parts → is_method_name parts.0 ≡ true → method_form n (map word flags ++ lexeme.Word bytes ∷ []) ≡ Ok (form.Method (empty_method n flags parts.0 parts.1))
unfolding method_form
method-read n flags bytes parts f d good =
    step (split_last (map word flags ++ lexeme.Word bytes ∷ [])) _ (map word flags, lexeme.Word bytes) (split-again (map word flags) (lexeme.Word bytes))
    ∙ step (method_flags (map word flags)) _ flags f
    ∙ step (described bytes) _ parts d
    ∙ step (named (is_method_name parts.0) parts.0) _ parts.0 (named-again (is_method_name parts.0) parts.0 good)

-- the words of a method's head
abbrev head_words : List (List ℕ) → List ℕ → List Lexeme
head_words flags bytes = map word flags ++ lexeme.Word bytes ∷ []

method-again : (line : ℕ) (flags : List (List ℕ)) (bytes : List ℕ) (parts : List ℕ × List ℕ) → AllByRecursion IsSpellable (map word flags) → IsSpellable (lexeme.Word bytes) → method_flags (map word flags) ≡ Ok flags → described bytes ≡ Ok parts → is_method_name parts.0 ≡ true → IsAgain (form.Method (empty_method line flags parts.0 parts.1))
method-again line flags bytes parts fit fits f d good =
    let same : bytes ≡ parts.0 ++ parts.1 = sym (described-joined bytes parts d) in
    record {
      fit = (good-word (codes ".method") refl, all-joined IsSpellable (map word flags) (lexeme.Word (parts.0 ++ parts.1) ∷ []) fit (subst (λ (x : List ℕ). IsSpellable (lexeme.Word x)) same fits, tt));
      read = λ m. method-start m (head_words flags (parts.0 ++ parts.1)) ∙ ap (λ (x : List ℕ). method_form m (head_words flags x)) (sym same) ∙ method-read m flags bytes parts f d good;
    }

pub method-found : (line : ℕ) (words : List Lexeme) → AreFound false words → Holds AreAgain (method_form line words)
unfolding method_form
method-found line words found =
    behind AreAgain (split_last words) _ (λ (p : List Lexeme × Lexeme) (e : split_last words ≡ Ok p).
    behind AreAgain (method_flags p.0) _ (λ (flags : List (List ℕ)) (f : method_flags p.0 ≡ Ok flags).
    behind AreAgain (word_of p.1) _ (λ (bytes : List ℕ) (w : word_of p.1 ≡ Ok bytes).
    behind AreAgain (described bytes) _ (λ (parts : List ℕ × List ℕ) (d : described bytes ≡ Ok parts).
    behind AreAgain (named (is_method_name parts.0) parts.0) _ (λ (name : List ℕ) (n : named (is_method_name parts.0) parts.0 ≡ Ok name).
    let is : (is_method_name parts.0 ≡ true) × (parts.0 ≡ name) = named-is (is_method_name parts.0) parts.0 name n in
    let last : IsFound (last_text false p.0) (lexeme.Word bytes) = last-named words p (lexeme.Word bytes) found (split-is words p e) (word-is p.1 bytes w) in
    let no_comment : BeginsNoComment bytes = subst BeginsNoComment (described-joined bytes parts d) (more-no-comment parts.0 parts.1 (method-no-comment parts.0 is.0)) in
    subst (λ (x : List ℕ). IsAgain (form.Method (empty_method line flags x parts.1))) is.1
    (method-again line flags bytes parts (method-flags-fit flags p.0 f) (plain-found (last_text false p.0) bytes last, no_comment) (method-flags-again flags p.0 f) d is.0))))))

-- ---- `.limit`

limit-start : (n : ℕ) (ws : List Lexeme) → form_of n (lexeme.Word (codes ".limit") ∷ ws) ≡ limit_form ws
unfolding form_of
limit-start n ws = refl

limit-read : (kind : Lexeme) (n : ℤ) → in_range (pos 0) (pos 2147483647) n ≡ Ok n → limit_form (kind ∷ lexeme.Number n ∷ []) ≡ limit_of kind n
unfolding limit_form
limit-read kind n e = step (in_range (pos 0) (pos 2147483647) n) _ n e

not-negative : (n : ℤ) → in_range (pos 0) (pos 2147483647) n ≡ Ok n → n ≡ pos (unsigned_abs n)
not-negative (pos n) e = refl
not-negative (negsuc n) e = absurd (cc)

stack-again : (n : ℕ) → IsSmall (pos n) → in_range (pos 0) (pos 2147483647) (pos n) ≡ Ok (pos n) → IsAgain (form.StackLimit n)
stack-again n small e = record {
  fit = (good-word (codes ".limit") refl, (good-word (codes "stack") refl, (small, tt)));
  read = λ m. limit-start m (lexeme.Word (codes "stack") ∷ lexeme.Number (pos n) ∷ []) ∙ limit-read (lexeme.Word (codes "stack")) (pos n) e;
}

locals-again : (n : ℕ) → IsSmall (pos n) → in_range (pos 0) (pos 2147483647) (pos n) ≡ Ok (pos n) → IsAgain (form.LocalsLimit n)
locals-again n small e = record {
  fit = (good-word (codes ".limit") refl, (good-word (codes "locals") refl, (small, tt)));
  read = λ m. limit-start m (lexeme.Word (codes "locals") ∷ lexeme.Number (pos n) ∷ []) ∙ limit-read (lexeme.Word (codes "locals")) (pos n) e;
}

pub limit-found : (words : List Lexeme) → AreFound false words → Holds AreAgain (limit_form words)
unfolding limit_form
limit-found words found =
    behind AreAgain (two words) _ (λ (p : Lexeme × Lexeme) (e : two words ≡ Ok p).
    behind AreAgain (number_of (pos 0) (pos 2147483647) p.1) _ (λ (n : ℤ) (k : number_of (pos 0) (pos 2147483647) p.1 ≡ Ok n).
    let is : (p.1 ≡ lexeme.Number n) × (in_range (pos 0) (pos 2147483647) n ≡ Ok n) = number-is (pos 0) (pos 2147483647) p.1 n k in
    let all : AreFound false (p.0 ∷ p.1 ∷ []) = subst (AreFound false) (two-is words p e) found in
    let small : IsSmall n = found-small (is_text p.0) n (subst (IsFound (is_text p.0)) is.0 all.1.0) in
    let positive : n ≡ pos (unsigned_abs n) = not-negative n is.1 in
    let small' : IsSmall (pos (unsigned_abs n)) = subst IsSmall positive small in
    let within : in_range (pos 0) (pos 2147483647) (pos (unsigned_abs n)) ≡ Ok (pos (unsigned_abs n)) = subst (λ (x : ℤ). in_range (pos 0) (pos 2147483647) x ≡ Ok x) positive is.1 in
    tested (Holds AreAgain) (is_word (codes "stack") p.0) _ _
    (λ (_ : is_word (codes "stack") p.0 ≡ true). stack-again (unsigned_abs n) small' within)
    (λ (_ : is_word (codes "stack") p.0 ≡ false). tested (Holds AreAgain) (is_word (codes "locals") p.0) _ _
    (λ (_ : is_word (codes "locals") p.0 ≡ true). locals-again (unsigned_abs n) small' within)
    (λ (_ : is_word (codes "locals") p.0 ≡ false). tt))))

-- ---- `.end`, `.source` and `.bytecode`

pub end-found : (words : List Lexeme) → Holds AreAgain (end_form words)
unfolding end_form
end-found words =
    behind AreAgain (one words) _ (λ (w : Lexeme) (_ : one words ≡ Ok w).
    tested (Holds AreAgain) (is_word (codes "method") w) _ _ (λ (_ : is_word (codes "method") w ≡ true). tt) (λ (_ : is_word (codes "method") w ≡ false). tt))

pub source-found : (words : List Lexeme) → Holds AreAgain (source_form words)
unfolding source_form
source-found words = behind AreAgain (one words) _ (λ (w : Lexeme) (_ : one words ≡ Ok w). tt)

-- ---- `.catch`

catch-start : (n : ℕ) (ws : List Lexeme) → form_of n (lexeme.Word (codes ".catch") ∷ ws) ≡ catch_form n ws
unfolding form_of
catch-start n ws = refl

catch-read : (n : ℕ) (c f t u : List ℕ) → is_class_name c ≡ true → is_name f ≡ true → is_name t ≡ true → is_name u ≡ true → catch_of n (lexeme.Word c) (lexeme.Word f) (lexeme.Word t) (lexeme.Word u) ≡ Ok (form.Catch (record { line = n; class = c; from = f; to = t; «using» = u }))
unfolding catch_of
catch-read n c f t u gc gf gt gu =
    step (named (is_class_name c) c) _ c (named-again (is_class_name c) c gc)
    ∙ step (named (is_name f) f) _ f (named-again (is_name f) f gf)
    ∙ step (named (is_name t) t) _ t (named-again (is_name t) t gt)
    ∙ step (named (is_name u) u) _ u (named-again (is_name u) u gu)

-- a name among the words of the line
name-among : (w : Lexeme) (name x : List ℕ) (b : Bool) → IsFound b w → word_of w ≡ Ok name → named (is_name name) name ≡ Ok x → IsSpellable (lexeme.Word x) × (is_name x ≡ true)
name-among w name x b found e n =
    let is : (is_name name ≡ true) × (name ≡ x) = named-is (is_name name) name x n in
    subst (λ (y : List ℕ). IsSpellable (lexeme.Word y) × (is_name y ≡ true)) is.1
    (name-spellable b name (subst (IsFound b) (word-is w name e) found) is.0, is.0)

class-among : (w : Lexeme) (name x : List ℕ) (b : Bool) → IsFound b w → word_of w ≡ Ok name → named (is_class_name name) name ≡ Ok x → IsSpellable (lexeme.Word x) × (is_class_name x ≡ true)
class-among w name x b found e n =
    let is : (is_class_name name ≡ true) × (name ≡ x) = named-is (is_class_name name) name x n in
    subst (λ (y : List ℕ). IsSpellable (lexeme.Word y) × (is_class_name y ≡ true)) is.1
    (class-spellable b name (subst (IsFound b) (word-is w name e) found) is.0, is.0)

catch-of-found : (line : ℕ) (class from to using' : Lexeme) (b0 b1 b2 b3 : Bool) → IsFound b0 class → IsFound b1 from → IsFound b2 to → IsFound b3 using' → Holds AreAgain (catch_of line class from to using')
unfolding catch_of
catch-of-found line class from to using' b0 b1 b2 b3 h0 h1 h2 h3 =
    behind AreAgain (word_of class) _ (λ (c : List ℕ) (ec : word_of class ≡ Ok c).
    behind AreAgain (word_of from) _ (λ (f : List ℕ) (ef : word_of from ≡ Ok f).
    behind AreAgain (word_of to) _ (λ (t : List ℕ) (et : word_of to ≡ Ok t).
    behind AreAgain (word_of using') _ (λ (u : List ℕ) (eu : word_of using' ≡ Ok u).
    behind AreAgain (named (is_class_name c) c) _ (λ (gc : List ℕ) (nc : named (is_class_name c) c ≡ Ok gc).
    behind AreAgain (named (is_name f) f) _ (λ (gf : List ℕ) (nf : named (is_name f) f ≡ Ok gf).
    behind AreAgain (named (is_name t) t) _ (λ (gt : List ℕ) (nt : named (is_name t) t ≡ Ok gt).
    behind AreAgain (named (is_name u) u) _ (λ (gu : List ℕ) (nu : named (is_name u) u ≡ Ok gu).
    let ic : IsSpellable (lexeme.Word gc) × (is_class_name gc ≡ true) = class-among class c gc b0 h0 ec nc in
    let if' : IsSpellable (lexeme.Word gf) × (is_name gf ≡ true) = name-among from f gf b1 h1 ef nf in
    let it : IsSpellable (lexeme.Word gt) × (is_name gt ≡ true) = name-among to t gt b2 h2 et nt in
    let iu : IsSpellable (lexeme.Word gu) × (is_name gu ≡ true) = name-among using' u gu b3 h3 eu nu in
    record {
      fit = (good-word (codes ".catch") refl, (ic.0, (good-word (codes "from") refl, (if'.0, (good-word (codes "to") refl, (it.0, (good-word (codes "using") refl, (iu.0, tt))))))));
      read = λ m. catch-start m (catch_words (record { line = m; class = gc; from = gf; to = gt; «using» = gu })) ∙ catch-read m gc gf gt gu ic.1 if'.1 it.1 iu.1;
    }))))))))

pub catch-found : (line : ℕ) (words : List Lexeme) → AreFound false words → Holds AreAgain (catch_form line words)
catch-found line [] found = tt
catch-found line (class ∷ []) found = tt
catch-found line (class ∷ a ∷ []) found = tt
catch-found line (class ∷ a ∷ from ∷ []) found = tt
catch-found line (class ∷ a ∷ from ∷ b ∷ []) found = tt
catch-found line (class ∷ a ∷ from ∷ b ∷ to ∷ []) found = tt
catch-found line (class ∷ a ∷ from ∷ b ∷ to ∷ c ∷ []) found = tt
catch-found line (class ∷ a ∷ from ∷ b ∷ to ∷ c ∷ u ∷ []) found =
    tested (Holds AreAgain) (is_word (codes "from") a && is_word (codes "to") b && is_word (codes "using") c) _ _
    (λ (_ : (is_word (codes "from") a && is_word (codes "to") b && is_word (codes "using") c) ≡ true).
    catch-of-found line class from to u false (is_text a) (is_text b) (is_text c) found.0 found.1.1.0 found.1.1.1.1.0 found.1.1.1.1.1.1.0)
    (λ (_ : (is_word (codes "from") a && is_word (codes "to") b && is_word (codes "using") c) ≡ false). tt)
catch-found line (class ∷ a ∷ from ∷ b ∷ to ∷ c ∷ u ∷ w ∷ ws) found = tt

-- ---- by the directive

choice : (c : Bool) (x y : Result Form ReadKind) → Holds AreAgain x → Holds AreAgain y → Holds AreAgain (cond c x y)
choice c x y hx hy = tested (Holds AreAgain) c x y (λ (_ : c ≡ true). hx) (λ (_ : c ≡ false). hy)

class-directive-found : (line : ℕ) (first : List ℕ) (words : List Lexeme) → AreFound false words → Holds AreAgain (class_directive line first words)
class-directive-found line first words found =
    choice (bytes_eq first (codes ".class")) _ _ (class-found line words found)
    (choice (bytes_eq first (codes ".super")) _ _ (super-found line words found)
    (choice (bytes_eq first (codes ".implements")) _ _ (implements-found line words found)
    (choice (bytes_eq first (codes ".field")) _ _ (field-found line words found)
    (choice (bytes_eq first (codes ".method")) _ _ (method-found line words found) tt))))

method-directive-found : (line : ℕ) (first : List ℕ) (words : List Lexeme) → AreFound false words → Holds AreAgain (method_directive line first words)
method-directive-found line first words found =
    choice (bytes_eq first (codes ".limit")) _ _ (limit-found words found)
    (choice (bytes_eq first (codes ".line") || bytes_eq first (codes ".var") || bytes_eq first (codes ".throws")) _ _ tt
    (choice (bytes_eq first (codes ".catch")) _ _ (catch-found line words found)
    (choice (bytes_eq first (codes ".end")) _ _ (end-found words) (class-directive-found line first words found))))

pub directive-found : (line : ℕ) (first : List ℕ) (words : List Lexeme) → AreFound false words → Holds AreAgain (directive_form line first words)
directive-found line first words found =
    choice (bytes_eq first (codes ".source") || bytes_eq first (codes ".bytecode")) _ _ (source-found words)
    (choice (bytes_eq first (codes ".interface")) _ _ tt (method-directive-found line first words found))
