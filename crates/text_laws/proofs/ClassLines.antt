-- The lines of a class are read again: its head, its super, what it implements, and its fields.
use Rattle.std.proofs.Common.{◌≡◌, ℕ, suc, Bool, true, false, nat_eq, List, [], ◌∷◌, ◌++◌, Option, Some, None, Result, Ok, Err, ℤ, length, map, refl, ap, sym, ◌∙◌, subst, arith}
use Rattle.std.specs.Prelude.{codes}
use Rattle.std.proofs.lemmas.Bool.Decides.{nat_tests}
use Rattle.std.specs.List.{AllByRecursion}
use Rattle.std.proofs.lemmas.List.{append_assoc}
use Rattle.vm_model.specs.Failures.{◌>>=◌}
use Rattle.jasmin_lines.specs.declared.class_text.NameAt.{NameAt}
use Rattle.jasmin_lines.specs.declared.fault.ReadKind.{ReadKind}
use Rattle.jasmin_lines.specs.declared.form.Form.TheVariants as form
use Rattle.jasmin_lines.specs.declared.lexeme.Lexeme.{Lexeme}
use Rattle.jasmin_lines.specs.declared.lexeme.Lexeme.TheVariants as lexeme
use Rattle.jasmin_lines.specs.Words.{one, word_of, is_word, is_name, is_class_name, name_of, class_name_of}
use Rattle.jasmin_lines.specs.Directives.{split_last, class_flags, field_flags, empty_class, class_form, name_at, after_sign, valued_by, valued, field_of, field_form}
use Rattle.jasmin_lines.specs.Forms.{form_of}
use Rattle.text_laws.specs.Sizes.{IsSmall}
use Rattle.text_laws.specs.Spelled.{IsSpellable}
use Rattle.text_laws.specs.OfText.{is_text, IsFound, AreFound}
use Rattle.text_laws.proofs.Tests.{tested}
use Rattle.text_laws.proofs.Small.{SmallIfSome}
use Rattle.text_laws.proofs.CanonicalForms.{word, value_words}
use Rattle.text_laws.proofs.Again.{AreAgain}
use Rattle.text_laws.proofs.Names.{good-word, class-spellable, name-spellable}
use Rattle.text_laws.proofs.Flags.{all-joined}
use Rattle.text_laws.proofs.Known.{class-flags-again, field-flags-again, class-flags-fit, field-flags-fit}
use Rattle.text_laws.proofs.Successes.{Holds, behind, step, one-is, word-is, named-again, IsNamed, class-name-is, name-is, split-again, split-is, last_text, last-more, front-found, last-found}

-- ---- `.class`

class-start : (n : ℕ) (ws : List Lexeme) → form_of n (lexeme.Word (codes ".class") ∷ ws) ≡ class_form n ws
unfolding form_of
class-start n ws = refl

class-read : (n : ℕ) (flags : List (List ℕ)) (name : List ℕ) → class_flags (map word flags) ≡ Ok flags → is_class_name name ≡ true → class_form n (map word flags ++ lexeme.Word name ∷ []) ≡ Ok (form.Class (empty_class n flags name))
unfolding class_form
class-read n flags name f good =
    step (split_last (map word flags ++ lexeme.Word name ∷ [])) _ (map word flags, lexeme.Word name) (split-again (map word flags) (lexeme.Word name))
    ∙ step (class_flags (map word flags)) _ flags f
    ∙ step (class_name_of (lexeme.Word name)) _ name (named-again (is_class_name name) name good)

filled : (name : List ℕ) → is_class_name name ≡ true → nat_eq (length name) 0 ≡ false
filled [] h = absurd (cc)
filled (b ∷ rest) h = more (length rest)
  where
    more : (n : ℕ) → nat_eq (suc n) 0 ≡ false
    more n = grind (arith, nat_tests)

pub last-named : (words : List Lexeme) (p : List Lexeme × Lexeme) (w : Lexeme) → AreFound false words → words ≡ p.0 ++ p.1 ∷ [] → p.1 ≡ w → IsFound (last_text false p.0) w
last-named words p w found e same = subst (IsFound (last_text false p.0)) same (last-found false p.0 p.1 (subst (AreFound false) e found))

pub class-found : (line : ℕ) (words : List Lexeme) → AreFound false words → Holds AreAgain (class_form line words)
unfolding class_form
class-found line words found =
    behind AreAgain (split_last words) _ (λ (p : List Lexeme × Lexeme) (e : split_last words ≡ Ok p).
    behind AreAgain (class_flags p.0) _ (λ (flags : List (List ℕ)) (f : class_flags p.0 ≡ Ok flags).
    behind AreAgain (class_name_of p.1) _ (λ (name : List ℕ) (n : class_name_of p.1 ≡ Ok name).
    let is : IsNamed is_class_name p.1 name = class-name-is p.1 name n in
    let last : IsFound (last_text false p.0) (lexeme.Word name) = last-named words p (lexeme.Word name) found (split-is words p e) is.0 in (
      record {
        fit = (good-word (codes ".class") refl, all-joined IsSpellable (map word flags) (lexeme.Word name ∷ []) (class-flags-fit flags p.0 f) (class-spellable (last_text false p.0) name last is.1, tt));
        read = λ m. class-start m (map word flags ++ lexeme.Word name ∷ []) ∙ class-read m flags name (class-flags-again flags p.0 f) is.1;
      },
      filled name is.1,
    ))))

-- ---- `.super` and `.implements`

super-start : (n : ℕ) (ws : List Lexeme) → form_of n (lexeme.Word (codes ".super") ∷ ws) ≡ (name_at n ws >>= λ x. Ok (form.Super x))
unfolding form_of
super-start n ws = refl

implements-start : (n : ℕ) (ws : List Lexeme) → form_of n (lexeme.Word (codes ".implements") ∷ ws) ≡ (name_at n ws >>= λ x. Ok (form.Implements x))
unfolding form_of
implements-start n ws = refl

name-at-read : (n : ℕ) (name : List ℕ) → is_class_name name ≡ true → name_at n (lexeme.Word name ∷ []) ≡ Ok (record { line = n; name = name })
unfolding name_at
name-at-read n name good = step (class_name_of (lexeme.Word name)) _ name (named-again (is_class_name name) name good)

abbrev NameFits : NameAt → Type 0
NameFits x = IsSpellable (lexeme.Word x.name) × (is_class_name x.name ≡ true)

name-at-found : (line : ℕ) (words : List Lexeme) → AreFound false words → Holds NameFits (name_at line words)
unfolding name_at
name-at-found line words found =
    behind NameFits (one words) _ (λ (w : Lexeme) (e : one words ≡ Ok w).
    behind NameFits (class_name_of w) _ (λ (name : List ℕ) (n : class_name_of w ≡ Ok name).
    let is : IsNamed is_class_name w name = class-name-is w name n in
    let all : AreFound false (w ∷ []) = subst (AreFound false) (one-is words w e) found in
    (class-spellable false name (subst (IsFound false) is.0 all.0) is.1, is.1)))

name-fits : (line : ℕ) (words : List Lexeme) (x : NameAt) → AreFound false words → name_at line words ≡ Ok x → NameFits x
name-fits line words x found e = subst (Holds NameFits) e (name-at-found line words found)

pub super-found : (line : ℕ) (words : List Lexeme) → AreFound false words → Holds AreAgain (name_at line words >>= λ x. Ok (form.Super x))
super-found line words found =
    behind AreAgain (name_at line words) (λ x. Ok (form.Super x)) (λ (x : NameAt) (e : name_at line words ≡ Ok x).
    let fits : NameFits x = name-fits line words x found e in
    record {
      fit = (good-word (codes ".super") refl, (fits.0, tt));
      read = λ m. super-start m (lexeme.Word x.name ∷ []) ∙ ap (λ (r : Result NameAt ReadKind). r >>= λ y. Ok (form.Super y)) (name-at-read m x.name fits.1);
    })

pub implements-found : (line : ℕ) (words : List Lexeme) → AreFound false words → Holds AreAgain (name_at line words >>= λ x. Ok (form.Implements x))
implements-found line words found =
    behind AreAgain (name_at line words) (λ x. Ok (form.Implements x)) (λ (x : NameAt) (e : name_at line words ≡ Ok x).
    let fits : NameFits x = name-fits line words x found e in
    record {
      fit = (good-word (codes ".implements") refl, (fits.0, tt));
      read = λ m. implements-start m (lexeme.Word x.name ∷ []) ∙ ap (λ (r : Result NameAt ReadKind). r >>= λ y. Ok (form.Implements y)) (name-at-read m x.name fits.1);
    })

-- ---- `.field`

abbrev ValuedFits : List Lexeme × Option ℤ → Type 0
ValuedFits v = AreFound false v.0 × SmallIfSome v.1

signed-fits : (words front : List Lexeme) (n : ℤ) (r : Result (List Lexeme × Lexeme) ReadKind) → AreFound false words → AreFound false front → IsSmall n → split_last front ≡ r → ValuedFits (after_sign words n r)
signed-fits words front n (Err kind) found h small e = (found, tt)
signed-fits words front n (Ok p) found h small e =
    tested ValuedFits (is_word (codes "=") p.1) _ _
    (λ (_ : is_word (codes "=") p.1 ≡ true). (front-found false p.0 p.1 (subst (AreFound false) (split-is front p e) h), small))
    (λ (_ : is_word (codes "=") p.1 ≡ false). (found, tt))

pub found-small : (f : Bool) (n : ℤ) → IsFound f (lexeme.Number n) → IsSmall n
found-small true n h = h
found-small false n h = h

last-fits : (words front : List Lexeme) (last : Lexeme) → AreFound false words → split_last words ≡ Ok (front, last) → ValuedFits (valued_by words (Ok (front, last)))
last-fits words front (lexeme.Word b) found e = (found, tt)
last-fits words front (lexeme.Text t) found e = (found, tt)
last-fits words front (lexeme.Number n) found e =
    let all : AreFound false (front ++ lexeme.Number n ∷ []) = subst (AreFound false) (split-is words (front, lexeme.Number n) e) found in
    signed-fits words front n (split_last front) found (front-found false front (lexeme.Number n) all) (found-small (last_text false front) n (last-found false front (lexeme.Number n) all)) refl

valued-fits : (words : List Lexeme) (r : Result (List Lexeme × Lexeme) ReadKind) → AreFound false words → split_last words ≡ r → ValuedFits (valued_by words r)
valued-fits words (Err kind) found e = (found, tt)
valued-fits words (Ok p) found e = last-fits words p.0 p.1 found e

field-start : (n : ℕ) (ws : List Lexeme) → form_of n (lexeme.Word (codes ".field") ∷ ws) ≡ field_of n (valued ws).0 (valued ws).1
unfolding form_of
field-start n ws = refl

-- the words of a field up to its descriptor
abbrev to_desc : List Lexeme → List ℕ → List ℕ → List Lexeme
to_desc xs name desc = xs ++ lexeme.Word name ∷ lexeme.Word desc ∷ []

desc-last : (xs : List Lexeme) (name desc : List ℕ) → split_last (to_desc xs name desc) ≡ Ok (xs ++ lexeme.Word name ∷ [], lexeme.Word desc)
desc-last xs name desc =
    ap split_last (sym (append_assoc xs (lexeme.Word name ∷ []) (lexeme.Word desc ∷ []))) ∙ split-again (xs ++ lexeme.Word name ∷ []) (lexeme.Word desc)

valued-again : (xs : List Lexeme) (name desc : List ℕ) (value : Option ℤ) → valued (xs ++ lexeme.Word name ∷ lexeme.Word desc ∷ value_words value) ≡ (to_desc xs name desc, value)
valued-again xs name desc None = ap (valued_by (to_desc xs name desc)) (desc-last xs name desc)
valued-again xs name desc (Some n) =
    let all : List Lexeme = xs ++ lexeme.Word name ∷ lexeme.Word desc ∷ lexeme.Word (codes "=") ∷ lexeme.Number n ∷ [] in
    let last : split_last (xs ++ lexeme.Word name ∷ lexeme.Word desc ∷ lexeme.Word (codes "=") ∷ lexeme.Number n ∷ []) ≡ Ok (xs ++ lexeme.Word name ∷ lexeme.Word desc ∷ lexeme.Word (codes "=") ∷ [], lexeme.Number n) =
    ap split_last (sym (append_assoc xs (lexeme.Word name ∷ lexeme.Word desc ∷ lexeme.Word (codes "=") ∷ []) (lexeme.Number n ∷ []))) ∙ split-again (xs ++ lexeme.Word name ∷ lexeme.Word desc ∷ lexeme.Word (codes "=") ∷ []) (lexeme.Number n) in
    let before : split_last (xs ++ lexeme.Word name ∷ lexeme.Word desc ∷ lexeme.Word (codes "=") ∷ []) ≡ Ok (to_desc xs name desc, lexeme.Word (codes "=")) =
    ap split_last (sym (append_assoc xs (lexeme.Word name ∷ lexeme.Word desc ∷ []) (lexeme.Word (codes "=") ∷ []))) ∙ split-again (to_desc xs name desc) (lexeme.Word (codes "=")) in
    ap (valued_by all) last ∙ ap (after_sign all n) before

field-read : (n : ℕ) (flags : List (List ℕ)) (name desc : List ℕ) (value : Option ℤ) → field_flags (map word flags) ≡ Ok flags → is_name name ≡ true → field_of n (to_desc (map word flags) name desc) value ≡ Ok (form.Field (record { line = n; flags = flags; name = name; desc = desc; value = value }))
unfolding field_of
field-read n flags name desc value f good =
    step (split_last (to_desc (map word flags) name desc)) _ (map word flags ++ lexeme.Word name ∷ [], lexeme.Word desc) (desc-last (map word flags) name desc)
    ∙ step (split_last (map word flags ++ lexeme.Word name ∷ [])) _ (map word flags, lexeme.Word name) (split-again (map word flags) (lexeme.Word name))
    ∙ step (field_flags (map word flags)) _ flags f
    ∙ step (name_of (lexeme.Word name)) _ name (named-again (is_name name) name good)

values-fit : (value : Option ℤ) → SmallIfSome value → AllByRecursion IsSpellable (value_words value)
values-fit None h = tt
values-fit (Some n) h = (good-word (codes "=") refl, (h, tt))

field-of-found : (line : ℕ) (words : List Lexeme) (value : Option ℤ) → AreFound false words → SmallIfSome value → Holds AreAgain (field_of line words value)
unfolding field_of
field-of-found line words value found small =
    behind AreAgain (split_last words) _ (λ (p : List Lexeme × Lexeme) (e : split_last words ≡ Ok p).
    behind AreAgain (split_last p.0) _ (λ (q : List Lexeme × Lexeme) (e' : split_last p.0 ≡ Ok q).
    behind AreAgain (field_flags q.0) _ (λ (flags : List (List ℕ)) (f : field_flags q.0 ≡ Ok flags).
    behind AreAgain (word_of p.1) _ (λ (desc : List ℕ) (d : word_of p.1 ≡ Ok desc).
    behind AreAgain (name_of q.1) _ (λ (name : List ℕ) (n : name_of q.1 ≡ Ok name).
    let is : IsNamed is_name q.1 name = name-is q.1 name n in
    let front : p.0 ≡ q.0 ++ q.1 ∷ [] = split-is p.0 q e' in
    let all : AreFound false p.0 = front-found false p.0 p.1 (subst (AreFound false) (split-is words p e) found) in
    let named_found : IsFound (last_text false q.0) (lexeme.Word name) = last-named p.0 q (lexeme.Word name) all front is.0 in
    let no_text : last_text false p.0 ≡ false = ap (last_text false) front ∙ last-more false q.0 q.1 ∙ ap is_text is.0 in
    let desc_found : IsFound false (lexeme.Word desc) = subst (λ (b : Bool). IsFound b (lexeme.Word desc)) no_text (last-named words p (lexeme.Word desc) found (split-is words p e) (word-is p.1 desc d)) in
    record {
      fit = (good-word (codes ".field") refl, all-joined IsSpellable (map word flags) (lexeme.Word name ∷ lexeme.Word desc ∷ value_words value) (field-flags-fit flags q.0 f) (name-spellable (last_text false q.0) name named_found is.1, (desc_found, values-fit value small)));
      read = λ m. field-start m (map word flags ++ lexeme.Word name ∷ lexeme.Word desc ∷ value_words value) ∙ ap (λ (v : List Lexeme × Option ℤ). field_of m v.0 v.1) (valued-again (map word flags) name desc value) ∙ field-read m flags name desc value (field-flags-again flags q.0 f) is.1;
    })))))

pub field-found : (line : ℕ) (words : List Lexeme) → AreFound false words → Holds AreAgain (field_form line words)
field-found line words found =
    let fits : ValuedFits (valued words) = valued-fits words (split_last words) found refl in
    field-of-found line (valued words).0 (valued words).1 fits.0 fits.1
