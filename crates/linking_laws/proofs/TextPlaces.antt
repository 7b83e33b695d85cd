-- The text constants of a program are those of the text, each once, and the number of one is its place among them.
use Rattle.std.proofs.Common.{◌≡◌, ℕ, ◌+◌, ◌≤◌, Bool, true, false, List, [], ◌∷◌, ◌++◌, Option, Some, None, refl, sym, ap, ◌∙◌, subst, arith, append_assoc, append-nil, length-append}
use Rattle.std.specs.Prelude.{not, ◌&&◌, ◌||◌, if◌then◌else◌, length, filter, flat_map, is_some, bytes_eq}
use Rattle.std.specs.List.{list_any, position_from}
use Rattle.std.proofs.lemmas.Bool.{false≢true}
use Rattle.std.proofs.lemmas.Slice.Eq.{bytes_eq-Decides}
use Rattle.jasmin_lines.specs.declared.class_text.Operand.{Operand}
use Rattle.jasmin_lines.specs.declared.class_text.Operand.TheVariants as operand
use Rattle.jasmin_lines.specs.Plain.{PlainClassText, PlainMethodText, PlainLineText}
use Rattle.name_resolver.specs.Index.{value_of}
use Rattle.name_resolver.specs.Names.{next}
use Rattle.class_linker.specs.Bodies.{PlainTexts, no_texts, added_text, with_text, with_operands, with_lines, with_bodies, with_all, texts_of}
use Rattle.linking_laws.specs.Declared.{or_later, text_in, texts_used, each_once, text_place}
use Rattle.linking_laws.proofs.Numbered.{next_number}
use Rattle.linking_laws.proofs.Places.{value_added, place_both}

-- ---- one list of text constants

-- all of a list, one after another
unfoldable with_texts : List (List ℕ) → PlainTexts → PlainTexts
with_texts [] t = t
with_texts (x ∷ xs) t = with_texts xs (with_text x t)

texts_both : (xs ys : List (List ℕ)) (t : PlainTexts) → with_texts (xs ++ ys) t ≡ with_texts ys (with_texts xs t)
unfolding with_texts
texts_both [] ys t = refl
texts_both (x ∷ xs) ys t = texts_both xs ys (with_text x t)

of_operands : (xs : List Operand) (t : PlainTexts) → with_operands xs t ≡ with_texts (flat_map text_in xs) t
unfolding with_operands with_texts
of_operands [] t = refl
of_operands (operand.Text text ∷ xs) t = of_operands xs (with_text text t)
of_operands (operand.Number n ∷ xs) t = of_operands xs t
of_operands (operand.Word word ∷ xs) t = of_operands xs t

of_lines : (ls : List PlainLineText) (t : PlainTexts) → with_lines ls t ≡ with_texts (flat_map (λ l. flat_map text_in l.operands) ls) t
unfolding with_lines with_texts
of_lines [] t = refl
of_lines (l ∷ ls) t =
    of_lines ls (with_operands l.operands t) ∙ ap (with_texts (flat_map (λ k. flat_map text_in k.operands) ls)) (of_operands l.operands t)
    ∙ sym (texts_both (flat_map text_in l.operands) (flat_map (λ k. flat_map text_in k.operands) ls) t)

of_bodies : (ms : List PlainMethodText) (t : PlainTexts) → with_bodies ms t ≡ with_texts (flat_map (λ m. flat_map (λ l. flat_map text_in l.operands) m.lines) ms) t
unfolding with_bodies with_texts
of_bodies [] t = refl
of_bodies (m ∷ ms) t =
    of_bodies ms (with_lines m.lines t) ∙ ap (with_texts (flat_map (λ k. flat_map (λ l. flat_map text_in l.operands) k.lines) ms)) (of_lines m.lines t)
    ∙ sym (texts_both (flat_map (λ l. flat_map text_in l.operands) m.lines) (flat_map (λ k. flat_map (λ l. flat_map text_in l.operands) k.lines) ms) t)

of_all : (cs : List PlainClassText) (t : PlainTexts) → with_all cs t ≡ with_texts (texts_used cs) t
unfolding with_all with_texts
of_all [] t = refl
of_all (c ∷ cs) t =
    of_all cs (with_bodies c.methods t) ∙ ap (with_texts (texts_used cs)) (of_bodies c.methods t)
    ∙ sym (texts_both (flat_map (λ m. flat_map (λ l. flat_map text_in l.operands) m.lines) c.methods) (texts_used cs) t)

-- ---- filters

-- a filter after a weaker one
filter_twice : (p q : List ℕ → Bool) (xs : List (List ℕ)) → ((x : List ℕ) → p x ≡ true → q x ≡ true) → filter p (filter q xs) ≡ filter p xs
filter_twice p q [] h = refl
filter_twice p q (x ∷ xs) h = by (p x) refl (q x) refl (filter_twice p q xs h)
  where
    by : (a : Bool) → p x ≡ a → (b : Bool) → q x ≡ b → filter p (filter q xs) ≡ filter p xs → filter p (if b then x ∷ filter q xs else filter q xs) ≡ (if a then x ∷ filter p xs else filter p xs)
    by true is true also more = ap (λ (c : Bool). if c then x ∷ filter p (filter q xs) else filter p (filter q xs)) is ∙ ap (λ (ys : List (List ℕ)). x ∷ ys) more
    by true is false also more = absurd (false≢true (sym also ∙ h x is))
    by false is true also more = ap (λ (c : Bool). if c then x ∷ filter p (filter q xs) else filter p (filter q xs)) is ∙ more
    by false is false also more = more

-- a filter by two tests
filter_both : (p q r : List ℕ → Bool) (xs : List (List ℕ)) → ((x : List ℕ) → r x ≡ (q x && p x)) → filter p (filter q xs) ≡ filter r xs
filter_both p q r [] h = refl
filter_both p q r (x ∷ xs) h = by (q x) refl (p x) refl (filter_both p q r xs h)
  where
    by : (b : Bool) → q x ≡ b → (a : Bool) → p x ≡ a → filter p (filter q xs) ≡ filter r xs → filter p (if b then x ∷ filter q xs else filter q xs) ≡ (if r x then x ∷ filter r xs else filter r xs)
    by true also true is rest =
        ap (λ (c : Bool). if c then x ∷ filter p (filter q xs) else filter p (filter q xs)) is ∙ ap (λ (ys : List (List ℕ)). x ∷ ys) rest
        ∙ ap (λ (c : Bool). if c then x ∷ filter r xs else filter r xs) (sym (h x ∙ ap (λ (c : Bool). c && p x) also ∙ is))
    by true also false is rest =
        ap (λ (c : Bool). if c then x ∷ filter p (filter q xs) else filter p (filter q xs)) is ∙ rest
        ∙ ap (λ (c : Bool). if c then x ∷ filter r xs else filter r xs) (sym (h x ∙ ap (λ (c : Bool). c && p x) also ∙ is))
    by false also a is rest = rest ∙ ap (λ (c : Bool). if c then x ∷ filter r xs else filter r xs) (sym (h x ∙ ap (λ (c : Bool). c && p x) also))

-- a filter that lets all through
filter_all : (xs : List (List ℕ)) → filter (λ x. true) xs ≡ xs
filter_all [] = refl
filter_all (x ∷ xs) = ap (λ (ys : List (List ℕ)). x ∷ ys) (filter_all xs)

-- ---- numbers

-- a text is among these
abbrev is_in : List ℕ → List (List ℕ) → Bool
is_in text names = list_any (λ other. bytes_eq text other) names

-- there is a place only where it is among them
place_there : (text : List ℕ) (n : ℕ) (names : List (List ℕ)) → is_some (position_from (λ other. bytes_eq text other) n names) ≡ is_in text names
place_there text n [] = refl
place_there text n (x ∷ names) = by (bytes_eq text x) (place_there text (n + 1) names)
  where
    by : (b : Bool) → is_some (position_from (λ other. bytes_eq text other) (n + 1) names) ≡ is_in text names → is_some (if b then Some n else position_from (λ other. bytes_eq text other) (n + 1) names) ≡ (b || is_in text names)
    by true more = refl
    by false more = more

in_both : (text : List ℕ) (names : List (List ℕ)) (x : List ℕ) → is_in text (names ++ x ∷ []) ≡ (is_in text names || bytes_eq text x)
in_both text [] x = by (bytes_eq text x)
  where
    by : (b : Bool) → (b || false) ≡ (false || b)
    by true = refl
    by false = refl
in_both text (y ∷ names) x = by (bytes_eq text y) (in_both text names x)
  where
    by : (b : Bool) → is_in text (names ++ x ∷ []) ≡ (is_in text names || bytes_eq text x) → (b || is_in text (names ++ x ∷ [])) ≡ ((b || is_in text names) || bytes_eq text x)
    by true h = refl
    by false h = h

-- the numbers are places
record TextsSo (t : PlainTexts) : Type 0 where
  count : t.count ≡ length t.names
  rows : (text : List ℕ) → value_of text t.rows ≡ position_from (λ other. bytes_eq text other) 0 t.names

-- a text more
text_more : (text : List ℕ) (t : PlainTexts) → t.count + 1 ≤ 2147483647 → TextsSo t → TextsSo (added_text text t)
text_more text t few so = record {
  count = omega (arith, one, so.count, length-append t.names (text ∷ []));
  rows = λ key. value_added key text t.count t.rows ∙ ap (λ (o : Option ℕ). or_later o (if bytes_eq key text then Some t.count else None)) (so.rows key)
      ∙ ap (λ (k : ℕ). or_later (position_from (λ other. bytes_eq key other) 0 t.names) (if bytes_eq key text then Some k else None)) here
      ∙ sym (place_both (λ other. bytes_eq key other) 0 t.names (text ∷ []));
}
  where
    one : next t.count ≡ t.count + 1
    one = next_number t.count (omega (arith, few))

    here : t.count ≡ 0 + length t.names
    here = omega (arith, so.count)

-- the texts of a list, after those that are there
record AddedSo (xs : List (List ℕ)) (t new : PlainTexts) : Type 0 where
  so : TextsSo new
  names : new.names ≡ t.names ++ filter (λ x. not (is_in x t.names)) (each_once xs)

-- bytes that are the same
same_text : (x y : List ℕ) → bytes_eq x y ≡ true → x ≡ y
same_text x y e = (bytes_eq-Decides x y).0 e

-- what isn't among names isn't one of them
apart : (names : List (List ℕ)) (x : List ℕ) → is_in x names ≡ true → (y : List ℕ) → not (is_in y names) ≡ true → not (bytes_eq y x) ≡ true
apart names x there y out = by (bytes_eq y x) refl
  where
    by : (b : Bool) → bytes_eq y x ≡ b → not b ≡ true
    by false is = refl
    by true is = absurd (false≢true (sym (ap not (subst (λ (z : List ℕ). is_in z names ≡ true) (sym (same_text y x is)) there)) ∙ out))

-- neither among names nor this one
neither_in : (names : List (List ℕ)) (x y : List ℕ) → not (is_in y (names ++ x ∷ [])) ≡ (not (bytes_eq y x) && not (is_in y names))
neither_in names x y = ap not (in_both y names x) ∙ by (is_in y names) (bytes_eq y x)
  where
    by : (a b : Bool) → not (a || b) ≡ (not b && not a)
    by true true = refl
    by true false = refl
    by false true = refl
    by false false = refl

added_so : (xs : List (List ℕ)) (t : PlainTexts) → t.count + length xs ≤ 2147483647 → TextsSo t → AddedSo xs t (with_texts xs t)
unfolding with_texts
added_so [] t few so = record { so = so; names = sym (append-nil t.names) }
added_so (x ∷ xs) t few so = by (is_in x t.names) refl (λ u h k. added_so xs u h k)
  where
    ys : List (List ℕ)
    ys = each_once xs

    new : List ℕ → Bool
    new y = not (is_in y t.names)

    others : List (List ℕ)
    others = filter (λ other. not (bytes_eq other x)) ys

    is_there : is_some (value_of x t.rows) ≡ is_in x t.names
    is_there = ap is_some (so.rows x) ∙ place_there x 0 t.names

    by : (b : Bool) → is_in x t.names ≡ b → ((u : PlainTexts) → u.count + length xs ≤ 2147483647 → TextsSo u → AddedSo xs u (with_texts xs u)) → AddedSo (x ∷ xs) t (with_texts xs (with_text x t))
    by true is again =
        let same : with_text x t ≡ t = ap (λ (c : Bool). if c then t else added_text x t) (is_there ∙ is) in
        let more : AddedSo xs t (with_texts xs t) = again t (omega (arith, few)) so in
        let names : filter new (each_once (x ∷ xs)) ≡ filter new ys = ap (λ (c : Bool). if not c then x ∷ filter new others else filter new others) is ∙ filter_twice new (λ other. not (bytes_eq other x)) ys (apart t.names x is) in
        subst (λ (u : PlainTexts). AddedSo (x ∷ xs) t (with_texts xs u)) (sym same) (record { so = more.so; names = more.names ∙ ap (λ (zs : List (List ℕ)). t.names ++ zs) (sym names) })
    by false is again =
        let same : with_text x t ≡ added_text x t = ap (λ (c : Bool). if c then t else added_text x t) (is_there ∙ is) in
        let one : next t.count ≡ t.count + 1 = next_number t.count (omega (arith, few)) in
        let more : AddedSo xs (added_text x t) (with_texts xs (added_text x t)) = again (added_text x t) (omega (arith, one, few)) (text_more x t (omega (arith, few)) so) in
        let names : filter new (each_once (x ∷ xs)) ≡ x ∷ filter new others = ap (λ (c : Bool). if not c then x ∷ filter new others else filter new others) is in
        let rest : filter new others ≡ filter (λ y. not (is_in y (t.names ++ x ∷ []))) ys = filter_both new (λ other. not (bytes_eq other x)) (λ y. not (is_in y (t.names ++ x ∷ []))) ys (neither_in t.names x) in
        subst (λ (u : PlainTexts). AddedSo (x ∷ xs) t (with_texts xs u)) (sym same) (record {
          so = more.so;
          names = more.names ∙ append_assoc t.names (x ∷ []) (filter (λ y. not (is_in y (t.names ++ x ∷ []))) ys) ∙ ap (λ (zs : List (List ℕ)). t.names ++ x ∷ zs) (sym rest) ∙ ap (λ (zs : List (List ℕ)). t.names ++ zs) (sym names);
        })

-- the text constants of all classes
pub texts_are : (classes : List PlainClassText) → length (texts_used classes) ≤ 2147483647 → (texts_of classes).names ≡ each_once (texts_used classes)
texts_are classes few =
    ap (λ (t : PlainTexts). t.names) (of_all classes no_texts) ∙ (added_so (texts_used classes) no_texts (omega (arith, few)) (record { count = refl; rows = λ text. refl })).names ∙ filter_all (each_once (texts_used classes))

-- and their numbers
pub text_found : (classes : List PlainClassText) (text : List ℕ) → length (texts_used classes) ≤ 2147483647 → value_of text (texts_of classes).rows ≡ text_place classes text
text_found classes text few =
    let all : AddedSo (texts_used classes) no_texts (with_texts (texts_used classes) no_texts) = added_so (texts_used classes) no_texts (omega (arith, few)) (record { count = refl; rows = λ key. refl }) in
    let so : TextsSo (texts_of classes) = subst TextsSo (sym (of_all classes no_texts)) all.so in
    so.rows text ∙ ap (position_from (λ other. bytes_eq text other) 0) (texts_are classes few)
