-- Flags that were read are read again from themselves.
use Rattle.std.proofs.Common.{◌≡◌, ℕ, Bool, true, false, List, [], ◌∷◌, ◌++◌, Ok, Err, map, cond, refl, ap, sym, ◌∙◌, subst}
use Rattle.std.specs.Prelude.{bytes_eq}
use Rattle.std.specs.List.{list_any, list_all, filter, AllByRecursion}
use Rattle.std.proofs.lemmas.Slice.Eq.{bytes_eq-Decides}
use Rattle.jasmin_lines.specs.declared.fault.ReadKind.TheVariants.{BadOperand}
use Rattle.jasmin_lines.specs.declared.lexeme.Lexeme.{Lexeme}
use Rattle.jasmin_lines.specs.Words.{is_word, flags_of}
use Rattle.text_laws.specs.Spelled.{IsSpellable}
use Rattle.text_laws.proofs.CanonicalForms.{word}
use Rattle.text_laws.proofs.Successes.{same-bytes}
use Rattle.text_laws.proofs.Tests.{or-right, either}
use Rattle.text_laws.proofs.Names.{IsSpellableWord}

-- what holds of all of a list holds of those that a test keeps
pub all-kept : {A : Type 0} (P : A → Type 0) (q : A → Bool) (xs : List A) → AllByRecursion P xs → AllByRecursion P (filter q xs)
all-kept P q [] h = tt
all-kept P q (x ∷ xs) h = by (q x) (all-kept P q xs h.1)
  where
    by : (b : Bool) → AllByRecursion P (filter q xs) → AllByRecursion P (cond b (x ∷ filter q xs) (filter q xs))
    by true more = (h.0, more)
    by false more = more

pub all-by : {A : Type 0} (P Q : A → Type 0) → ((x : A) → P x → Q x) → (xs : List A) → AllByRecursion P xs → AllByRecursion Q xs
all-by P Q f [] h = tt
all-by P Q f (x ∷ xs) h = (f x h.0, all-by P Q f xs h.1)

pub all-mapped : {A B : Type 0} (P : B → Type 0) (g : A → B) (xs : List A) → AllByRecursion (λ x. P (g x)) xs → AllByRecursion P (map g xs)
all-mapped P g [] h = tt
all-mapped P g (x ∷ xs) h = (h.0, all-mapped P g xs h.1)

pub all-joined : {A : Type 0} (P : A → Type 0) (xs ys : List A) → AllByRecursion P xs → AllByRecursion P ys → AllByRecursion P (xs ++ ys)
all-joined P [] ys h more = more
all-joined P (x ∷ xs) ys h more = (h.0, all-joined P xs ys h.1 more)

-- ---- which flags are among others

abbrev among : List (List ℕ) → List ℕ → Bool
among flags flag = list_any (λ x. bytes_eq x flag) flags

abbrev also_among : List (List ℕ) → List ℕ → Bool
also_among flags flag = list_any (λ x. bytes_eq flag x) flags

among-tests : (q : List ℕ → Bool) (known : List (List ℕ)) (flag : List ℕ) → among (filter q known) flag ≡ true → q flag ≡ true
among-tests q [] flag h = absurd (cc)
among-tests q (k ∷ ks) flag h = by (q k) refl h (among-tests q ks flag)
  where
    by : (b : Bool) → q k ≡ b → among (cond b (k ∷ filter q ks) (filter q ks)) flag ≡ true → (among (filter q ks) flag ≡ true → q flag ≡ true) → q flag ≡ true
    by true e has more = either (bytes_eq k flag) (among (filter q ks) flag) has (λ (s : bytes_eq k flag ≡ true). subst (λ (x : List ℕ). q x ≡ true) ((bytes_eq-Decides k flag).0 s) e) more
    by false e has more = more has

abbrev IsKept : (List ℕ → Bool) → List (List ℕ) → List ℕ → Type 0
IsKept q kept flag = q flag ≡ true → among kept flag ≡ true

kept-more : (q : List ℕ → Bool) (k : List ℕ) (ks : List (List ℕ)) (flag : List ℕ) → IsKept q (filter q ks) flag → IsKept q (filter q (k ∷ ks)) flag
kept-more q k ks flag h e = by (q k) (h e)
  where
    by : (b : Bool) → among (filter q ks) flag ≡ true → among (cond b (k ∷ filter q ks) (filter q ks)) flag ≡ true
    by true has = or-right (bytes_eq k flag) (among (filter q ks) flag) has
    by false has = has

kept-first : (q : List ℕ → Bool) (k : List ℕ) (ks : List (List ℕ)) → IsKept q (filter q (k ∷ ks)) k
kept-first q k ks e = rw (e, same-bytes k) refl

all-are-kept : (q : List ℕ → Bool) (known : List (List ℕ)) → AllByRecursion (IsKept q (filter q known)) known
all-are-kept q [] = tt
all-are-kept q (k ∷ ks) = (kept-first q k ks, all-by (IsKept q (filter q ks)) (IsKept q (filter q (k ∷ ks))) (λ flag h. kept-more q k ks flag h) ks (all-are-kept q ks))

same-tests : (a b : Bool) → (a ≡ true → b ≡ true) → (b ≡ true → a ≡ true) → a ≡ b
same-tests true b f g = sym (f refl)
same-tests false true f g = g refl
same-tests false false f g = refl

filter-same : (p q : List ℕ → Bool) (xs : List (List ℕ)) → AllByRecursion (λ x. p x ≡ q x) xs → filter p xs ≡ filter q xs
filter-same p q [] h = refl
filter-same p q (x ∷ xs) h = rw (h.0, filter-same p q xs h.1) refl

filter-again : (q : List ℕ → Bool) (known : List (List ℕ)) → filter (among (filter q known)) known ≡ filter q known
filter-again q known =
    filter-same (among (filter q known)) q known
    (all-by (IsKept q (filter q known)) (λ x. among (filter q known) x ≡ q x) (λ x h. same-tests (among (filter q known) x) (q x) (among-tests q known x) h) known (all-are-kept q known))

-- ---- flags as words

among-words : (flags : List (List ℕ)) (flag : List ℕ) → list_any (is_word flag) (map word flags) ≡ among flags flag
among-words [] flag = refl
among-words (x ∷ flags) flag = rw (among-words flags flag) refl

filter-by : (p q : List ℕ → Bool) → ((x : List ℕ) → p x ≡ q x) → (xs : List (List ℕ)) → filter p xs ≡ filter q xs
filter-by p q same [] = refl
filter-by p q same (x ∷ xs) = rw (same x, filter-by p q same xs) refl

self-among : (known : List (List ℕ)) → AllByRecursion (λ k. also_among known k ≡ true) known
self-among [] = tt
self-among (k ∷ ks) = (rw (same-bytes k) refl, all-by (λ x. also_among ks x ≡ true) (λ x. also_among (k ∷ ks) x ≡ true) (λ x h. or-right (bytes_eq x k) (also_among ks x) h) ks (self-among ks))

all-flags : (known flags : List (List ℕ)) → AllByRecursion (λ k. also_among known k ≡ true) flags → list_all (λ w. list_any (λ flag. is_word flag w) known) (map word flags) ≡ true
all-flags known [] h = refl
all-flags known (x ∷ flags) h = rw (h.0, all-flags known flags h.1) refl

chosen-is : (b : Bool) (xs ys : List (List ℕ)) → cond b (Ok xs) (Err BadOperand) ≡ Ok ys → xs ≡ ys
chosen-is true xs ys e = cc
chosen-is false xs ys e = absurd (cc)

pub flags-are : (known flags : List (List ℕ)) (words : List Lexeme) → flags_of known words ≡ Ok flags → filter (λ flag. list_any (is_word flag) words) known ≡ flags
flags-are known flags words e = chosen-is _ _ flags e

again-by : (q : List ℕ → Bool) (known : List (List ℕ)) → flags_of known (map word (filter q known)) ≡ Ok (filter q known)
again-by q known =
    let are : list_all (λ w. list_any (λ flag. is_word flag w) known) (map word (filter q known)) ≡ true = all-flags known (filter q known) (all-kept (λ k. also_among known k ≡ true) q known (self-among known)) in
    rw are (ap Ok (filter-by (λ flag. list_any (is_word flag) (map word (filter q known))) (among (filter q known)) (λ flag. among-words (filter q known) flag) known ∙ filter-again q known))

pub flags-again : (known flags : List (List ℕ)) (words : List Lexeme) → flags_of known words ≡ Ok flags → flags_of known (map word flags) ≡ Ok flags
flags-again known flags words e = subst (λ (x : List (List ℕ)). flags_of known (map word x) ≡ Ok x) (flags-are known flags words e) (again-by (λ flag. list_any (is_word flag) words) known)

pub flags-spellable : (known flags : List (List ℕ)) (words : List Lexeme) → AllByRecursion IsSpellableWord known → flags_of known words ≡ Ok flags → AllByRecursion IsSpellable (map word flags)
flags-spellable known flags words good e =
    all-mapped IsSpellable word flags (subst (AllByRecursion IsSpellableWord) (flags-are known flags words e) (all-kept IsSpellableWord (λ flag. list_any (is_word flag) words) known good))
