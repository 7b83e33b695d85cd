-- The word of a method tells its class, its name and its descriptor.
use Rattle.std.proofs.Common.{◌≡◌, ℕ, suc, Bool, true, false, List, [], ◌∷◌, ◌++◌, refl, sym, ap, ◌∙◌, subst, arith, ⊎_elim}
use Rattle.std.specs.Prelude.{not, length, ◌==◌, ◌||◌, codes, bytes_eq}
use Rattle.std.specs.List.{list_all}
use Rattle.std.proofs.lemmas.Bool.{false≢true}
use Rattle.std.proofs.lemmas.Slice.Eq.{bytes_eq-Decides}
use Rattle.jasmin_lines.specs.Words.{is_name_byte, is_class_byte, is_filled, is_name, is_class_name, is_method_name}
use Rattle.name_resolver.specs.Words.{method_key}
use Rattle.shape_laws.proofs.Tests.{both, either, same}

-- a byte isn't among these
abbrev pub Without : ℕ → List ℕ → Type 0
Without b [] = Unit {0}
Without b (x ∷ xs) = (x ≡ b → ⊥) × Without b xs

-- the first elements of equal lists
heads : {A : Type 0} (x y : A) (xs ys : List A) → x ∷ xs ≡ y ∷ ys → x ≡ y
heads x y xs ys e = cc

-- the rests of equal lists
tails : {A : Type 0} (x y : A) (xs ys : List A) → x ∷ xs ≡ y ∷ ys → xs ≡ ys
tails x y xs ys e = cc

-- a byte stands where it stands
pub not_inside : (b : ℕ) (xs ys : List ℕ) → Without b (xs ++ b ∷ ys) → ⊥
not_inside b [] ys h = h.0 refl
not_inside b (x ∷ xs) ys h = not_inside b xs ys h.1

-- lists that are parted by a byte that comes in neither front have the same parts
pub parted_first : (b : ℕ) (xs ys us vs : List ℕ) → Without b xs → Without b ys → xs ++ b ∷ us ≡ ys ++ b ∷ vs → (xs ≡ ys) × (us ≡ vs)
parted_first b [] [] us vs h k e = (refl, tails b b us vs e)
parted_first b [] (y ∷ ys) us vs h k e = absurd (k.0 (sym (heads b y us (ys ++ b ∷ vs) e)))
parted_first b (x ∷ xs) [] us vs h k e = absurd (h.0 (heads x b (xs ++ b ∷ us) vs e))
parted_first b (x ∷ xs) (y ∷ ys) us vs h k e =
    let rest : (xs ≡ ys) × (us ≡ vs) = parted_first b xs ys us vs h.1 k.1 (tails x y (xs ++ b ∷ us) (ys ++ b ∷ vs) e) in
    let first : x ≡ y = heads x y (xs ++ b ∷ us) (ys ++ b ∷ vs) e in
    let front : xs ≡ ys = rest.0 in
    (cc, rest.1)

-- the same where the byte comes in neither rest
pub parted_last : (b : ℕ) (xs ys us vs : List ℕ) → Without b us → Without b vs → xs ++ b ∷ us ≡ ys ++ b ∷ vs → (xs ≡ ys) × (us ≡ vs)
parted_last b [] [] us vs h k e = (refl, tails b b us vs e)
parted_last b [] (y ∷ ys) us vs h k e = absurd (not_inside b ys vs (subst (Without b) (tails b y us (ys ++ b ∷ vs) e) h))
parted_last b (x ∷ xs) [] us vs h k e = absurd (not_inside b xs us (subst (Without b) (sym (tails x b (xs ++ b ∷ us) vs e)) k))
parted_last b (x ∷ xs) (y ∷ ys) us vs h k e =
    let rest : (xs ≡ ys) × (us ≡ vs) = parted_last b xs ys us vs h k (tails x y (xs ++ b ∷ us) (ys ++ b ∷ vs) e) in
    let first : x ≡ y = heads x y (xs ++ b ∷ us) (ys ++ b ∷ vs) e in
    let front : xs ≡ ys = rest.0 in
    (cc, rest.1)

-- a byte that is in neither of two lists isn't in both together
pub without_both : (b : ℕ) (xs ys : List ℕ) → Without b xs → Without b ys → Without b (xs ++ ys)
without_both b [] ys h k = k
without_both b (x ∷ xs) ys h k = (h.0, without_both b xs ys h.1 k)

-- ---- bytes of names

-- what a test refuses isn't among bytes that all pass it
pub tested : (test : ℕ → Bool) (b : ℕ) (xs : List ℕ) → test b ≡ false → list_all test xs ≡ true → Without b xs
tested test b [] refuses h = tt
tested test b (x ∷ xs) refuses h =
    let parts : (test x ≡ true) × (list_all test xs ≡ true) = both (test x) (list_all test xs) h in
    (λ equal. false≢true (sym refuses ∙ sym (ap test equal) ∙ parts.0), tested test b xs refuses parts.1)

-- a class's name has no bracket
pub class_without_bracket : (name : List ℕ) → (is_class_name name || length name == 0) ≡ true → Without 40 name
class_without_bracket [] h = tt
class_without_bracket (b ∷ rest) h =
    ⊎_elim (λ (n : is_class_name (b ∷ rest) ≡ true). tested is_class_byte 40 (b ∷ rest) refl (both (is_filled (b ∷ rest)) (list_all is_class_byte (b ∷ rest)) n).1) (λ (n : (length (b ∷ rest) == 0) ≡ true). absurd (filled (length rest) n))
    (either (is_class_name (b ∷ rest)) (length (b ∷ rest) == 0) h)
  where
    filled : (n : ℕ) → (suc n == 0) ≡ true → ⊥
    filled n e = absurd (omega (arith, same (suc n) 0 e))

-- words that are spelled alike
pub same_word : (xs ys : List ℕ) → bytes_eq xs ys ≡ true → xs ≡ ys
same_word xs ys e = (bytes_eq-Decides xs ys).0 e

-- a method's name has no slash and no bracket
method_without : (b : ℕ) (name : List ℕ) → is_name_byte b ≡ false → Without b (codes "<init>") → Without b (codes "<clinit>") → is_method_name name ≡ true → Without b name
method_without b name refuses init clinit h =
    ⊎_elim early (λ (i : bytes_eq name (codes "<clinit>") ≡ true). subst (Without b) (sym (same_word name (codes "<clinit>") i)) clinit) (either (is_name name || bytes_eq name (codes "<init>")) (bytes_eq name (codes "<clinit>")) h)
  where
    plain : is_name name ≡ true → Without b name
    plain n = tested is_name_byte b name refuses (both (is_filled name) (list_all is_name_byte name) n).1

    early : (is_name name || bytes_eq name (codes "<init>")) ≡ true → Without b name
    early n = ⊎_elim plain (λ (i : bytes_eq name (codes "<init>") ≡ true). subst (Without b) (sym (same_word name (codes "<init>") i)) init) (either (is_name name) (bytes_eq name (codes "<init>")) n)

-- a method's name has no slash
method_without_slash : (name : List ℕ) → is_method_name name ≡ true → Without 47 name
method_without_slash name h =
    method_without 47 name refl (tested (λ (x : ℕ). not (x == 47)) 47 (codes "<init>") refl refl) (tested (λ (x : ℕ). not (x == 47)) 47 (codes "<clinit>") refl refl) h

-- and no bracket
method_without_bracket : (name : List ℕ) → is_method_name name ≡ true → Without 40 name
method_without_bracket name h =
    method_without 40 name refl (tested (λ (x : ℕ). not (x == 40)) 40 (codes "<init>") refl refl) (tested (λ (x : ℕ). not (x == 40)) 40 (codes "<clinit>") refl refl) h

-- ---- keys

-- what stands before the descriptor has no bracket
front_without : (class name : List ℕ) → Without 40 class → is_method_name name ≡ true → Without 40 (class ++ 47 ∷ name)
front_without class name h k = without_both 40 class (47 ∷ name) h ((λ e. absurd (omega (arith, e))), method_without_bracket name k)

-- methods with the same word are of the same class, and have the same name and the same descriptor
pub same_parts : (class name desc other word text : List ℕ) → Without 40 class → Without 40 other → is_method_name name ≡ true → is_method_name word ≡ true → method_key class name (40 ∷ desc) ≡ method_key other word (40 ∷ text)
    → (class ≡ other) × (name ≡ word) × (desc ≡ text)
same_parts class name desc other word text h k i j e =
    let joined : (class ++ 47 ∷ name) ++ 40 ∷ desc ≡ (other ++ 47 ∷ word) ++ 40 ∷ text = e in
    let first : (class ++ 47 ∷ name ≡ other ++ 47 ∷ word) × (desc ≡ text) = parted_first 40 (class ++ 47 ∷ name) (other ++ 47 ∷ word) desc text (front_without class name h i) (front_without other word k j) joined in
    let last : (class ≡ other) × (name ≡ word) = parted_last 47 class other name word (method_without_slash name i) (method_without_slash word j) first.0 in
    (last.0, last.1, first.1)
