-- What is among the elements of a list, and tests of them.
use Rattle.std.proofs.Common.{◌≡◌, ℕ, zero, suc, ◌≤◌, Bool, true, false, List, [], ◌∷◌, refl, sym, ap, ◌∙◌, subst, arith, ⊎_elim, ◌⊎◌, inl, inr}
use Rattle.std.specs.Prelude.{if◌then◌else◌, length, map, filter, flat_map, Contains, bytes_eq}
use Rattle.std.specs.List.{list_any}
use Rattle.std.proofs.lemmas.Bool.{false≢true}
use Rattle.std.proofs.lemmas.Slice.Eq.{bytes_eq-Decides}
use Rattle.std.proofs.lemmas.List.Elements.{Contains-append_left, Contains-append_right, Contains-append_cases}
use Rattle.shape_laws.proofs.Tests.{either, on_left, on_right}

pub contains_first : {A : Type 0} (x : A) (xs : List A) → Contains (x ∷ xs) x
contains_first x xs = (0, omega arith, refl)

pub contains_later : {A : Type 0} (x y : A) (xs : List A) → Contains xs y → Contains (x ∷ xs) y
contains_later x y xs h = (suc h.0, omega (arith, h.1), h.2)

-- the first or a later one
pub contains_cases : {A : Type 0} (x y : A) (xs : List A) → Contains (x ∷ xs) y → (x ≡ y) ⊎ Contains xs y
contains_cases x y xs (zero, lt, e) = inl e
contains_cases x y xs (suc k, lt, e) = inr (k, omega (arith, lt), e)

pub contains_none : {A : Type 0} (y : A) → Contains [] y → ⊥
contains_none y h = absurd (omega (arith, h.1))

-- ---- tests

pub any_there : {A : Type 0} (test : A → Bool) (xs : List A) (x : A) → Contains xs x → test x ≡ true → list_any test xs ≡ true
any_there test [] x h e = absurd (contains_none x h)
any_there test (y ∷ xs) x h e =
    ⊎_elim (λ (same : y ≡ x). on_left (test y) (list_any test xs) (ap test same ∙ e)) (λ (later : Contains xs x). on_right (test y) (list_any test xs) (any_there test xs x later e)) (contains_cases y x xs h)

pub any_one : {A : Type 0} (test : A → Bool) (xs : List A) → list_any test xs ≡ true → (x : A) × Contains xs x × (test x ≡ true)
any_one test [] e = absurd (false≢true e)
any_one test (y ∷ xs) e =
    ⊎_elim (λ (h : test y ≡ true). (y, contains_first y xs, h)) (λ (h : list_any test xs ≡ true). let x : _ = any_one test xs h in (x.0, contains_later y x.0 xs x.1, x.2)) (either (test y) (list_any test xs) e)

-- ---- bytes

pub same_bytes : (xs ys : List ℕ) → bytes_eq xs ys ≡ true → xs ≡ ys
same_bytes xs ys e = (bytes_eq-Decides xs ys).0 e

pub bytes_same : (xs ys : List ℕ) → xs ≡ ys → bytes_eq xs ys ≡ true
bytes_same xs ys e = (bytes_eq-Decides xs ys).1 e

pub other_bytes : (xs ys : List ℕ) → bytes_eq xs ys ≡ false → xs ≡ ys → ⊥
other_bytes xs ys e same = false≢true (sym e ∙ bytes_same xs ys same)

-- what isn't true is false
pub is_false : (b : Bool) → (b ≡ true → ⊥) → b ≡ false
is_false true h = absurd (h refl)
is_false false h = refl

pub bytes_other : (xs ys : List ℕ) → (xs ≡ ys → ⊥) → bytes_eq xs ys ≡ false
bytes_other xs ys h = is_false (bytes_eq xs ys) (λ e. h (same_bytes xs ys e))

-- a word is among these
pub word_there : (word : List ℕ) (words : List (List ℕ)) → list_any (bytes_eq word) words ≡ true → Contains words word
word_there word words e = let x : _ = any_one (bytes_eq word) words e in subst (Contains words) (sym (same_bytes word x.0 x.2)) x.1

pub there_word : (word : List ℕ) (words : List (List ℕ)) → Contains words word → list_any (bytes_eq word) words ≡ true
there_word word words h = any_there (bytes_eq word) words word h (bytes_same word word refl)

-- ---- changed and joined lists

pub map_there : {A B : Type 0} (f : A → B) (xs : List A) (x : A) → Contains xs x → Contains (map f xs) (f x)
map_there f [] x h = absurd (contains_none x h)
map_there f (y ∷ xs) x h =
    ⊎_elim (λ (same : y ≡ x). subst (λ z. Contains (f y ∷ map f xs) (f z)) same (contains_first (f y) (map f xs))) (λ (later : Contains xs x). contains_later (f y) (f x) (map f xs) (map_there f xs x later)) (contains_cases y x xs h)

pub there_map : {A B : Type 0} (f : A → B) (xs : List A) (z : B) → Contains (map f xs) z → (x : A) × Contains xs x × (f x ≡ z)
there_map f [] z h = absurd (contains_none z h)
there_map f (y ∷ xs) z h =
    ⊎_elim (λ (same : f y ≡ z). (y, contains_first y xs, same)) (λ (later : Contains (map f xs) z). let x : _ = there_map f xs z later in (x.0, contains_later y x.0 xs x.1, x.2)) (contains_cases (f y) z (map f xs) h)

pub joined_there : {A B : Type 0} (f : A → List B) (xs : List A) (x : A) (z : B) → Contains xs x → Contains (f x) z → Contains (flat_map f xs) z
joined_there f [] x z h k = absurd (contains_none x h)
joined_there f (y ∷ xs) x z h k =
    ⊎_elim (λ (same : y ≡ x). Contains-append_left (f y) (flat_map f xs) z (subst (λ w. Contains (f w) z) (sym same) k)) (λ (later : Contains xs x). Contains-append_right (f y) (flat_map f xs) z (joined_there f xs x z later k)) (contains_cases y x xs h)

pub there_joined : {A B : Type 0} (f : A → List B) (xs : List A) (z : B) → Contains (flat_map f xs) z → (x : A) × Contains xs x × Contains (f x) z
there_joined f [] z h = absurd (contains_none z h)
there_joined f (y ∷ xs) z h =
    ⊎_elim (λ (here : Contains (f y) z). (y, contains_first y xs, here)) (λ (later : Contains (flat_map f xs) z). let x : _ = there_joined f xs z later in (x.0, contains_later y x.0 xs x.1, x.2)) (Contains-append_cases (f y) (flat_map f xs) z h)

-- ---- elements that pass a test

pub filter_there : {A : Type 0} (test : A → Bool) (xs : List A) (x : A) → Contains xs x → test x ≡ true → Contains (filter test xs) x
filter_there test [] x h e = absurd (contains_none x h)
filter_there test (y ∷ xs) x h e = by (test y) refl (contains_cases y x xs h) (λ later. filter_there test xs x later e)
  where
    by : (b : Bool) → test y ≡ b → (y ≡ x) ⊎ Contains xs x → (Contains xs x → Contains (filter test xs) x) → Contains (if b then y ∷ filter test xs else filter test xs) x
    by true is (inl same) more = subst (λ z. Contains (z ∷ filter test xs) x) (sym same) (contains_first x (filter test xs))
    by true is (inr later) more = contains_later y x (filter test xs) (more later)
    by false is (inl same) more = absurd (false≢true (sym is ∙ ap test same ∙ e))
    by false is (inr later) more = more later

pub there_filter : {A : Type 0} (test : A → Bool) (xs : List A) (x : A) → Contains (filter test xs) x → Contains xs x × (test x ≡ true)
there_filter test [] x h = absurd (contains_none x h)
there_filter test (y ∷ xs) x h = by (test y) refl h (there_filter test xs x)
  where
    later : Contains xs x × (test x ≡ true) → Contains (y ∷ xs) x × (test x ≡ true)
    later h = (contains_later y x xs h.0, h.1)

    by : (b : Bool) → test y ≡ b → Contains (if b then y ∷ filter test xs else filter test xs) x → (Contains (filter test xs) x → Contains xs x × (test x ≡ true)) → Contains (y ∷ xs) x × (test x ≡ true)
    by true is k more =
        ⊎_elim (λ (same : y ≡ x). (subst (λ z. Contains (z ∷ xs) x) (sym same) (contains_first x xs), ap test (sym same) ∙ is)) (λ (rest : Contains (filter test xs) x). later (more rest)) (contains_cases y x (filter test xs) k)
    by false is k more = later (more k)

-- those that pass aren't more than all
pub filter_few : {A : Type 0} (test : A → Bool) (xs : List A) → length (filter test xs) ≤ length xs
filter_few test [] = omega arith
filter_few test (x ∷ xs) = by (test x) (filter_few test xs)
  where
    by : (b : Bool) → length (filter test xs) ≤ length xs → length (if b then x ∷ filter test xs else filter test xs) ≤ length (x ∷ xs)
    by true h = omega (arith, h)
    by false h = omega (arith, h)
