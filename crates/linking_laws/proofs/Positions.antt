-- The first element that passes a test, and the two parts of a list on its sides.
use Rattle.std.proofs.Common.{◌≡◌, ℕ, suc, ◌+◌, Bool, true, false, List, [], ◌∷◌, ◌++◌, Option, Some, None, refl, sym, ap, ◌∙◌, subst, arith}
use Rattle.std.specs.Prelude.{not, if◌then◌else◌, nat_lt, length, take, drop, position}
use Rattle.std.specs.List.{AllByRecursion, position_or_len}
use Rattle.std.proofs.lemmas.Bool.Decides.{nat_tests}

-- one place more, where there is one
abbrev pub one_more : Option ℕ → Option ℕ
one_more None = None
one_more (Some n) = Some (suc n)

-- a first element that passes
pub position_here : {A : Type 0} (test : A → Bool) (x : A) (xs : List A) → test x ≡ true → position test (x ∷ xs) ≡ Some 0
position_here test x xs e = ap (λ (b : Bool). if nat_lt (place b) (length (x ∷ xs)) then Some (place b) else None) e ∙ by (length xs)
  where
    place : Bool → ℕ
    place b = if not b then 1 + position_or_len test xs else 0

    first : (n : ℕ) → nat_lt 0 (suc n) ≡ true
    first n = grind (arith, nat_tests)

    zeroth : Option ℕ
    zeroth = Some 0

    by : (n : ℕ) → (if nat_lt 0 (suc n) then zeroth else None) ≡ zeroth
    by n = ap (λ (b : Bool). if b then zeroth else None) (first n)

-- or one that doesn't
pub position_later : {A : Type 0} (test : A → Bool) (x : A) (xs : List A) → test x ≡ false → position test (x ∷ xs) ≡ one_more (position test xs)
position_later test x xs e =
    ap (λ (b : Bool). if nat_lt (place b) (length (x ∷ xs)) then Some (place b) else None) e ∙ by (position_or_len test xs) (length xs)
  where
    place : Bool → ℕ
    place b = if not b then 1 + position_or_len test xs else 0

    less : (k n : ℕ) → nat_lt (1 + k) (suc n) ≡ nat_lt k n
    less k n = first (nat_lt k n) refl
      where
        first : (b : Bool) → nat_lt k n ≡ b → nat_lt (1 + k) (suc n) ≡ nat_lt k n
        first true is = (let whole : nat_lt (1 + k) (suc n) ≡ true = grind (arith, nat_tests) in whole) ∙ sym is
        first false is = (let whole : nat_lt (1 + k) (suc n) ≡ false = grind (arith, nat_tests) in whole) ∙ sym is

    so : (k : ℕ) (b : Bool) → (if b then Some (1 + k) else None) ≡ one_more (if b then Some k else None)
    so k true = let one : 1 + k ≡ suc k = omega arith in ap Some one
    so k false = refl

    by : (k n : ℕ) → (if nat_lt (1 + k) (suc n) then Some (1 + k) else None) ≡ one_more (if nat_lt k n then Some k else None)
    by k n = ap (λ (b : Bool). if b then Some (1 + k) else None) (less k n) ∙ so k (nat_lt k n)

-- behind a front that fails
pub position_behind : {A : Type 0} (test : A → Bool) (front : List A) (x : A) (back : List A) → AllByRecursion (λ y. test y ≡ false) front → test x ≡ true → position test (front ++ x ∷ back) ≡ Some (length front)
position_behind test [] x back all e = position_here test x back e
position_behind test (y ∷ front) x back all e = position_later test y (front ++ x ∷ back) all.0 ∙ ap one_more (position_behind test front x back all.1 e)

-- where an element passes, the list has two parts
pub record Parts {A : Type 0} (test : A → Bool) (xs : List A) (n : ℕ) : Type 0 where
  pub front : List A
  pub one : A
  pub back : List A
  pub whole : xs ≡ front ++ one ∷ back
  pub fails : AllByRecursion (λ y. test y ≡ false) front
  pub passes : test one ≡ true
  pub place : n ≡ length front

pub parts_at : {A : Type 0} (test : A → Bool) (xs : List A) (n : ℕ) → position test xs ≡ Some n → Parts test xs n
parts_at test [] n e = absurd (none_some n e)
  where
    none_some : (n : ℕ) → None ≡ Some n → ⊥
    none_some n e = cc
parts_at test (x ∷ xs) n e = by (test x) refl (parts_at test xs)
  where
    same_some : (k n : ℕ) → Some k ≡ Some n → k ≡ n
    same_some k n e = cc

    none_some : (n : ℕ) → None ≡ Some n → ⊥
    none_some n e = cc

    later : test x ≡ false → ((k : ℕ) → position test xs ≡ Some k → Parts test xs k) → (o : Option ℕ) → position test xs ≡ o → one_more o ≡ Some n → Parts test (x ∷ xs) n
    later fails more None is h = absurd (none_some n h)
    later fails more (Some k) is h =
        let rest : Parts test xs k = more k is in
        record {
          front = x ∷ rest.front;
          one = rest.one;
          back = rest.back;
          whole = ap (λ (ys : List _). x ∷ ys) rest.whole;
          fails = (fails, rest.fails);
          passes = rest.passes;
          place = sym (same_some (suc k) n h) ∙ ap suc rest.place;
        }

    by : (b : Bool) → test x ≡ b → ((k : ℕ) → position test xs ≡ Some k → Parts test xs k) → Parts test (x ∷ xs) n
    by true is more = record { front = []; one = x; back = xs; whole = refl; fails = tt; passes = is; place = sym (same_some 0 n (sym (position_here test x xs is) ∙ e)) }
    by false is more = later is more (position test xs) refl (sym (position_later test x xs is) ∙ e)

-- where none passes, all fail
pub none_at : {A : Type 0} (test : A → Bool) (xs : List A) → position test xs ≡ None → AllByRecursion (λ y. test y ≡ false) xs
none_at test [] e = tt
none_at test (x ∷ xs) e = by (test x) refl (none_at test xs)
  where
    some_none : (n : ℕ) → Some n ≡ None → ⊥
    some_none n e = cc

    later : test x ≡ false → (position test xs ≡ None → AllByRecursion (λ y. test y ≡ false) xs) → (o : Option ℕ) → position test xs ≡ o → one_more o ≡ None → AllByRecursion (λ y. test y ≡ false) (x ∷ xs)
    later fails more None is h = (fails, more is)
    later fails more (Some k) is h = absurd (some_none (suc k) h)

    by : (b : Bool) → test x ≡ b → (position test xs ≡ None → AllByRecursion (λ y. test y ≡ false) xs) → AllByRecursion (λ y. test y ≡ false) (x ∷ xs)
    by true is more = absurd (some_none 0 (sym (position_here test x xs is) ∙ e))
    by false is more = later is more (position test xs) refl (sym (position_later test x xs is) ∙ e)

-- ---- parts

pub take_front : {A : Type 0} (xs ys : List A) → take (length xs) (xs ++ ys) ≡ xs
take_front [] ys = refl
take_front (x ∷ xs) ys = ap (λ zs. x ∷ zs) (take_front xs ys)

pub drop_past : {A : Type 0} (xs : List A) (x : A) (ys : List A) → drop (length xs + 1) (xs ++ x ∷ ys) ≡ ys
drop_past [] x ys = refl
drop_past (y ∷ xs) x ys = subst (λ (n : ℕ). drop n (y ∷ xs ++ x ∷ ys) ≡ ys) (let place : suc (length xs + 1) ≡ length (y ∷ xs) + 1 = omega arith in place) (drop_past xs x ys)
