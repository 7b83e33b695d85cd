-- Noting faults one after another keeps the first of them.
use Rattle.std.proofs.Common.{◌≡◌, ℕ, zero, suc, Bool, true, false, List, [], ◌∷◌, ◌++◌, Option, Some, None, refl, sym, ap, ◌∙◌, arith}
use Rattle.std.specs.Prelude.{◌≢◌, ◌&&◌, ◌||◌, ◌==◌, nat_lt, if◌then◌else◌, fold, All, Contains}
use Rattle.std.specs.List.{AllByRecursion}
use Rattle.std.proofs.lemmas.Bool.Decides.{nat_tests}
use Rattle.std.proofs.lemmas.List.Elements.{All-from_recursion, All-contains}
use Rattle.name_resolver.specs.declared.fault.LinkKind.{LinkKind}
use Rattle.name_resolver.specs.declared.fault.LinkKind.TheVariants as kinds
use Rattle.class_linker.specs.declared.fault.Refusal.{Refusal}
use Rattle.name_resolver.specs.Faults.{kind_number}
use Rattle.class_linker.specs.Faults.{is_before, first_of, noted}
use Rattle.linking_laws.specs.LinkFaults.{IsFirst, of_line}

-- ---- the order of faults

-- none comes before itself
numbers_self : (l k : ℕ) → (nat_lt l l || (l == l && nat_lt k k)) ≡ false
numbers_self l k = grind (arith, nat_tests)

-- of two only one comes before the other
numbers_apart : (l k m j : ℕ) → (nat_lt l m || (l == m && nat_lt k j)) ≡ true → (nat_lt m l || (m == l && nat_lt j k)) ≡ false
numbers_apart l k m j h = grind (arith, nat_tests)

-- what doesn't come before one that doesn't come before a third doesn't come before that
numbers_chain : (l k m j n i : ℕ) → (nat_lt l m || (l == m && nat_lt k j)) ≡ false → (nat_lt m n || (m == n && nat_lt j i)) ≡ false → (nat_lt l n || (l == n && nat_lt k i)) ≡ false
numbers_chain l k m j n i h g = grind (arith, nat_tests)

-- where neither comes before the other, they have the same numbers
numbers_same : (l k m j : ℕ) → (nat_lt l m || (l == m && nat_lt k j)) ≡ false → (nat_lt m l || (m == l && nat_lt j k)) ≡ false → (l ≡ m) × (k ≡ j)
numbers_same l k m j h g = (grind (arith, nat_tests), grind (arith, nat_tests))

-- the same of faults
before_self : (f : Refusal) → is_before f f ≡ false
before_self f = numbers_self f.line (kind_number f.kind)

before_apart : (f g : Refusal) → is_before f g ≡ true → is_before g f ≡ false
before_apart f g h = numbers_apart f.line (kind_number f.kind) g.line (kind_number g.kind) h

before_chain : (f g h : Refusal) → is_before f g ≡ false → is_before g h ≡ false → is_before f h ≡ false
before_chain f g h i j = numbers_chain f.line (kind_number f.kind) g.line (kind_number g.kind) h.line (kind_number h.kind) i j

-- the kind of a number
unfoldable kind_of_number : ℕ → LinkKind
kind_of_number n =
    if n == 1 then kinds.NoMain else
    if n == 2 then kinds.UnknownClass else
    if n == 3 then kinds.UnknownField else
    if n == 4 then kinds.UnknownMethod else
    if n == 5 then kinds.UnknownLabel else
    if n == 6 then kinds.Twice else
    if n == 7 then kinds.BadDescriptor else
    if n == 8 then kinds.TooMany else kinds.OutOfProfile

kind_back : (k : LinkKind) → kind_of_number (kind_number k) ≡ k
unfolding kind_of_number
kind_back kinds.NoMain = refl
kind_back kinds.UnknownClass = refl
kind_back kinds.UnknownField = refl
kind_back kinds.UnknownMethod = refl
kind_back kinds.UnknownLabel = refl
kind_back kinds.Twice = refl
kind_back kinds.BadDescriptor = refl
kind_back kinds.TooMany = refl
kind_back kinds.OutOfProfile = refl

-- faults of the same kind and line
same_fault : (f g : Refusal) → f.kind ≡ g.kind → f.line ≡ g.line → f ≡ g
same_fault f g e h = ap (λ (k : LinkKind). record { kind = k; line = f.line }) e ∙ ap (λ (l : ℕ). record { kind = g.kind; line = l }) h

-- faults of which neither comes before the other are the same
pub before_same : (f g : Refusal) → is_before f g ≡ false → is_before g f ≡ false → f ≡ g
before_same f g h i =
    let numbers : (f.line ≡ g.line) × (kind_number f.kind ≡ kind_number g.kind) = numbers_same f.line (kind_number f.kind) g.line (kind_number g.kind) h i in
    same_fault f g (sym (kind_back f.kind) ∙ ap kind_of_number numbers.1 ∙ kind_back g.kind) numbers.0

-- ---- one after another

-- the first of what is kept already and of these faults
abbrev pub all_noted : Option Refusal → List Refusal → Option Refusal
all_noted found faults = fold first_of found faults

-- first those of a front, then the others
pub noted_both : (found : Option Refusal) (xs ys : List Refusal) → all_noted found (xs ++ ys) ≡ all_noted (all_noted found xs) ys
noted_both found [] ys = refl
noted_both found (x ∷ xs) ys = noted_both (first_of found x) xs ys

-- noting the fault of a line, if it has one
pub noted_line : (found : Option Refusal) (line : ℕ) (fault : Option LinkKind) → noted found line fault ≡ all_noted found (of_line line fault)
noted_line found line None = refl
noted_line found line (Some kind) = refl

-- the same before others
pub noted_before : (found : Option Refusal) (line : ℕ) (fault : Option LinkKind) (rest : List Refusal) → all_noted (noted found line fault) rest ≡ all_noted found (of_line line fault ++ rest)
noted_before found line None rest = refl
noted_before found line (Some kind) rest = refl

-- ---- what is kept

-- what is kept of a fault and others: one of them, that none of them comes before
record Kept (x : Refusal) (xs : List Refusal) : Type 0 where
  pub fault : Refusal
  pub is : all_noted (Some x) xs ≡ Some fault
  pub is_one : Contains (x ∷ xs) fault
  pub head : is_before x fault ≡ false
  pub rest : AllByRecursion (λ (g : Refusal). is_before g fault ≡ false) xs

-- a fault that is after another one
one_behind : (x f : Refusal) (xs : List Refusal) → Contains xs f → Contains (x ∷ xs) f
one_behind x f xs h = (suc h.0, omega (arith, h.1), h.2)

-- where another one was kept in place of the first
one_other : (x y f : Refusal) (xs : List Refusal) → Contains (x ∷ xs) f → Contains (x ∷ y ∷ xs) f
one_other x y f xs (zero, lt, is) = (zero, omega arith, is)
one_other x y f xs (suc k, lt, is) = (suc (suc k), omega (arith, lt), is)

-- of a fault and others
kept : (x : Refusal) (xs : List Refusal) → Kept x xs
kept x [] = record { fault = x; is = refl; is_one = (0, omega arith, refl); head = before_self x; rest = tt }
kept x (y ∷ xs) = by (is_before y x) refl (kept y xs) (kept x xs)
  where
    by : (b : Bool) → is_before y x ≡ b → Kept y xs → Kept x xs → Kept x (y ∷ xs)
    by true is k other = record {
      fault = k.fault;
      is = ap (λ (c : Bool). all_noted (if c then Some y else Some x) xs) is ∙ k.is;
      is_one = one_behind x k.fault (y ∷ xs) k.is_one;
      head = before_chain x y k.fault (before_apart y x is) k.head;
      rest = (k.head, k.rest);
    }
    by false is other k = record {
      fault = k.fault;
      is = ap (λ (c : Bool). all_noted (if c then Some y else Some x) xs) is ∙ k.is;
      is_one = one_other x y k.fault xs k.is_one;
      head = k.head;
      rest = (before_chain y x k.fault is k.head, k.rest);
    }

-- ---- the first

-- the first of faults of which there is one is what noting them all keeps
pub record Found (faults : List Refusal) : Type 0 where
  pub fault : Refusal
  pub is : all_noted None faults ≡ Some fault
  pub is_first : IsFirst faults fault

-- there is a first one
pub first_found : (faults : List Refusal) → faults ≢ [] → Found faults
first_found [] some = absurd (some refl)
first_found (x ∷ xs) some =
    let k : Kept x xs = kept x xs in
    let none : All (λ (g : Refusal). is_before g k.fault ≡ false) (x ∷ xs) = All-from_recursion (λ (g : Refusal). is_before g k.fault ≡ false) (x ∷ xs) (k.head, k.rest) in
    record { fault = k.fault; is = k.is; is_first = record { is_one = k.is_one; none_before = λ g there. All-contains (λ (h : Refusal). is_before h k.fault ≡ false) (x ∷ xs) g none there } }

-- and no other
pub first_is_one : (faults : List Refusal) (f g : Refusal) → IsFirst faults f → IsFirst faults g → f ≡ g
first_is_one faults f g h i = before_same f g (i.none_before f h.is_one) (h.none_before g i.is_one)
