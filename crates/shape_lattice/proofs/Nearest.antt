-- The nearest class that two classes are or extend.
use Rattle.std.proofs.Common.{◌≡◌, ℕ, zero, suc, ◌≤◌, Bool, true, false, List, [], ◌∷◌, Option, Some, None, refl, sym, ◌∙◌, subst, arith, ⊎_elim}
use Rattle.std.specs.Prelude.{◌==◌, if◌then◌else◌}
use Rattle.std.proofs.lemmas.Bool.{false≢true}
use Rattle.machine_model.specs.Declarations.{Declarations}
use Rattle.machine_model.specs.Kinds.{chain, super_of, supers_within}
use Rattle.class_kinds.specs.Classes.{is_among}
use Rattle.shape_lattice.specs.Merging.{first_common, nearest_super}
use Rattle.shape_laws.proofs.Tests.{same, same_self, either, on_left, on_right}

-- ---- it is in both lists

abbrev pub IsCommon : List ℕ → List ℕ → Option ℕ → Type 0
IsCommon classes cs None = Unit {0}
IsCommon classes cs (Some c) = (is_among classes c ≡ true) × (is_among cs c ≡ true)

further : (classes cs : List ℕ) (x : ℕ) (o : Option ℕ) → IsCommon classes cs o → IsCommon classes (x ∷ cs) o
further classes cs x None h = tt
further classes cs x (Some c) h = (h.0, on_right (x == c) _ h.1)

-- the first common class is in both lists
pub common : (classes cs : List ℕ) → IsCommon classes cs (first_common classes cs)
common classes [] = tt
common classes (c ∷ cs) = by (is_among classes c) refl (common classes cs)
  where
    by : (b : Bool) → is_among classes c ≡ b → IsCommon classes cs (first_common classes cs) → IsCommon classes (c ∷ cs) (if b then Some c else first_common classes cs)
    by true is more = (is, on_left (c == c) _ (same_self c))
    by false is more = further classes cs c (first_common classes cs) more

-- ---- it is below each other common class

-- the class is there, and has this one in its chain
abbrev pub IsNearer : Declarations → Option ℕ → ℕ → Type 0
IsNearer d None e = ⊥
IsNearer d (Some c) e = is_among (chain d c) e ≡ true

-- a longer part of a chain has no fewer classes
wider : (n k : ℕ) (d : Declarations) (o : Option ℕ) (e : ℕ) → n ≤ k → is_among (supers_within n d o) e ≡ true → is_among (supers_within k d o) e ≡ true
wider zero k d o e few h = absurd (false≢true h)
wider (suc n) zero d o e few h = absurd (omega arith)
wider (suc n) (suc k) d None e few h = absurd (false≢true h)
wider (suc n) (suc k) d (Some x) e few h =
    ⊎_elim (λ a. on_left (x == e) _ a) (λ a. on_right (x == e) _ (wider n k d (super_of d x) e (omega arith) a)) (either (x == e) (is_among (supers_within n d (super_of d x)) e) h)

-- what is after a class in a chain is in the chain of this class
front : (n : ℕ) (d : Declarations) (x e : ℕ) → n ≤ 6 → is_among (supers_within n d (Some x)) e ≡ true → is_among (chain d x) e ≡ true
unfolding chain
front n d x e few h = wider n 6 d (Some x) e few h

-- each class that is in a list and in a part of a chain is in the chain of the first such class
nearer_within : (n : ℕ) (d : Declarations) (classes : List ℕ) (o : Option ℕ) (e : ℕ) → n ≤ 6 → is_among classes e ≡ true → is_among (supers_within n d o) e ≡ true
    → IsNearer d (first_common classes (supers_within n d o)) e
nearer_within zero d classes o e few has h = absurd (false≢true h)
nearer_within (suc n) d classes None e few has h = absurd (false≢true h)
nearer_within (suc n) d classes (Some x) e few has h = by (is_among classes x) refl (λ a. nearer_within n d classes (super_of d x) e (omega arith) has a)
  where
    by : (b : Bool) → is_among classes x ≡ b → (is_among (supers_within n d (super_of d x)) e ≡ true → IsNearer d (first_common classes (supers_within n d (super_of d x))) e)
        → IsNearer d (if b then Some x else first_common classes (supers_within n d (super_of d x))) e
    by true is more = front (suc n) d x e few h
    by false is more =
        ⊎_elim (λ a. absurd (false≢true (sym is ∙ subst (λ (y : ℕ). is_among classes y ≡ true) (sym (same x e a)) has))) more
        (either (x == e) (is_among (supers_within n d (super_of d x)) e) h)

-- the nearest class is or extends each class that both are or extend
pub nearer : (d : Declarations) (b c e : ℕ) → is_among (chain d b) e ≡ true → is_among (chain d c) e ≡ true → IsNearer d (nearest_super d b c) e
unfolding chain
nearer d b c e left right = nearer_within 6 d (chain d b) (Some c) e (omega arith) left right
