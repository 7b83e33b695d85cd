-- Lists of lanes, and histories cut in two.
use Rattle.std.proofs.Common.{◌≡◌, ◌≢◌, ℕ, suc, ◌%◌, eqb, Bool, true, false, if◌then◌else◌, List, [], ◌∷◌, ◌++◌, length, refl, sym, ap, ◌∙◌, subst, inl, inr, ⊎_elim, ◌⊎◌, arith, eqb-true, ne_eqb, eq-eqb, set, zero, ◌<◌, ◌||◌}
use mathlib.Core.Logic.{dite}
use mathlib.Core.Option.{some, some-injective, some-ne-none}
use native.Mathlib.Decide.{ℕ_discrete}
use lib.ListN.{get_elem?}
use Rattle.vm_model.specs.declared.op.Entry.{Entry}
use Rattle.record_gate.specs.Lanes.{has, without, HasNone}

-- ---- lists

module _ {A : Type 0} where
  pub set_there : (l : List A) (i : ℕ) (a b : A) → get_elem? l i ≡ some b → get_elem? (set l i a) i ≡ some a
  set_there [] i a b e = absurd (some-ne-none b (sym e))
  set_there (x ∷ xs) zero a b e = refl
  set_there (x ∷ xs) (suc i) a b e = set_there xs i a b e

  -- what stands in a list with one more element
  pub at_snoc : (l : List A) (a b : A) (j : ℕ) → get_elem? (l ++ a ∷ []) j ≡ some b → (get_elem? l j ≡ some b) ⊎ ((j ≡ length l) × (a ≡ b))
  at_snoc [] a b zero e = inr (refl, some-injective a b e)
  at_snoc [] a b (suc j) e = absurd (some-ne-none b (sym e))
  at_snoc (x ∷ xs) a b zero e = inl e
  at_snoc (x ∷ xs) a b (suc j) e = ⊎_elim (λ t. inl t) (λ t. inr (ap suc t.0, t.1)) (at_snoc xs a b j e)

  pub at_below : (l : List A) (i : ℕ) (a : A) → get_elem? l i ≡ some a → i < length l
  at_below [] i a e = absurd (some-ne-none a (sym e))
  at_below (x ∷ xs) zero a e = omega arith
  at_below (x ∷ xs) (suc i) a e = let h = at_below xs i a e in omega arith

  pub snoc_assoc : (xs ys : List A) (a : A) → (xs ++ ys) ++ a ∷ [] ≡ xs ++ (ys ++ a ∷ [])
  snoc_assoc [] ys a = refl
  snoc_assoc (x ∷ xs) ys a = ap (λ l. x ∷ l) (snoc_assoc xs ys a)

  pub with_nothing : (xs : List A) → xs ≡ xs ++ []
  with_nothing [] = refl
  with_nothing (x ∷ xs) = ap (λ l. x ∷ l) (with_nothing xs)

-- ---- tests

pub false_unless : (b : Bool) → (b ≡ true → ⊥) → b ≡ false
false_unless true h = absurd (h refl)
false_unless false h = refl

pub or_true : (a b : Bool) → (a || b) ≡ true → (a ≡ true) ⊎ (b ≡ true)
or_true true b e = inl refl
or_true false b e = inr e

-- ---- lanes

pub has_first : (l : ℕ) → has (l ∷ []) l ≡ true
has_first l = rw (eq-eqb l l refl) refl

pub no : false ≡ true → ⊥
no e = absurd cc

pub has_only : (l m : ℕ) → has (l ∷ []) m ≡ true → m ≡ l
has_only l m e = dite (ℕ_discrete l m) (λ same. sym same) (λ other. absurd (no (subst (λ b. (b || false) ≡ true) (ne_eqb l m other) e)))

pub either_way : (a b : Bool) → b ≡ true → (a || b) ≡ true
either_way true b e = refl
either_way false b e = e

has_more : (k : ℕ) (ks : List ℕ) (m : ℕ) → has ks m ≡ true → has (k ∷ ks) m ≡ true
has_more k ks m e = either_way (eqb k m) (has ks m) e

has_found : (k l : ℕ) (ks : List ℕ) (m : ℕ) → k ≢ l → (eqb k m ≡ true) ⊎ ((has ks m ≡ true) × (m ≢ l)) → (has (k ∷ ks) m ≡ true) × (m ≢ l)
has_found k l ks m other (inl e) = (subst (λ b. (b || has ks m) ≡ true) (sym e) refl, λ is. other (eqb-true k m e ∙ is))
has_found k l ks m other (inr t) = (has_more k ks m t.0, t.1)

pub has_without : (l : ℕ) (ks : List ℕ) (m : ℕ) → has (without l ks) m ≡ true → (has ks m ≡ true) × (m ≢ l)
has_without l [] m e = absurd (no e)
has_without l (k ∷ ks) m e = dite (ℕ_discrete k l)
    (λ same. let t = has_without l ks m (subst (λ b. has (if b then without l ks else k ∷ without l ks) m ≡ true) (eq-eqb k l same) e) in (has_more k ks m t.0, t.1))
    (λ other. has_found k l ks m other (⊎_elim (λ t. inl t) (λ t. inr (has_without l ks m t)) (or_true (eqb k m) (has (without l ks) m) (subst (λ b. has (if b then without l ks else k ∷ without l ks) m ≡ true) (ne_eqb k l other) e))))

joined : (a b c d : Bool) → (a ≡ true) ⊎ (d ≡ true) → (d ≡ true → (b ≡ true) ⊎ (c ≡ true)) → ((a || b) ≡ true) ⊎ (c ≡ true)
joined a b c d (inl e) f = inl (subst (λ x. (x || b) ≡ true) (sym e) refl)
joined true b c d (inr e) f = inl refl
joined false b c d (inr e) f = f e

pub has_both : (xs ys : List ℕ) (m : ℕ) → has (xs ++ ys) m ≡ true → (has xs m ≡ true) ⊎ (has ys m ≡ true)
has_both [] ys m e = inr e
has_both (x ∷ xs) ys m e = joined (eqb x m) (has xs m) (has ys m) (has (xs ++ ys) m) (or_true (eqb x m) (has (xs ++ ys) m) e) (has_both xs ys m)

pub has_front : (l : ℕ) (xs ys : List ℕ) → has xs l ≡ true → has (xs ++ ys) l ≡ true
has_front l [] ys e = absurd (no e)
has_front l (x ∷ xs) ys e = ⊎_elim (λ a. subst (λ b. (b || has (xs ++ ys) l) ≡ true) (sym a) refl) (λ b. either_way (eqb x l) (has (xs ++ ys) l) (has_front l xs ys b)) (or_true (eqb x l) (has xs l) e)

pub has_behind : (l : ℕ) (xs ys : List ℕ) → has ys l ≡ true → has (xs ++ ys) l ≡ true
has_behind l [] ys e = e
has_behind l (x ∷ xs) ys e = either_way (eqb x l) (has (xs ++ ys) l) (has_behind l xs ys e)

-- ---- entries of lanes

pub none_push : (n : ℕ) (lanes : List ℕ) (es : List Entry) (e : Entry) → HasNone n lanes es → has lanes (e.thread % n) ≡ false → HasNone n lanes (es ++ e ∷ [])
none_push n lanes [] e h is = (is, tt)
none_push n lanes (x ∷ xs) e h is = (h.0, none_push n lanes xs e h.1 is)

pub none_behind : (n : ℕ) (lanes : List ℕ) (xs ys : List Entry) → HasNone n lanes (xs ++ ys) → HasNone n lanes ys
none_behind n lanes [] ys h = h
none_behind n lanes (x ∷ xs) ys h = none_behind n lanes xs ys h.1

pub clash : (b : Bool) → b ≡ false → b ≡ true → ⊥
clash true f t = absurd cc
clash false f t = absurd cc

pub none_of : (n : ℕ) (lanes fewer : List ℕ) (es : List Entry) → ((m : ℕ) → has fewer m ≡ true → has lanes m ≡ true) → HasNone n lanes es → HasNone n fewer es
none_of n lanes fewer [] less h = tt
none_of n lanes fewer (e ∷ es) less h = (false_unless _ (λ is. clash (has lanes (e.thread % n)) h.0 (less (e.thread % n) is)), none_of n lanes fewer es less h.1)

pub none_front : (n : ℕ) (lanes : List ℕ) (xs ys : List Entry) → HasNone n lanes (xs ++ ys) → HasNone n lanes xs
none_front n lanes [] ys h = tt
none_front n lanes (x ∷ xs) ys h = (h.0, none_front n lanes xs ys h.1)
