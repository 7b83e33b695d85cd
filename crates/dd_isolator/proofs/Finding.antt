-- The first test that is resolved, in a list of tests.
use Rattle.std.proofs.Common.{◌≡◌, ℕ, zero, suc, ◌+◌, ◌<◌, ◌≤◌, Bool, true, false, cond, not, List, [], ◌∷◌, length, get_or, refl, ◌∙◌, ap, subst, arith}
use Rattle.std.specs.Prelude.{Some, None, find}
use Rattle.std.specs.List.{AllByRecursion}
use Rattle.std.proofs.lemmas.List.Sums.{sum_by-cons}
use Rattle.schedule_model.specs.declared.outcome.Outcome.{Outcome}
use Rattle.schedule_model.specs.Outcomes.{is_resolved, unresolved_among}
use Rattle.dd_isolator.specs.Rounds.{Test, made}

abbrev resolves : (List ℕ → Outcome) → Test → Bool
resolves outcome t = is_resolved (outcome t.times)

-- what is found passes the test, and is as all are
pub find_passes : {X : Type 0} (P : X → Type 0) (p : X → Bool) (xs : List X) (x : X) → AllByRecursion P xs → find p xs ≡ Some x → P x × (p x ≡ true)
find_passes P p [] x all e = absurd (cc)
find_passes P p (y ∷ ys) x all e = by_test (p y) refl e (find_passes P p ys x all.1)
  where
    by_test : (b : Bool) → p y ≡ b → cond b (Some y) (find p ys) ≡ Some x → (find p ys ≡ Some x → P x × (p x ≡ true)) → P x × (p x ≡ true)
    by_test true t e later = let same : y ≡ x = cc in (subst P same all.0, subst (λ z. p z ≡ true) same t)
    by_test false t e later = later e

-- where nothing is found, none passes
pub find_none : {X : Type 0} (p : X → Bool) (xs : List X) → find p xs ≡ None → AllByRecursion (λ x. p x ≡ false) xs
find_none p [] e = tt
find_none p (y ∷ ys) e = by_test (p y) refl e (find_none p ys)
  where
    by_test : (b : Bool) → p y ≡ b → cond b (Some y) (find p ys) ≡ None → (find p ys ≡ None → AllByRecursion (λ x. p x ≡ false) ys) → (p y ≡ false) × AllByRecursion (λ x. p x ≡ false) ys
    by_test true t e later = absurd (cc)
    by_test false t e later = (t, later e)

-- the first place that is resolved: what is found there, and how many tests are made
pub record Found (outcome : List ℕ → Outcome) (ts : List Test) (k : ℕ) (t : Test) : Type 0 where
  pub found : find (λ t. is_resolved (outcome t.times)) ts ≡ Some t
  pub asked : length (made outcome ts) ≡ k + 1
  pub unresolved : unresolved_among outcome (made outcome ts) ≡ k

pub found_at : (outcome : List ℕ → Outcome) (ts : List Test) (k : ℕ) (d : Test) → k < length ts → is_resolved (outcome (get_or ts k d).times) ≡ true → ((j : ℕ) → j < k → is_resolved (outcome (get_or ts j d).times) ≡ false) → Found outcome ts k (get_or ts k d)
found_at outcome [] k d h sure before = absurd (omega arith)
found_at outcome (t ∷ ts) zero d h sure before = at_head (is_resolved (outcome t.times)) refl sure
  where
    at_head : (b : Bool) → is_resolved (outcome t.times) ≡ b → b ≡ true → Found outcome (t ∷ ts) 0 t
    at_head true e y = record {
      found = ap (λ b. cond b (Some t) (find (λ t. is_resolved (outcome t.times)) ts)) e;
      asked = ap (λ b. length (t.times ∷ cond b [] (made outcome ts))) e;
      unresolved = ap (λ b. unresolved_among outcome (t.times ∷ cond b [] (made outcome ts))) e ∙ ap (λ b. 0 + cond {A = ℕ} (not b) 1 0) e;
    }
    at_head false e y = absurd (cc)
found_at outcome (t ∷ ts) (suc k) d h sure before = at_tail (is_resolved (outcome t.times)) refl (before 0 (omega arith)) (found_at outcome ts k d (omega arith) sure (λ j below. before (suc j) (omega arith)))
  where
    at_tail : (b : Bool) → is_resolved (outcome t.times) ≡ b → b ≡ false → Found outcome ts k (get_or ts k d) → Found outcome (t ∷ ts) (suc k) (get_or ts k d)
    at_tail true e n rest = absurd (cc)
    at_tail false e n rest = record {
      found = ap (λ b. cond b (Some t) (find (λ t. is_resolved (outcome t.times)) ts)) e ∙ rest.found;
      asked = ap (λ b. length (t.times ∷ cond b [] (made outcome ts))) e ∙ ap suc rest.asked ∙ omega arith;
      unresolved =
          ap (λ b. unresolved_among outcome (t.times ∷ cond b [] (made outcome ts))) e
          ∙ sum_by-cons (λ s. cond (not (is_resolved (outcome s))) 1 0) t.times (made outcome ts)
          ∙ ap (λ b. cond (not b) 1 0 + unresolved_among outcome (made outcome ts)) e
          ∙ ap (λ n. 1 + n) rest.unresolved
          ∙ omega arith;
    }

-- where none is resolved all are made
pub record NoneFound (outcome : List ℕ → Outcome) (ts : List Test) : Type 0 where
  pub found : find (λ t. is_resolved (outcome t.times)) ts ≡ None
  pub asked : length (made outcome ts) ≡ length ts
  pub unresolved : unresolved_among outcome (made outcome ts) ≡ length ts

pub none_found : (outcome : List ℕ → Outcome) (ts : List Test) (d : Test) → ((j : ℕ) → j < length ts → is_resolved (outcome (get_or ts j d).times) ≡ false) → NoneFound outcome ts
none_found outcome [] d before = record { found = refl; asked = refl; unresolved = refl }
none_found outcome (t ∷ ts) d before = at_tail (is_resolved (outcome t.times)) refl (before 0 (omega arith)) (none_found outcome ts d (λ j below. before (suc j) (omega arith)))
  where
    at_tail : (b : Bool) → is_resolved (outcome t.times) ≡ b → b ≡ false → NoneFound outcome ts → NoneFound outcome (t ∷ ts)
    at_tail true e n rest = absurd (cc)
    at_tail false e n rest = record {
      found = ap (λ b. cond b (Some t) (find (λ t. is_resolved (outcome t.times)) ts)) e ∙ rest.found;
      asked = ap (λ b. length (t.times ∷ cond b [] (made outcome ts))) e ∙ ap suc rest.asked;
      unresolved =
          ap (λ b. unresolved_among outcome (t.times ∷ cond b [] (made outcome ts))) e
          ∙ sum_by-cons (λ s. cond (not (is_resolved (outcome s))) 1 0) t.times (made outcome ts)
          ∙ ap (λ b. cond (not b) 1 0 + unresolved_among outcome (made outcome ts)) e
          ∙ ap (λ n. 1 + n) rest.unresolved
          ∙ omega arith;
    }

-- no more tests are made than there are
pub made-le : (outcome : List ℕ → Outcome) (ts : List Test) → length (made outcome ts) ≤ length ts
made-le outcome [] = omega arith
made-le outcome (t ∷ ts) = by_test (is_resolved (outcome t.times)) (made-le outcome ts)
  where
    by_test : (b : Bool) → length (made outcome ts) ≤ length ts → length (t.times ∷ cond b [] (made outcome ts)) ≤ suc (length ts)
    by_test true h = omega arith
    by_test false h = omega arith
