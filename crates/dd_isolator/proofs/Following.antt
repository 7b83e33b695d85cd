-- States that follow one another, one step at a time.
use Rattle.std.proofs.Common.{◌≡◌, ℕ, zero, suc, ◌-◌, ◌<◌, ◌≤◌, List, [], ◌∷◌, refl, sym, ◌∙◌, ap, arith}
use Rattle.std.specs.Prelude.{Option, Some, None}
use Rattle.dd_isolator.specs.Following.{then_states, states_within, last_of}

module _ {S : Type 0} (next : S → Option S) where
  pub within_end : (n : ℕ) (s : S) → next s ≡ None → states_within next n s ≡ s ∷ []
  unfolding states_within
  within_end zero s e = refl
  within_end (suc n) s e = ap (λ o. s ∷ then_states o (λ t. states_within next n t)) e

  within_more : (n : ℕ) (s t : S) → next s ≡ Some t → states_within next (suc n) s ≡ s ∷ states_within next n t
  unfolding states_within
  within_more n s t e = ap (λ o. s ∷ then_states o (λ t. states_within next n t)) e

  pub from_any : (n : ℕ) (r s : S) → last_of r (states_within next n s) ≡ last_of s (states_within next n s)
  unfolding states_within
  from_any zero r s = refl
  from_any (suc n) r s = refl

  -- each follower of a state that is as it should be is so too, and is smaller
  module _ (IsFine : S → Type 0) (measure : S → ℕ) (lowers : (s t : S) → IsFine s → next s ≡ Some t → IsFine t × (measure t < measure s)) where
    -- more than enough is enough
    enough : (n m : ℕ) (s : S) → IsFine s → measure s ≤ n → measure s ≤ m → states_within next n s ≡ states_within next m s
    enough zero zero s ok h k = refl
    enough zero (suc m) s ok h k = by_next (next s) refl
      where
        by_next : (o : Option S) → next s ≡ o → states_within next 0 s ≡ states_within next (suc m) s
        by_next None e = within_end 0 s e ∙ sym (within_end (suc m) s e)
        by_next (Some t) e = absurd (omega (arith, (lowers s t ok e).1))
    enough (suc n) zero s ok h k = by_next (next s) refl
      where
        by_next : (o : Option S) → next s ≡ o → states_within next (suc n) s ≡ states_within next 0 s
        by_next None e = within_end (suc n) s e ∙ sym (within_end 0 s e)
        by_next (Some t) e = absurd (omega (arith, (lowers s t ok e).1))
    enough (suc n) (suc m) s ok h k = by_next (next s) refl (λ t ok h k. enough n m t ok h k)
      where
        by_next : (o : Option S) → next s ≡ o → ((t : S) → IsFine t → measure t ≤ n → measure t ≤ m → states_within next n t ≡ states_within next m t) → states_within next (suc n) s ≡ states_within next (suc m) s
        by_next None e later = within_end (suc n) s e ∙ sym (within_end (suc m) s e)
        by_next (Some t) e later =
            let lower = lowers s t ok e in
            within_more n s t e ∙ ap (λ l. s ∷ l) (later t lower.0 (omega (arith, lower.1)) (omega (arith, lower.1))) ∙ sym (within_more m s t e)

    -- a state and all that follow it, where one does
    pub all_more : (s t : S) → IsFine s → next s ≡ Some t → states_within next (measure s) s ≡ s ∷ states_within next (measure t) t
    all_more s t ok e =
        let lower = lowers s t ok e in
        let is : measure s ≡ suc (measure s - 1) = omega (arith, lower.1) in
        ap (λ k. states_within next k s) is ∙ within_more (measure s - 1) s t e
        ∙ ap (λ l. s ∷ l) (enough (measure s - 1) (measure t) t lower.0 (omega (arith, lower.1)) (omega arith))

    pub last_all_more : (s t : S) → IsFine s → next s ≡ Some t → last_of s (states_within next (measure s) s) ≡ last_of t (states_within next (measure t) t)
    last_all_more s t ok e = ap (last_of s) (all_more s t ok e) ∙ from_any (measure t) s t

    ends_within : (n : ℕ) (s : S) → measure s ≤ n → IsFine s → next (last_of s (states_within next (measure s) s)) ≡ None
    ends_within zero s h ok = by_next (next s) refl
      where
        by_next : (o : Option S) → next s ≡ o → next (last_of s (states_within next (measure s) s)) ≡ None
        by_next None e = ap (λ l. next (last_of s l)) (within_end (measure s) s e) ∙ e
        by_next (Some t) e = absurd (omega (arith, (lowers s t ok e).1))
    ends_within (suc n) s h ok = by_next (next s) refl (λ t. ends_within n t)
      where
        by_next : (o : Option S) → next s ≡ o → ((t : S) → measure t ≤ n → IsFine t → next (last_of t (states_within next (measure t) t)) ≡ None) → next (last_of s (states_within next (measure s) s)) ≡ None
        by_next None e later = ap (λ l. next (last_of s l)) (within_end (measure s) s e) ∙ e
        by_next (Some t) e later =
            let lower = lowers s t ok e in
            ap next (last_all_more s t ok e) ∙ later t (omega (arith, lower.1)) lower.0

    -- the last one has no follower
    pub last_all_ends : (s : S) → IsFine s → next (last_of s (states_within next (measure s) s)) ≡ None
    last_all_ends s ok = ends_within (measure s) s (omega arith) ok
