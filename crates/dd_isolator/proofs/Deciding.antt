-- What the first resolved test of a round decides.
use Rattle.std.proofs.Common.{◌≡◌, ℕ, zero, suc, ◌+◌, ◌<◌, ◌≤◌, true, false, cond, List, [], ◌∷◌, length, get_or, sym, ◌∙◌, ap, arith, inl, inr}
use Rattle.std.specs.Prelude.{◌⊎◌, Option, Some, None}
use Rattle.std.proofs.lemmas.Bool.{cases_lt}
use Rattle.schedule_model.specs.declared.outcome.Outcome.{Outcome}
use Rattle.schedule_model.specs.Outcomes.{is_resolved, unresolved_among}
use Rattle.dd_isolator.specs.declared.round.Decision.{Decision}
use Rattle.dd_isolator.specs.Rounds.{State, Test, after, decided, follower, made, refined, round_of, round_size, test}
use Rattle.dd_isolator.specs.Answers.{Decides, IsFirstOf, IsOpen}
use Rattle.dd_isolator.proofs.Finding.{NoneFound, found_at, none_found}
use Rattle.dd_isolator.proofs.Testing.{length-round, get_or-round}

pub record Deciding (outcome : List ℕ → Outcome) (s : State) (d : Decision) : Type 0 where
  pub decides : Decides outcome s (Some d)
  pub asked : length (made outcome (round_of s)) ≡ d.place + 1
  pub unresolved : unresolved_among outcome (made outcome (round_of s)) ≡ d.place

pub deciding : (outcome other : List ℕ → Outcome) (s : State) (done count : ℕ) (d : Decision) → other ≡ outcome → done + count ≤ round_size s → ((i : ℕ) → i < done → IsOpen outcome s i) → IsFirstOf other s done count (Some d) → Deciding outcome s d
deciding outcome other s done count d same within tried first =
    let below : d.place < round_size s = omega (arith, first.1) in
    let here : outcome (test s d.place).times ≡ d.outcome = ap (λ (f : List ℕ → Outcome). f (test s d.place).times) (sym same) ∙ first.2 in
    let is : get_or (round_of s) d.place (test s 0) ≡ test s d.place = get_or-round s d.place (test s 0) below in
    let sure : is_resolved (outcome (get_or (round_of s) d.place (test s 0)).times) ≡ true = ap (λ (t : Test). is_resolved (outcome t.times)) is ∙ ap is_resolved here ∙ first.3 in
    let found = found_at outcome (round_of s) d.place (test s 0) (omega (arith, length-round s)) sure (λ j h.
    ap (λ (t : Test). is_resolved (outcome t.times)) (get_or-round s j (test s 0) (omega arith)) ∙ either j h (cases_lt j done)) in
    record {
      decides = (below, here, first.3, found.found ∙ ap (λ (t : Test). Some t) is);
      asked = found.asked;
      unresolved = found.unresolved;
    }
  where
    either : (j : ℕ) → j < d.place → (j < done) ⊎ (done ≤ j) → is_resolved (outcome (test s j).times) ≡ false
    either j h (inl low) = tried j low
    either j h (inr high) = ap (λ (f : List ℕ → Outcome). is_resolved (f (test s j).times)) (sym same) ∙ first.4 j high h

pub none_deciding : (outcome : List ℕ → Outcome) (s : State) (done : ℕ) → round_size s ≤ done → ((i : ℕ) → i < done → IsOpen outcome s i) → NoneFound outcome (round_of s)
none_deciding outcome s done h tried = none_found outcome (round_of s) (test s 0) (λ j low.
    let below : j < round_size s = omega (arith, length-round s) in
    ap (λ (t : Test). is_resolved (outcome t.times)) (get_or-round s j (test s 0) below) ∙ tried j (omega arith))

made_more : (outcome : List ℕ → Outcome) (ts : List Test) (k : ℕ) (d : Test) → k < length ts → ((j : ℕ) → j < k → is_resolved (outcome (get_or ts j d).times) ≡ false) → k < length (made outcome ts)
made_more outcome [] k d h before = absurd (omega arith)
made_more outcome (t ∷ ts) zero d h before = omega arith
made_more outcome (t ∷ ts) (suc k) d h before =
    let e : length (made outcome (t ∷ ts)) ≡ suc (length (made outcome ts)) = ap (λ b. length (t.times ∷ cond b [] (made outcome ts))) (before 0 (omega arith)) in
    omega (arith, made_more outcome ts k d (omega arith) (λ j low. before (suc j) (omega arith)))

-- a round that isn't done makes one test more
pub one_more : (outcome : List ℕ → Outcome) (s : State) (done : ℕ) → done < round_size s → ((i : ℕ) → i < done → IsOpen outcome s i) → done < length (made outcome (round_of s))
one_more outcome s done h tried = made_more outcome (round_of s) done (test s 0) (omega (arith, length-round s)) (λ j low.
    let below : j < round_size s = omega arith in
    ap (λ (t : Test). is_resolved (outcome t.times)) (get_or-round s j (test s 0) below) ∙ tried j low)

pub follower_some : (outcome : List ℕ → Outcome) (s r : State) (d : Decision) → Decides outcome s (Some d) → r ≡ after s (test s d.place).side (test s d.place).times d.outcome → Some r ≡ follower outcome s
unfolding follower
follower_some outcome s r d h e =
    ap (λ (t : State). Some t) (e ∙ ap (after s (test s d.place).side (test s d.place).times) (sym h.1)) ∙ sym (ap (decided outcome s) h.3)

pub follower_none : (outcome : List ℕ → Outcome) (s : State) (r : Option State) → Decides outcome s None → r ≡ refined s → r ≡ follower outcome s
unfolding follower
follower_none outcome s r h e = e ∙ sym (ap (decided outcome s) h)
