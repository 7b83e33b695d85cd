-- What each state of a search keeps: its schedules stand between the given ones, one passes and one fails.
use Rattle.std.proofs.Common.{◌≡◌, ℕ, Bool, true, false, cond, List, length, refl, ◌∙◌, subst, arith, inl, inr}
use Rattle.std.specs.Prelude.{◌*◌, Option, Some, None, nat_lt, slice_index, find}
use Rattle.schedule_model.specs.declared.outcome.Outcome.{Outcome}
use Rattle.schedule_model.specs.declared.outcome.Outcome.TheVariants.{Pass, Fail, Unresolved}
use Rattle.schedule_model.specs.Outcomes.{is_resolved}
use Rattle.dd_isolator.specs.Shifts.{units, InOrder, IsBetween}
use Rattle.dd_isolator.specs.Rounds.{State, Side, Added, Taken, IsState, Test, state, start, round_of, after, refined, decided, follower}
use Rattle.dd_isolator.proofs.Finding.{find_passes}
use Rattle.dd_isolator.proofs.Testing.{IsNearer, round_nearer}
use Rattle.dd_isolator.proofs.Falling.{state_is}

pub record Keeps (outcome : List ℕ → Outcome) (passing failing : List ℕ) (s : State) : Type 0 where
  pub between : IsBetween passing s.passing s.failing failing
  pub passes : outcome s.passing ≡ Pass
  pub fails : outcome s.failing ≡ Fail

first_nearer : (p c t d f : ℕ) → InOrder p c d f → InOrder c t t d → InOrder p t d f
first_nearer p c t d f (inl h) (inl k) = inl (omega arith, omega arith, omega arith)
first_nearer p c t d f (inl h) (inr k) = inl (omega arith, omega arith, omega arith)
first_nearer p c t d f (inr h) (inl k) = inr (omega arith, omega arith, omega arith)
first_nearer p c t d f (inr h) (inr k) = inr (omega arith, omega arith, omega arith)

second_nearer : (p c t d f : ℕ) → InOrder p c d f → InOrder c t t d → InOrder p c t f
second_nearer p c t d f (inl h) (inl k) = inl (omega arith, omega arith, omega arith)
second_nearer p c t d f (inl h) (inr k) = inl (omega arith, omega arith, omega arith)
second_nearer p c t d f (inr h) (inl k) = inr (omega arith, omega arith, omega arith)
second_nearer p c t d f (inr h) (inr k) = inr (omega arith, omega arith, omega arith)

passing_nearer : (passing failing times : List ℕ) (s : State) → IsBetween passing s.passing s.failing failing → IsNearer s times → IsBetween passing times s.failing failing
passing_nearer passing failing times s b near = record {
  length_c = near.same ∙ b.length_c;
  length_d = b.length_d;
  length_failing = b.length_failing;
  in_order = λ i. first_nearer (slice_index passing i) (slice_index s.passing i) (slice_index times i) (slice_index s.failing i) (slice_index failing i) (b.in_order i) (near.in_order i);
}

failing_nearer : (passing failing times : List ℕ) (s : State) → IsBetween passing s.passing s.failing failing → IsNearer s times → IsBetween passing s.passing times failing
failing_nearer passing failing times s b near = record {
  length_c = b.length_c;
  length_d = near.same ∙ b.length_c;
  length_failing = b.length_failing;
  in_order = λ i. second_nearer (slice_index passing i) (slice_index s.passing i) (slice_index times i) (slice_index s.failing i) (slice_index failing i) (b.in_order i) (near.in_order i);
}

with_passing : (outcome : List ℕ → Outcome) (p f times : List ℕ) (s : State) (n : ℕ) → Keeps outcome p f s → IsNearer s times → outcome times ≡ Pass → Keeps outcome p f (state times s.failing n)
with_passing outcome p f times s n k near e = record { between = passing_nearer p f times s k.between near; passes = e; fails = k.fails }

with_failing : (outcome : List ℕ → Outcome) (p f times : List ℕ) (s : State) (n : ℕ) → Keeps outcome p f s → IsNearer s times → outcome times ≡ Fail → Keeps outcome p f (state s.passing times n)
with_failing outcome p f times s n k near e = record { between = failing_nearer p f times s k.between near; passes = k.passes; fails = e }

after_keeps : (outcome : List ℕ → Outcome) (p f : List ℕ) (s : State) (side : Side) (times : List ℕ) (o : Outcome) → Keeps outcome p f s → IsNearer s times → outcome times ≡ o → Keeps outcome p f (after s side times o)
after_keeps outcome p f s Added times Fail k near e = with_failing outcome p f times s 2 k near e
after_keeps outcome p f s Added times Pass k near e = with_passing outcome p f times s _ k near e
after_keeps outcome p f s Taken times Fail k near e = with_failing outcome p f times s _ k near e
after_keeps outcome p f s Taken times Pass k near e = with_passing outcome p f times s 2 k near e
after_keeps outcome p f s Added times Unresolved k near e = k
after_keeps outcome p f s Taken times Unresolved k near e = k

refined_keeps : (outcome : List ℕ → Outcome) (p f : List ℕ) (s t : State) → Keeps outcome p f s → refined s ≡ Some t → Keeps outcome p f t
refined_keeps outcome p f s t k e = by_test (nat_lt s.parts (units s.passing s.failing)) e
  where
    by_test : (b : Bool) → cond b (Some (state s.passing s.failing (2 * s.parts))) None ≡ Some t → Keeps outcome p f t
    by_test true e = let is : state s.passing s.failing (2 * s.parts) ≡ t = cc in subst (Keeps outcome p f) is (record { between = k.between; passes = k.passes; fails = k.fails })
    by_test false e = absurd (cc)

pub follower_keeps : (outcome : List ℕ → Outcome) (p f : List ℕ) (s t : State) → IsState s → Keeps outcome p f s → follower outcome s ≡ Some t → Keeps outcome p f t
unfolding follower
follower_keeps outcome p f s t ok k e = by_find (find (λ t. is_resolved (outcome t.times)) (round_of s)) refl e
  where
    by_find : (found : Option Test) → find (λ t. is_resolved (outcome t.times)) (round_of s) ≡ found → decided outcome s found ≡ Some t → Keeps outcome p f t
    by_find None g e = refined_keeps outcome p f s t k e
    by_find (Some x) g e =
        let q = find_passes (λ t. IsNearer s t.times) (λ t. is_resolved (outcome t.times)) (round_of s) x (round_nearer s ok) g in
        let is : after s x.side x.times (outcome x.times) ≡ t = cc in
        subst (Keeps outcome p f) is (after_keeps outcome p f s x.side x.times (outcome x.times) k q.0 refl)

given_in_order : (p f : ℕ) → InOrder p p f f
given_in_order p f = grind arith

pub start_keeps : (outcome : List ℕ → Outcome) (p f : List ℕ) → length f ≡ length p → outcome p ≡ Pass → outcome f ≡ Fail → Keeps outcome p f (start p f)
start_keeps outcome p f same passes fails = record {
  between = record { length_c = refl; length_d = same; length_failing = same; in_order = λ i. given_in_order (slice_index p i) (slice_index f i) };
  passes = passes;
  fails = fails;
}

pub start_is : (p f : List ℕ) → length f ≡ length p → IsState (start p f)
start_is p f same = state_is p f 2 same (omega arith)
