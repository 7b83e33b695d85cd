-- Each state that follows is one that the search can come to, and has a smaller measure.
use Rattle.std.proofs.Common.{◌≡◌, ℕ, ◌+◌, ◌-◌, ◌*◌, ◌<◌, ◌≤◌, min, max, Bool, true, false, cond, List, length, refl, sym, ◌∙◌, subst, arith}
use Rattle.std.specs.Prelude.{Option, Some, None, nat_lt, find}
use Rattle.std.proofs.lemmas.Bool.{ltb-true}
use Rattle.std.proofs.lemmas.Nat.{mul-le}
use Rattle.schedule_model.specs.declared.outcome.Outcome.{Outcome}
use Rattle.schedule_model.specs.declared.outcome.Outcome.TheVariants.{Pass, Fail, Unresolved}
use Rattle.schedule_model.specs.Outcomes.{is_resolved}
use Rattle.dd_isolator.specs.Shifts.{units}
use Rattle.dd_isolator.specs.Rounds.{State, IsState, Side, Added, Taken, Test, units_of, state, round_of, after, refined, decided, follower}
use Rattle.dd_isolator.specs.Search.{measure}
use Rattle.dd_isolator.proofs.Finding.{find_passes}
use Rattle.dd_isolator.proofs.Testing.{IsNearer, round_nearer}

pub state_is : (c d : List ℕ) (n : ℕ) → length d ≡ length c → 2 ≤ n → IsState (state c d n)
state_is c d n same two = record { same = same; least = omega arith; most = omega arith }

falls_by_units : (v w n : ℕ) → w < v → w * w + (w - n) < v * v + 0
falls_by_units v w n h =
    let a : (w + 1) * (w + 1) ≤ v * v = mul-le (w + 1) (w + 1) v v (omega arith) (omega arith) in
    omega arith

-- what the search keeps, and lowers
pub record Lowers (s t : State) : Type 0 where
  pub ok : IsState t
  pub less : measure t < measure s
  pub units : units_of t ≤ units_of s

pub fewer : (s : State) (c d : List ℕ) (n : ℕ) → length d ≡ length c → 2 ≤ n → units c d < units_of s → Lowers s (state c d n)
fewer s c d n same two less = record {
  ok = state_is c d n same two;
  less = omega (arith, falls_by_units (units_of s) (units c d) (min n (units c d)) less);
  units = omega arith;
}

pub after_lowers : (outcome : List ℕ → Outcome) (s : State) (side : Side) (times : List ℕ) (o : Outcome) → IsState s → IsNearer s times → is_resolved o ≡ true → Lowers s (after s side times o)
after_lowers outcome s Added times Fail ok near is = fewer s s.passing times 2 near.same (omega arith) near.to_passing
after_lowers outcome s Added times Pass ok near is = fewer s times s.failing (max (s.parts - 1) 2) (ok.same ∙ sym near.same) (omega arith) near.to_failing
after_lowers outcome s Taken times Fail ok near is = fewer s s.passing times (max (s.parts - 1) 2) near.same (omega arith) near.to_passing
after_lowers outcome s Taken times Pass ok near is = fewer s times s.failing 2 (ok.same ∙ sym near.same) (omega arith) near.to_failing
after_lowers outcome s Added times Unresolved ok near is = absurd (cc)
after_lowers outcome s Taken times Unresolved ok near is = absurd (cc)

pub after_fewer : (s : State) (side : Side) (times : List ℕ) (o : Outcome) → IsNearer s times → is_resolved o ≡ true → units_of (after s side times o) < units_of s
after_fewer s Added times Fail near is = near.to_passing
after_fewer s Added times Pass near is = near.to_failing
after_fewer s Taken times Fail near is = near.to_passing
after_fewer s Taken times Pass near is = near.to_failing
after_fewer s Added times Unresolved near is = absurd (cc)
after_fewer s Taken times Unresolved near is = absurd (cc)

pub refined_lowers : (s t : State) → IsState s → refined s ≡ Some t → Lowers s t
refined_lowers s t ok e = by_test (nat_lt s.parts (units_of s)) refl e
  where
    by_test : (b : Bool) → nat_lt s.parts (units_of s) ≡ b → cond b (Some (state s.passing s.failing (2 * s.parts))) None ≡ Some t → Lowers s t
    by_test true lt e =
        let more : s.parts < units_of s = ltb-true s.parts (units_of s) lt in
        let is : state s.passing s.failing (2 * s.parts) ≡ t = cc in
        let some : 1 ≤ s.parts = omega (arith, ok.least) in
        subst (Lowers s) is (record {
          ok = record { same = ok.same; least = omega (arith, ok.least); most = omega arith };
          less = omega arith;
          units = omega arith;
        })
    by_test false lt e = absurd (cc)

pub follower_lowers : (outcome : List ℕ → Outcome) (s t : State) → IsState s → follower outcome s ≡ Some t → Lowers s t
unfolding follower
follower_lowers outcome s t ok e = by_find (find (λ t. is_resolved (outcome t.times)) (round_of s)) refl e
  where
    by_find : (found : Option Test) → find (λ t. is_resolved (outcome t.times)) (round_of s) ≡ found → decided outcome s found ≡ Some t → Lowers s t
    by_find None f e = refined_lowers s t ok e
    by_find (Some x) f e =
        let p = find_passes (λ t. IsNearer s t.times) (λ t. is_resolved (outcome t.times)) (round_of s) x (round_nearer s ok) f in
        let is : after s x.side x.times (outcome x.times) ≡ t = cc in
        subst (Lowers s) is (after_lowers outcome s x.side x.times (outcome x.times) ok p.0 p.1)
