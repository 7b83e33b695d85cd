-- Each state that follows is one that the search can come to, fails, and has a smaller measure.
use Rattle.std.proofs.Common.{◌≡◌, ℕ, ◌+◌, ◌-◌, ◌*◌, ◌<◌, ◌≤◌, Bool, true, false, cond, List, [], ◌∷◌, length, refl, subst, arith}
use Rattle.std.specs.Prelude.{Option, Some, None, nat_lt, find}
use Rattle.std.specs.List.{AllByRecursion}
use Rattle.std.proofs.lemmas.Bool.{ltb-true}
use Rattle.std.proofs.lemmas.Nat.{mul-le}
use Rattle.schedule_model.specs.declared.outcome.Outcome.{Outcome}
use Rattle.schedule_model.specs.declared.outcome.Outcome.TheVariants.{Pass, Fail, Unresolved}
use Rattle.schedule_model.specs.Schedules.{occurrences}
use Rattle.switch_reducer.specs.Rounds.{State, IsState, is_fail, state, round_of, refined, decided, follower}
use Rattle.switch_reducer.specs.Search.{measure}
use Rattle.switch_reducer.proofs.Cutting.{IsSmaller, round_smaller}

-- what is found passes the test, and is as all are
pub find_passes : {X : Type 0} (P : X → Type 0) (p : X → Bool) (xs : List X) (x : X) → AllByRecursion P xs → find p xs ≡ Some x → P x × (p x ≡ true)
find_passes P p [] x all e = absurd (cc)
find_passes P p (y ∷ ys) x all e = by_test (p y) refl e (find_passes P p ys x all.1)
  where
    by_test : (b : Bool) → p y ≡ b → cond b (Some y) (find p ys) ≡ Some x → (find p ys ≡ Some x → P x × (p x ≡ true)) → P x × (p x ≡ true)
    by_test true t e later = let same : y ≡ x = cc in (subst P same all.0, subst (λ z. p z ≡ true) same t)
    by_test false t e later = later e

pub fails_from : (o : Outcome) → is_fail o ≡ true → o ≡ Fail
fails_from Pass e = absurd (cc)
fails_from Fail e = refl
fails_from Unresolved e = absurd (cc)

pub falls_by_times : (v w n : ℕ) → w < v → w * w + (w - n) < v * v + 0
falls_by_times v w n h =
    let a : (w + 1) * (w + 1) ≤ v * v = mul-le (w + 1) (w + 1) v v (omega arith) (omega arith) in
    omega arith

-- what the search keeps, and lowers
pub record Lowers (outcome : List ℕ → Outcome) (s t : State) : Type 0 where
  pub ok : IsState t
  pub less : measure t < measure s
  pub no_more : (time : ℕ) → occurrences t.times time ≤ occurrences s.times time
  pub fails : outcome s.times ≡ Fail → outcome t.times ≡ Fail

smaller_lowers : (outcome : List ℕ → Outcome) (s t : State) → IsSmaller s t → is_fail (outcome t.times) ≡ true → Lowers outcome s t
smaller_lowers outcome s t small e = record {
  ok = small.is;
  less = omega (arith, falls_by_times (length s.times) (length t.times) t.parts small.fewer);
  no_more = small.no_more;
  fails = λ _. fails_from (outcome t.times) e;
}

refined_lowers : (outcome : List ℕ → Outcome) (s t : State) → IsState s → refined s ≡ Some t → Lowers outcome s t
refined_lowers outcome s t ok e = by_test (nat_lt s.parts (length s.times)) refl e
  where
    by_test : (b : Bool) → nat_lt s.parts (length s.times) ≡ b → cond b (Some (state s.times (2 * s.parts))) None ≡ Some t → Lowers outcome s t
    by_test true lt e =
        let more : s.parts < length s.times = ltb-true s.parts (length s.times) lt in
        let is : state s.times (2 * s.parts) ≡ t = cc in
        let some : 1 ≤ s.parts = omega (arith, ok.least) in
        subst (Lowers outcome s) is (record {
          ok = record { least = omega (arith, ok.least); most = omega arith };
          less = omega arith;
          no_more = λ time. omega arith;
          fails = λ h. h;
        })
    by_test false lt e = absurd (cc)

pub follower_lowers : (outcome : List ℕ → Outcome) (s t : State) → IsState s → follower outcome s ≡ Some t → Lowers outcome s t
unfolding follower
follower_lowers outcome s t ok e = by_find (find (λ t. is_fail (outcome t.times)) (round_of s)) refl e
  where
    by_find : (found : Option State) → find (λ t. is_fail (outcome t.times)) (round_of s) ≡ found → decided s found ≡ Some t → Lowers outcome s t
    by_find None f e = refined_lowers outcome s t ok e
    by_find (Some x) f e =
        let p = find_passes (IsSmaller s) (λ t. is_fail (outcome t.times)) (round_of s) x (round_smaller s ok) f in
        let is : x ≡ t = cc in
        subst (Lowers outcome s) is (smaller_lowers outcome s x p.0 p.1)
