-- How many tests a search needs.
use Rattle.std.proofs.Common.{◌≡◌, ℕ, zero, suc, ◌+◌, ◌-◌, ◌*◌, ◌<◌, ◌≤◌, min, Bool, true, false, cond, List, length, refl, sym, ap, subst, arith, inl, inr}
use Rattle.std.specs.Prelude.{◌⊎◌, Option, Some, None, nat_lt, find}
use Rattle.std.proofs.lemmas.Bool.{ltb-true, cases_lt}
use Rattle.std.proofs.lemmas.Nat.{mul-le}
use Rattle.schedule_model.specs.declared.outcome.Outcome.{Outcome}
use Rattle.schedule_model.specs.Outcomes.{is_resolved}
use Rattle.dd_isolator.specs.Shifts.{units}
use Rattle.dd_isolator.specs.Rounds.{State, IsState, Test, units_of, state, start, round_size, round_of, decided, after, follower, made}
use Rattle.dd_isolator.specs.Search.{measure, tests_from}
use Rattle.dd_isolator.proofs.Finding.{find_passes, made-le}
use Rattle.dd_isolator.proofs.Testing.{IsNearer, round_nearer, length-round}
use Rattle.dd_isolator.proofs.Falling.{after_fewer, follower_lowers}
use Rattle.dd_isolator.proofs.Searching.{tests_end, needed_more}
use Rattle.dd_isolator.proofs.Keeping.{start_is}

-- how a state goes on: a resolved test brings fewer units, none brings finer parts
data Goes (outcome : List ℕ → Outcome) (s : State) : Option State → Type 0 where
  narrower : (t : State) → units_of t < units_of s → Goes outcome s (Some t)
  finer : s.parts < units_of s → Goes outcome s (Some (state s.passing s.failing (2 * s.parts)))
  ends : Goes outcome s None

goes : (outcome : List ℕ → Outcome) (s : State) → IsState s → Goes outcome s (follower outcome s)
unfolding follower
goes outcome s ok = by_find (find (λ t. is_resolved (outcome t.times)) (round_of s)) refl
  where
    by_test : (b : Bool) → nat_lt s.parts (units_of s) ≡ b → Goes outcome s (cond b (Some (state s.passing s.failing (2 * s.parts))) None)
    by_test true e = finer (ltb-true s.parts (units_of s) e)
    by_test false e = ends

    by_find : (found : Option Test) → find (λ t. is_resolved (outcome t.times)) (round_of s) ≡ found → Goes outcome s (decided outcome s found)
    by_find None f = by_test (nat_lt s.parts (units_of s)) refl
    by_find (Some x) f =
        let q = find_passes (λ t. IsNearer s t.times) (λ t. is_resolved (outcome t.times)) (round_of s) x (round_nearer s ok) f in
        narrower (after s x.side x.times (outcome x.times)) (after_fewer s x.side x.times (outcome x.times) q.0 q.1)

round-le : (outcome : List ℕ → Outcome) (s : State) → length (made outcome (round_of s)) ≤ 2 * s.parts
unfolding round_size
round-le outcome s = by_test (nat_lt 1 (units_of s)) (length-round s)
  where
    by_test : (b : Bool) → length (round_of s) ≡ cond b (2 * s.parts) 0 → length (made outcome (round_of s)) ≤ 2 * s.parts
    by_test true e = omega (arith, made-le outcome (round_of s))
    by_test false e = omega (arith, made-le outcome (round_of s))

-- from n parts of v units on: up to and with the next resolved test, and all that comes behind it
record Bounded (v n needed : ℕ) : Type 0 where
  some : n < v → needed + 2 * n ≤ 6 * v + 8 * ((v - 1) * (v - 1))
  all : n ≡ v → needed ≤ 2 * v + 8 * ((v - 1) * (v - 1))

squared : (v n needed : ℕ) → min 2 v ≤ n → n ≤ v → Bounded v n needed → needed ≤ 8 * (v * v)
squared zero n needed h k b = omega (arith, b.all (omega arith))
squared (suc w) n needed h k b = by_cases (cases_lt n (suc w))
  where
    one_less : (suc w - 1) * (suc w - 1) ≡ w * w
    one_less = let e : suc w - 1 ≡ w = omega arith in ap (λ x. x * x) e

    by_cases : (n < suc w) ⊎ (suc w ≤ n) → needed ≤ 8 * (suc w * suc w)
    by_cases (inl lt) = let some : needed + 2 * n ≤ 6 * suc w + 8 * ((suc w - 1) * (suc w - 1)) = b.some lt in omega (arith, one_less)
    by_cases (inr ge) = let all : needed ≤ 2 * suc w + 8 * ((suc w - 1) * (suc w - 1)) = b.all (omega arith) in omega (arith, one_less)

-- the last round
bounded_end : (v n made : ℕ) → n ≤ v → made ≤ 2 * n → Bounded v n made
bounded_end v n made h k = record { some = λ lt. omega arith; all = λ e. omega arith }

-- fewer units behind the round
bounded_narrower : (v n w made later : ℕ) → n ≤ v → made ≤ 2 * n → w < v → later ≤ 8 * (w * w) → Bounded v n (made + later)
bounded_narrower v n w made later h k less b =
    let squares : w * w ≤ (v - 1) * (v - 1) = mul-le w w (v - 1) (v - 1) (omega arith) (omega arith) in
    record { some = λ lt. omega arith; all = λ e. omega arith }

-- finer parts behind the round
bounded_finer : (v n made later : ℕ) → n < v → made ≤ 2 * n → Bounded v (min (2 * n) v) later → Bounded v n (made + later)
bounded_finer v n made later lt k b = record { some = λ h. by_cases (cases_lt (2 * n) v); all = λ e. absurd (omega arith) }
  where
    by_cases : (2 * n < v) ⊎ (v ≤ 2 * n) → (made + later) + 2 * n ≤ 6 * v + 8 * ((v - 1) * (v - 1))
    by_cases (inl less) = let some : later + 2 * min (2 * n) v ≤ 6 * v + 8 * ((v - 1) * (v - 1)) = b.some (omega arith) in omega arith
    by_cases (inr more) = let all : later ≤ 2 * v + 8 * ((v - 1) * (v - 1)) = b.all (omega arith) in omega arith

bounded_within : (n : ℕ) (outcome : List ℕ → Outcome) (s : State) → measure s ≤ n → IsState s → Bounded (units_of s) s.parts (length (tests_from outcome s))
bounded_within zero outcome s h ok = by_next (follower outcome s) refl
  where
    by_next : (next : Option State) → follower outcome s ≡ next → Bounded (units_of s) s.parts (length (tests_from outcome s))
    by_next None e = subst (Bounded (units_of s) s.parts) (sym (ap length (tests_end outcome s e))) (bounded_end (units_of s) s.parts _ ok.most (round-le outcome s))
    by_next (Some t) e = absurd (omega (arith, (follower_lowers outcome s t ok e).less))
bounded_within (suc n) outcome s h ok = by_goes (follower outcome s) refl (goes outcome s ok) (λ t. bounded_within n outcome t)
  where
    by_goes : (next : Option State) → follower outcome s ≡ next → Goes outcome s next → ((t : State) → measure t ≤ n → IsState t → Bounded (units_of t) t.parts (length (tests_from outcome t))) → Bounded (units_of s) s.parts (length (tests_from outcome s))
    by_goes None e ends later = subst (Bounded (units_of s) s.parts) (sym (ap length (tests_end outcome s e))) (bounded_end (units_of s) s.parts _ ok.most (round-le outcome s))
    by_goes (Some t) e (narrower u less) later =
        let lower = follower_lowers outcome s t ok e in
        let rest : Bounded (units_of t) t.parts (length (tests_from outcome t)) = later t (omega (arith, lower.less)) lower.ok in
        subst (Bounded (units_of s) s.parts) (sym (needed_more outcome s t ok e))
        (bounded_narrower (units_of s) s.parts (units_of t) _ _ ok.most (round-le outcome s) less (squared (units_of t) t.parts _ lower.ok.least lower.ok.most rest))
    by_goes (Some t) e (finer lt) later =
        let lower = follower_lowers outcome s t ok e in
        let rest : Bounded (units_of t) t.parts (length (tests_from outcome t)) = later t (omega (arith, lower.less)) lower.ok in
        subst (Bounded (units_of s) s.parts) (sym (needed_more outcome s t ok e))
        (bounded_finer (units_of s) s.parts _ _ lt (round-le outcome s) rest)

-- of u units at most 8 * u * u tests are needed
pub needed-le : (outcome : List ℕ → Outcome) (p f : List ℕ) → length f ≡ length p → length (tests_from outcome (start p f)) ≤ 8 * (units p f * units p f)
needed-le outcome p f same =
    let ok = start_is p f same in
    squared (units p f) (start p f).parts _ ok.least ok.most (bounded_within (measure (start p f)) outcome (start p f) (omega arith) ok)
