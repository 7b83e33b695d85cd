-- How many tests the work needs.
use Rattle.std.proofs.Common.{◌≡◌, ℕ, zero, suc, ◌+◌, ◌-◌, ◌*◌, ◌<◌, ◌≤◌, min, Bool, true, false, cond, List, [], ◌∷◌, length, refl, sym, ap, subst, arith, inl, inr}
use Rattle.std.specs.Prelude.{◌⊎◌, Option, Some, None, nat_lt, find}
use Rattle.std.proofs.lemmas.Bool.{ltb-true, cases_lt}
use Rattle.std.proofs.lemmas.Nat.{mul-le}
use Rattle.schedule_model.specs.declared.outcome.Outcome.{Outcome}
use Rattle.switch_reducer.specs.Rounds.{State, IsState, is_fail, state, start, round_of, decided, follower, made}
use Rattle.switch_reducer.specs.Search.{measure, tests_from, tests_in_order, tests_needed}
use Rattle.switch_reducer.specs.Sorted.{sorted}
use Rattle.switch_reducer.proofs.Ordered.{length_sorted}
use Rattle.switch_reducer.proofs.Cutting.{IsSmaller, length-round, round_size-le, round_smaller, state_is}
use Rattle.switch_reducer.proofs.Falling.{find_passes, follower_lowers}
use Rattle.switch_reducer.proofs.Searching.{tests_end, needed_more}

-- no more tests are made than there are
made-le : (outcome : List ℕ → Outcome) (ts : List State) → length (made outcome ts) ≤ length ts
made-le outcome [] = omega arith
made-le outcome (t ∷ ts) = by_test (is_fail (outcome t.times)) (made-le outcome ts)
  where
    by_test : (b : Bool) → length (made outcome ts) ≤ length ts → length (t.times ∷ cond b [] (made outcome ts)) ≤ suc (length ts)
    by_test true h = omega arith
    by_test false h = omega arith

-- how a state goes on: a failing test brings fewer times, none brings finer parts
data Goes (outcome : List ℕ → Outcome) (s : State) : Option State → Type 0 where
  fewer : (t : State) → length t.times < length s.times → Goes outcome s (Some t)
  finer : s.parts < length s.times → Goes outcome s (Some (state s.times (2 * s.parts)))
  ends : Goes outcome s None

goes : (outcome : List ℕ → Outcome) (s : State) → IsState s → Goes outcome s (follower outcome s)
unfolding follower
goes outcome s ok = by_find (find (λ t. is_fail (outcome t.times)) (round_of s)) refl
  where
    by_test : (b : Bool) → nat_lt s.parts (length s.times) ≡ b → Goes outcome s (cond b (Some (state s.times (2 * s.parts))) None)
    by_test true e = finer (ltb-true s.parts (length s.times) e)
    by_test false e = ends

    by_find : (found : Option State) → find (λ t. is_fail (outcome t.times)) (round_of s) ≡ found → Goes outcome s (decided s found)
    by_find None f = by_test (nat_lt s.parts (length s.times)) refl
    by_find (Some x) f = let q = find_passes (IsSmaller s) (λ t. is_fail (outcome t.times)) (round_of s) x (round_smaller s ok) f in fewer x q.0.fewer

made_twice : (outcome : List ℕ → Outcome) (s : State) → length (made outcome (round_of s)) ≤ 2 * s.parts
made_twice outcome s = omega (arith, made-le outcome (round_of s), length-round s, round_size-le s)

-- from n parts of v times on: up to and with the next failing test, and all that comes behind it
record Bounded (v n needed : ℕ) : Type 0 where
  some : n < v → needed + 2 * n ≤ 6 * v + 8 * ((v - 1) * (v - 1))
  all : n ≡ v → needed ≤ 2 * v + 8 * ((v - 1) * (v - 1))

-- with room for one test more
squared : (v n needed : ℕ) → 0 < v → min 2 v ≤ n → n ≤ v → Bounded v n needed → needed + 1 ≤ 8 * (v * v)
squared zero n needed some h k b = absurd (omega arith)
squared (suc w) n needed some h k b = by_cases (cases_lt n (suc w))
  where
    one_less : (suc w - 1) * (suc w - 1) ≡ w * w
    one_less = let e : suc w - 1 ≡ w = omega arith in ap (λ x. x * x) e

    by_cases : (n < suc w) ⊎ (suc w ≤ n) → needed + 1 ≤ 8 * (suc w * suc w)
    by_cases (inl lt) = let some : needed + 2 * n ≤ 6 * suc w + 8 * ((suc w - 1) * (suc w - 1)) = b.some lt in omega (arith, one_less)
    by_cases (inr ge) = let all : needed ≤ 2 * suc w + 8 * ((suc w - 1) * (suc w - 1)) = b.all (omega arith) in omega (arith, one_less)

squared-le : (v n needed : ℕ) → min 2 v ≤ n → n ≤ v → Bounded v n needed → needed ≤ 8 * (v * v)
squared-le zero n needed h k b = omega (arith, b.all (omega arith))
squared-le (suc w) n needed h k b = omega (arith, squared (suc w) n needed (omega arith) h k b)

-- the last round
bounded_end : (v n made : ℕ) → n ≤ v → made ≤ 2 * n → Bounded v n made
bounded_end v n made h k = record { some = λ lt. omega arith; all = λ e. omega arith }

-- fewer times behind the round
bounded_fewer : (v n w made later : ℕ) → n ≤ v → made ≤ 2 * n → w < v → later ≤ 8 * (w * w) → Bounded v n (made + later)
bounded_fewer v n w made later h k less b =
    let squares : w * w ≤ (v - 1) * (v - 1) = mul-le w w (v - 1) (v - 1) (omega arith) (omega arith) in
    record { some = λ lt. omega arith; all = λ e. omega arith }

-- finer parts behind the round
bounded_finer : (v n made later : ℕ) → n < v → made ≤ 2 * n → Bounded v (min (2 * n) v) later → Bounded v n (made + later)
bounded_finer v n made later lt k b = record { some = λ h. by_cases (cases_lt (2 * n) v); all = λ e. absurd (omega arith) }
  where
    by_cases : (2 * n < v) ⊎ (v ≤ 2 * n) → (made + later) + 2 * n ≤ 6 * v + 8 * ((v - 1) * (v - 1))
    by_cases (inl less) = let some : later + 2 * min (2 * n) v ≤ 6 * v + 8 * ((v - 1) * (v - 1)) = b.some (omega arith) in omega arith
    by_cases (inr more) = let all : later ≤ 2 * v + 8 * ((v - 1) * (v - 1)) = b.all (omega arith) in omega arith

bounded_within : (n : ℕ) (outcome : List ℕ → Outcome) (s : State) → measure s ≤ n → IsState s → Bounded (length s.times) s.parts (length (tests_from outcome s))
bounded_within zero outcome s h ok = by_next (follower outcome s) refl
  where
    by_next : (next : Option State) → follower outcome s ≡ next → Bounded (length s.times) s.parts (length (tests_from outcome s))
    by_next None e = subst (Bounded (length s.times) s.parts) (sym (ap length (tests_end outcome s e))) (bounded_end (length s.times) s.parts _ ok.most (made_twice outcome s))
    by_next (Some t) e = absurd (omega (arith, (follower_lowers outcome s t ok e).less))
bounded_within (suc n) outcome s h ok = by_goes (follower outcome s) refl (goes outcome s ok) (λ t. bounded_within n outcome t)
  where
    by_goes : (next : Option State) → follower outcome s ≡ next → Goes outcome s next → ((t : State) → measure t ≤ n → IsState t → Bounded (length t.times) t.parts (length (tests_from outcome t))) → Bounded (length s.times) s.parts (length (tests_from outcome s))
    by_goes None e ends later = subst (Bounded (length s.times) s.parts) (sym (ap length (tests_end outcome s e))) (bounded_end (length s.times) s.parts _ ok.most (made_twice outcome s))
    by_goes (Some t) e (fewer u less) later =
        let lower = follower_lowers outcome s t ok e in
        let rest : Bounded (length t.times) t.parts (length (tests_from outcome t)) = later t (omega (arith, lower.less)) lower.ok in
        subst (Bounded (length s.times) s.parts) (sym (needed_more outcome s t ok e))
        (bounded_fewer (length s.times) s.parts (length t.times) _ _ ok.most (made_twice outcome s) less (squared-le (length t.times) t.parts _ lower.ok.least lower.ok.most rest))
    by_goes (Some t) e (finer lt) later =
        let lower = follower_lowers outcome s t ok e in
        let rest : Bounded (length t.times) t.parts (length (tests_from outcome t)) = later t (omega (arith, lower.less)) lower.ok in
        subst (Bounded (length s.times) s.parts) (sym (needed_more outcome s t ok e))
        (bounded_finer (length s.times) s.parts _ _ lt (made_twice outcome s) rest)

in_order-le : (outcome : List ℕ → Outcome) (times : List ℕ) → length (tests_in_order outcome times) ≤ 8 * (length times * length times)
in_order-le outcome [] = omega arith
in_order-le outcome (x ∷ xs) = by_test (is_fail (outcome []))
  where
    ok : IsState (start (x ∷ xs))
    ok = state_is (x ∷ xs) 2 (omega arith)

    few : length (tests_from outcome (start (x ∷ xs))) + 1 ≤ 8 * (length (x ∷ xs) * length (x ∷ xs))
    few = squared (length (x ∷ xs)) (start (x ∷ xs)).parts _ (omega arith) ok.least ok.most (bounded_within (measure (start (x ∷ xs))) outcome (start (x ∷ xs)) (omega arith) ok)

    by_test : (b : Bool) → length ([] ∷ cond b [] (tests_from outcome (start (x ∷ xs)))) ≤ 8 * (length (x ∷ xs) * length (x ∷ xs))
    by_test true = omega (arith, few)
    by_test false = omega (arith, few)

-- of m times at most 8 * m * m tests are needed
pub needed-le : (outcome : List ℕ → Outcome) (fail : List ℕ) → tests_needed outcome fail ≤ 8 * (length fail * length fail)
needed-le outcome fail = subst (λ n. tests_needed outcome fail ≤ 8 * (n * n)) (length_sorted fail) (in_order-le outcome (sorted fail))
