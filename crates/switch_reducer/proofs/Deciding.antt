-- What the first failing test of a round decides.
use Rattle.std.proofs.Common.{◌≡◌, ℕ, zero, suc, ◌+◌, ◌-◌, ◌<◌, ◌≤◌, Bool, true, false, cond, not, List, [], ◌∷◌, ◌++◌, length, refl, sym, ◌∙◌, ap, arith, inl, inr}
use Rattle.std.specs.Prelude.{◌⊎◌, Option, Some, None, find}
use Rattle.std.proofs.lemmas.Bool.{cases_lt}
use Rattle.std.proofs.lemmas.List.Sums.{sum_by-append}
use Rattle.schedule_model.specs.declared.outcome.Outcome.{Outcome}
use Rattle.schedule_model.specs.Outcomes.{is_resolved, unresolved_among}
use Rattle.switch_reducer.specs.declared.round.Answered.{Answered}
use Rattle.switch_reducer.specs.Rounds.{State, decided, follower, is_fail, made, refined, round_of, round_size, schedules_within, test, tests_within}
use Rattle.switch_reducer.specs.Answers.{Decides, IsAnswered, IsOpen}

-- the first failing one of so many tests from one on: what is found, and which are made
record FirstFails (outcome : List ℕ → Outcome) (s : State) (from count k i : ℕ) : Type 0 where
  found : find (λ t. is_fail (outcome t.times)) (tests_within s from count) ≡ Some (test s i)
  made : made outcome (tests_within s from count) ≡ schedules_within s from (suc k)

first_fails : (outcome : List ℕ → Outcome) (s : State) (from count k i : ℕ) → k < count → from + k ≡ i → ((j : ℕ) → from ≤ j → j < i → IsOpen outcome s j) → is_fail (outcome (test s i).times) ≡ true → FirstFails outcome s from count k i
first_fails outcome s from zero k i h e before here = absurd (omega arith)
first_fails outcome s from (suc count) zero i h e before here = at_head (is_fail (outcome (test s from).times)) refl
  where
    same : from ≡ i
    same = omega arith

    at_head : (b : Bool) → is_fail (outcome (test s from).times) ≡ b → FirstFails outcome s from (suc count) zero i
    at_head true f = record {
      found = ap (λ b. cond b (Some (test s from)) (find (λ t. is_fail (outcome t.times)) (tests_within s (from + 1) count))) f ∙ ap (λ n. Some (test s n)) same;
      made = ap (λ b. (test s from).times ∷ cond b [] (made outcome (tests_within s (from + 1) count))) f;
    }
    at_head false f = let g : is_fail (outcome (test s from).times) ≡ true = ap (λ n. is_fail (outcome (test s n).times)) same ∙ here in absurd (cc)
first_fails outcome s from (suc count) (suc k) i h e before here =
    at_tail (is_fail (outcome (test s from).times)) refl (before from (omega arith) (omega arith)) (first_fails outcome s (from + 1) count k i (omega arith) (omega arith) (λ j low high. before j (omega arith) high) here)
  where
    at_tail : (b : Bool) → is_fail (outcome (test s from).times) ≡ b → b ≡ false → FirstFails outcome s (from + 1) count k i → FirstFails outcome s from (suc count) (suc k) i
    at_tail true f n rest = absurd (cc)
    at_tail false f n rest = record {
      found = ap (λ b. cond b (Some (test s from)) (find (λ t. is_fail (outcome t.times)) (tests_within s (from + 1) count))) f ∙ rest.found;
      made = ap (λ b. (test s from).times ∷ cond b [] (made outcome (tests_within s (from + 1) count))) f ∙ ap (λ l. (test s from).times ∷ l) rest.made;
    }

record NoneFails (outcome : List ℕ → Outcome) (s : State) (from count : ℕ) : Type 0 where
  found : find (λ t. is_fail (outcome t.times)) (tests_within s from count) ≡ None
  made : made outcome (tests_within s from count) ≡ schedules_within s from count

none_fails : (outcome : List ℕ → Outcome) (s : State) (from count : ℕ) → ((j : ℕ) → from ≤ j → j < from + count → IsOpen outcome s j) → NoneFails outcome s from count
none_fails outcome s from zero before = record { found = refl; made = refl }
none_fails outcome s from (suc count) before = at_tail (is_fail (outcome (test s from).times)) refl (before from (omega arith) (omega arith)) (none_fails outcome s (from + 1) count (λ j low high. before j (omega arith) (omega arith)))
  where
    at_tail : (b : Bool) → is_fail (outcome (test s from).times) ≡ b → b ≡ false → NoneFails outcome s (from + 1) count → NoneFails outcome s from (suc count)
    at_tail true f n rest = absurd (cc)
    at_tail false f n rest = record {
      found = ap (λ b. cond b (Some (test s from)) (find (λ t. is_fail (outcome t.times)) (tests_within s (from + 1) count))) f ∙ rest.found;
      made = ap (λ b. (test s from).times ∷ cond b [] (made outcome (tests_within s (from + 1) count))) f ∙ ap (λ l. (test s from).times ∷ l) rest.made;
    }

-- where the first ones don't fail and there are more, one more is made
made_more : (outcome : List ℕ → Outcome) (s : State) (from count k : ℕ) → k < count → ((j : ℕ) → from ≤ j → j < from + k → IsOpen outcome s j) → k < length (made outcome (tests_within s from count))
made_more outcome s from zero k h before = absurd (omega arith)
made_more outcome s from (suc count) zero h before = omega arith
made_more outcome s from (suc count) (suc k) h before =
    let e : length (made outcome (tests_within s from (suc count))) ≡ suc (length (made outcome (tests_within s (from + 1) count))) = ap (λ b. length ((test s from).times ∷ cond b [] (made outcome (tests_within s (from + 1) count)))) (before from (omega arith) (omega arith)) in
    omega (arith, made_more outcome s (from + 1) count k (omega arith) (λ j low high. before j (omega arith) (omega arith)))

length_schedules : (s : State) (from n : ℕ) → length (schedules_within s from n) ≡ n
length_schedules s from zero = refl
length_schedules s from (suc n) = ap suc (length_schedules s (from + 1) n)

-- ---- of the whole round

pub record Deciding (outcome : List ℕ → Outcome) (s : State) (found : Option ℕ) (done : ℕ) : Type 0 where
  pub decides : Decides outcome s found
  pub asked : length (made outcome (round_of s)) ≡ done
  pub unresolved : unresolved_among outcome (made outcome (round_of s)) ≡ unresolved_among outcome (schedules_within s 0 done)

pub deciding : (outcome : List ℕ → Outcome) (s : State) (i done : ℕ) → i + 1 ≡ done → done ≤ round_size s → ((j : ℕ) → j < i → IsOpen outcome s j) → is_fail (outcome (test s i).times) ≡ true → Deciding outcome s (Some i) done
unfolding round_of
deciding outcome s i done e within before here =
    let first = first_fails outcome s 0 (round_size s) i i (omega arith) (omega arith) (λ j low high. before j high) here in
    let same : suc i ≡ done = omega arith in
    let are : made outcome (round_of s) ≡ schedules_within s 0 done = first.made ∙ ap (schedules_within s 0) same in
    record {
      decides = (omega arith, first.found);
      asked = ap length are ∙ length_schedules s 0 done;
      unresolved = ap (unresolved_among outcome) are;
    }

pub none_deciding : (outcome : List ℕ → Outcome) (s : State) (done : ℕ) → done ≡ round_size s → ((j : ℕ) → j < done → IsOpen outcome s j) → Deciding outcome s None done
unfolding round_of
none_deciding outcome s done e before =
    let none = none_fails outcome s 0 (round_size s) (λ j low high. before j (omega arith)) in
    let are : made outcome (round_of s) ≡ schedules_within s 0 done = none.made ∙ ap (schedules_within s 0) (sym e) in
    record {
      decides = none.found;
      asked = ap length are ∙ length_schedules s 0 done;
      unresolved = ap (unresolved_among outcome) are;
    }

-- a round that isn't done makes one test more
pub one_more : (outcome : List ℕ → Outcome) (s : State) (done : ℕ) → done < round_size s → ((j : ℕ) → j < done → IsOpen outcome s j) → done < length (made outcome (round_of s))
unfolding round_of
one_more outcome s done h before = made_more outcome s 0 (round_size s) done h (λ j low high. before j (omega arith))

-- ---- batch after batch

schedules_append : (s : State) (from n k b m : ℕ) → from + n ≡ b → n + k ≡ m → schedules_within s from m ≡ schedules_within s from n ++ schedules_within s b k
schedules_append s from zero k b m e h =
    let c : from ≡ b = omega arith in
    let d : m ≡ k = omega arith in
    ap (schedules_within s from) d ∙ ap (λ x. schedules_within s x k) c
schedules_append s from (suc n) k b zero e h = absurd (omega arith)
schedules_append s from (suc n) k b (suc m) e h = ap (λ l. (test s from).times ∷ l) (schedules_append s (from + 1) n k b m (omega arith) (omega arith))

pub unresolved_append : (outcome : List ℕ → Outcome) (s : State) (done count total : ℕ) → done + count ≡ total → unresolved_among outcome (schedules_within s 0 total) ≡ unresolved_among outcome (schedules_within s 0 done) + unresolved_among outcome (schedules_within s done count)
unresolved_append outcome s done count total e =
    ap (unresolved_among outcome) (schedules_append s 0 done count done total (omega arith) e)
    ∙ sum_by-append (λ l. cond (not (is_resolved (outcome l))) 1 0) (schedules_within s 0 done) (schedules_within s done count)

-- what the answers so far and those of a batch say together
module _ (outcome other : List ℕ → Outcome) (s : State) (done count total : ℕ) (a : Answered) (same : other ≡ outcome) (e : done + a.count ≡ total) (tried : (j : ℕ) → j < done → IsOpen outcome s j) (answered : IsAnswered other s done count a) where
  pub before_last : (j : ℕ) → j + 1 < total → IsOpen outcome s j
  before_last j h = either (cases_lt j done)
    where
      either : (j < done) ⊎ (done ≤ j) → IsOpen outcome s j
      either (inl low) = tried j low
      either (inr high) = ap (λ (f : List ℕ → Outcome). is_fail (f (test s j).times)) (sym same) ∙ answered.before j high (omega arith)

  pub at_last : (j : ℕ) → j + 1 ≡ total → is_fail (outcome (test s j).times) ≡ a.fails
  at_last j h = ap (λ (f : List ℕ → Outcome). is_fail (f (test s j).times)) (sym same) ∙ answered.last j (omega arith)

  pub still_open : a.fails ≡ false → (j : ℕ) → j < total → IsOpen outcome s j
  still_open f j h = either (cases_lt (j + 1) total)
    where
      either : (j + 1 < total) ⊎ (total ≤ j + 1) → IsOpen outcome s j
      either (inl low) = before_last j low
      either (inr high) = at_last j (omega arith) ∙ f

  -- the last one decides, where it fails
  pub batch_fails : done + count ≤ round_size s → a.fails ≡ true → Deciding outcome s (Some (total - 1)) total
  batch_fails within f =
      deciding outcome s (total - 1) total (omega (arith, answered.some)) (omega (arith, answered.most)) (λ j h. before_last j (omega (arith, answered.some))) (at_last (total - 1) (omega (arith, answered.some)) ∙ f)

  pub more_unresolved : (u u' first : ℕ) → u ≡ first + unresolved_among outcome (schedules_within s 0 done) → u' ≡ u + unresolved_among other (schedules_within s done a.count) → u' ≡ first + unresolved_among outcome (schedules_within s 0 total)
  more_unresolved u u' first h k = omega (arith, ap (λ (f : List ℕ → Outcome). unresolved_among f (schedules_within s done a.count)) same, unresolved_append outcome s done a.count total e)

pub follower_some : (outcome : List ℕ → Outcome) (s r : State) (i : ℕ) → Decides outcome s (Some i) → r ≡ test s i → Some r ≡ follower outcome s
unfolding follower
follower_some outcome s r i h e = ap (λ (t : State). Some t) e ∙ sym (ap (decided s) h.1)

pub follower_none : (outcome : List ℕ → Outcome) (s : State) (r : Option State) → Decides outcome s None → r ≡ refined s → r ≡ follower outcome s
unfolding follower
follower_none outcome s r h e = e ∙ sym (ap (decided s) h)
