-- What each test of a round is: a schedule with fewer of the times.
use Rattle.std.proofs.Common.{◌≡◌, ℕ, ◌+◌, ◌-◌, ◌*◌, ◌<◌, ◌≤◌, min, max, Bool, true, false, cond, List, length, take, drop, refl, sym, ◌∙◌, ap, subst, arith}
use Rattle.std.specs.Prelude.{nat_lt, ◌==◌}
use Rattle.std.specs.List.{AllByRecursion, remove_range, slice_range, sum_by}
use Rattle.std.proofs.lemmas.Bool.{ltb-true, ltb-false}
use Rattle.std.proofs.lemmas.List.{length-append, length-drop, length-take}
use Rattle.std.proofs.lemmas.List.Folds.{drop_split}
use Rattle.std.proofs.lemmas.List.Sums.{sum_by-append, sum_by-take-drop, sum_by-take-le}
use Rattle.std.proofs.lemmas.List.Elements.{recursion_from_All, All-from_get_or}
use Rattle.std.proofs.lemmas.List.FromFn.{length-map-range_with_len, get_or-map-range_with_len}
use Rattle.std.proofs.Common.{get_or}
use Rattle.schedule_model.specs.Schedules.{occurrences}
use Rattle.switch_reducer.specs.Rounds.{State, IsState, part, complement, state, test, round_size, round_of}
use Rattle.dd_isolator.specs.Shifts.{cut}
use Rattle.dd_isolator.proofs.Parts.{cut_rises, cut_within, part_small}

pub length_slice : (xs : List ℕ) (a b : ℕ) → b ≤ length xs → length (slice_range xs a b) ≡ b - a
length_slice xs a b h = length-take (b - a) (drop a xs) ∙ ap (min (b - a)) (length-drop a xs) ∙ omega arith

pub length_without : (xs : List ℕ) (a b : ℕ) → a ≤ b → b ≤ length xs → length (remove_range xs a b) + (b - a) ≡ length xs
length_without xs a b k h = omega (arith, length-append (take a xs) (drop b xs), length-take a xs, length-drop b xs)

-- no sum over a part is more than that over all
sum_slice : (f : ℕ → ℕ) (xs : List ℕ) (a b : ℕ) → sum_by f (slice_range xs a b) ≤ sum_by f xs
sum_slice f xs a b = omega (arith, sum_by-take-le f (drop a xs) (b - a), sum_by-take-drop f xs a)

sum_without : (f : ℕ → ℕ) (xs : List ℕ) (a b : ℕ) → a ≤ b → sum_by f (remove_range xs a b) ≤ sum_by f xs
sum_without f xs a b h =
    let split : sum_by f (drop a xs) ≡ sum_by f (slice_range xs a b) + sum_by f (drop b xs) = ap (sum_by f) (drop_split xs a b h) ∙ sum_by-append f (slice_range xs a b) (drop b xs) in
    omega (arith, sum_by-append f (take a xs) (drop b xs), sum_by-take-drop f xs a, split)

-- a state with fewer of the times
pub record IsSmaller (s t : State) : Type 0 where
  pub is : IsState t
  pub fewer : length t.times < length s.times
  pub no_more : (time : ℕ) → occurrences t.times time ≤ occurrences s.times time

pub state_is : (times : List ℕ) (n : ℕ) → 2 ≤ n → IsState (state times n)
state_is times n two = record { least = omega arith; most = omega arith }

module _ (s : State) (ok : IsState s) (two : 1 < length s.times) (i : ℕ) (below : i < s.parts) where
  pub rises : cut (length s.times) s.parts i < cut (length s.times) s.parts (i + 1)
  rises = cut_rises (length s.times) s.parts i (omega arith) ok.most

  pub within : cut (length s.times) s.parts (i + 1) ≤ length s.times
  within = cut_within (length s.times) s.parts (i + 1) (omega arith) (omega arith)

  pub small : cut (length s.times) s.parts (i + 1) < length s.times + cut (length s.times) s.parts i
  small = part_small (length s.times) s.parts i (omega (arith, ok.least)) ok.most within

  pub part_smaller : (n : ℕ) → 2 ≤ n → IsSmaller s (state (part s i) n)
  part_smaller n h = record {
    is = state_is (part s i) n h;
    fewer = omega (arith, length_slice s.times (cut (length s.times) s.parts i) (cut (length s.times) s.parts (i + 1)) within, small, rises);
    no_more = λ time. sum_slice (λ t. cond (t == time) 1 0) s.times (cut (length s.times) s.parts i) (cut (length s.times) s.parts (i + 1));
  }

  pub complement_smaller : (n : ℕ) → 2 ≤ n → IsSmaller s (state (complement s i) n)
  complement_smaller n h = record {
    is = state_is (complement s i) n h;
    fewer = omega (arith, length_without s.times (cut (length s.times) s.parts i) (cut (length s.times) s.parts (i + 1)) (omega (arith, rises)) within, rises);
    no_more = λ time. sum_without (λ t. cond (t == time) 1 0) s.times (cut (length s.times) s.parts i) (cut (length s.times) s.parts (i + 1)) (omega (arith, rises));
  }

-- what a number of a test says
pub record IsInRound (s : State) (i : ℕ) : Type 0 where
  pub two : 1 < length s.times
  pub below : i < 2 * s.parts
  pub three : s.parts ≤ i → 2 < s.parts

pub in_round : (s : State) (i : ℕ) → i < round_size s → IsInRound s i
unfolding round_size
in_round s i h = by_test (nat_lt 1 (length s.times)) refl (nat_lt 2 s.parts) refl h
  where
    by_test : (b : Bool) → nat_lt 1 (length s.times) ≡ b → (c : Bool) → nat_lt 2 s.parts ≡ c → i < cond b (cond c (2 * s.parts) s.parts) 0 → IsInRound s i
    by_test true e true f h = record { two = ltb-true 1 (length s.times) e; below = h; three = λ k. ltb-true 2 s.parts f }
    by_test true e false f h = record { two = ltb-true 1 (length s.times) e; below = omega arith; three = λ k. absurd (omega arith) }
    by_test false e true f h = absurd (omega arith)
    by_test false e false f h = absurd (omega arith)

pub below_twice : (s : State) (i : ℕ) → i < round_size s → i < 2 * s.parts
below_twice s i h = (in_round s i h).below

pub round_size-le : (s : State) → round_size s ≤ 2 * s.parts
unfolding round_size
round_size-le s = by_test (nat_lt 1 (length s.times)) (nat_lt 2 s.parts)
  where
    by_test : (b c : Bool) → cond b (cond c (2 * s.parts) s.parts) 0 ≤ 2 * s.parts
    by_test true true = omega arith
    by_test true false = omega arith
    by_test false true = omega arith
    by_test false false = omega arith

pub test_smaller : (s : State) (i : ℕ) → IsState s → i < round_size s → IsSmaller s (test s i)
unfolding test
test_smaller s i ok h = by_test (in_round s i h) (nat_lt i s.parts) refl
  where
    by_test : IsInRound s i → (b : Bool) → nat_lt i s.parts ≡ b → IsSmaller s (cond b (state (part s i) 2) (state (complement s (i - s.parts)) (max (s.parts - 1) 2)))
    by_test r true e = part_smaller s ok r.two i (ltb-true i s.parts e) 2 (omega arith)
    by_test r false e = complement_smaller s ok r.two (i - s.parts) (omega (arith, ltb-false i s.parts e, r.below)) (max (s.parts - 1) 2) (omega arith)

pub length-round : (s : State) → length (round_of s) ≡ round_size s
unfolding round_of
length-round s = length-map-range_with_len (test s) 0 (round_size s)

pub get_or-round : (s : State) (i : ℕ) (d : State) → i < round_size s → get_or (round_of s) i d ≡ test s i
unfolding round_of
get_or-round s i d h = get_or-map-range_with_len (test s) 0 (round_size s) i i d h (omega arith)

-- all tests of a round
pub round_smaller : (s : State) → IsState s → AllByRecursion (IsSmaller s) (round_of s)
round_smaller s ok =
    recursion_from_All (IsSmaller s) (round_of s) (All-from_get_or (IsSmaller s) (round_of s) (test s 0)
    (λ i h. let below : i < round_size s = omega (arith, length-round s) in subst (IsSmaller s) (sym (get_or-round s i (test s 0) below)) (test_smaller s i ok below)))
