-- Intervals of clocks (Choi and Srinivasan 1998: logical schedule intervals).
use Rattle.std.specs.Prelude.{◌≡◌, ◌≢◌, ℕ, zero, suc, ◌+◌, ◌-◌, ◌<◌, ◌≤◌, Bool, nat_le, ◌&&◌, List, [], ◌∷◌, All, AllPairs, Contains, count_by, sum_by}
use Rattle.std.specs.List.{flat_map}
use Rattle.schedule_log.specs.declared.interval.Interval.{Interval}

-- count numbers, from start on
abbrev pub numbers : ℕ → ℕ → List ℕ
numbers start zero = []
numbers start (suc count) = start ∷ numbers (start + 1) count

-- the clocks of an interval, and those of one interval after the other
abbrev pub clocks_in : Interval → List ℕ
clocks_in i = numbers i.first (i.last + 1 - i.first)

abbrev pub clocks : List Interval → List ℕ
clocks intervals = flat_map clocks_in intervals

-- how many they are
abbrev pub clock_count : List Interval → ℕ
clock_count intervals = sum_by (λ i. i.last + 1 - i.first) intervals

-- whether a clock lies in an interval
abbrev pub holds : ℕ → Interval → Bool
holds clock i = nat_le i.first clock && nat_le clock i.last

-- whether an interval has a clock from first to last
abbrev pub shares : ℕ → ℕ → Interval → Bool
shares first last i = nat_le i.first last && nat_le first i.last

-- in order of first
abbrev pub IsInOrder : List Interval → Type 0
IsInOrder intervals = AllPairs (λ i j. i.first < j.first) intervals

-- The intervals cut the numbers below n into stretches of one thread each.
pub record Tiles (n : ℕ) (intervals : List Interval) : Type 0 where
  pub ordered : All (λ i. i.first ≤ i.last) intervals
  -- every number below n lies in exactly one of them, and none reaches n
  pub once : (k : ℕ) → k < n → count_by (holds k) intervals ≡ 1
  pub within : All (λ i. i.last < n) intervals
  -- two neighbours are of two threads
  pub neighbours : (i j : Interval) → Contains intervals i → Contains intervals j → j.first ≡ i.last + 1 → i.thread ≢ j.thread

-- Intervals of one thread in rising order, the first from a clock on. They are maximal: between two of them lies a
-- clock that is in none.
abbrev pub MaximalFrom : ℕ → ℕ → List Interval → Type 0
MaximalFrom thread from [] = Unit {0}
MaximalFrom thread from (i ∷ rest) = (i.thread ≡ thread) × (from ≤ i.first) × (i.first ≤ i.last) × MaximalFrom thread (i.last + 2) rest
