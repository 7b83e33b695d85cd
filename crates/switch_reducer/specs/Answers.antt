-- What the calls of a round and of the search answer.
use Rattle.std.specs.Prelude.{◌≡◌, ◌≤◌, ◌<◌, ◌+◌, ℕ, false, List, Option, Some, None, find}
use Rattle.schedule_model.specs.declared.outcome.Outcome.{Outcome}
use Rattle.switch_reducer.specs.declared.round.Answered.{Answered}
use Rattle.switch_reducer.specs.declared.fault.ReduceFault.{ReduceFault}
use Rattle.switch_reducer.specs.declared.fault.ReduceFault.TheVariants.{TestsSpent, NoMemory}
use Rattle.switch_reducer.specs.Rounds.{State, is_fail, test, round_size, round_of}

-- test i of the round doesn't fail
abbrev pub IsOpen : (List ℕ → Outcome) → State → ℕ → Type 0
IsOpen outcome s i = is_fail (outcome (test s i).times) ≡ false

-- some of so many tests of a round from one on: none but the last fails, and that where it is said so
pub record IsAnswered (outcome : List ℕ → Outcome) (s : State) (from count : ℕ) (a : Answered) : Type 0 where
  pub some : 0 < a.count
  pub most : a.count ≤ count
  pub before : (i : ℕ) → from ≤ i → i + 1 < from + a.count → IsOpen outcome s i
  pub last : (i : ℕ) → i + 1 ≡ from + a.count → is_fail (outcome (test s i).times) ≡ a.fails

-- the first failing test of the whole round, by its number
abbrev pub Decides : (List ℕ → Outcome) → State → Option ℕ → Type 0
Decides outcome s None = find (λ t. is_fail (outcome t.times)) (round_of s) ≡ None
Decides outcome s (Some i) = (i < round_size s) × (find (λ t. is_fail (outcome t.times)) (round_of s) ≡ Some (test s i))

-- the budget is spent exactly where more tests are needed
abbrev pub IsSpent : ℕ → ℕ → ReduceFault → Type 0
IsSpent budget needed (TestsSpent asked) = (asked ≡ budget) × (budget < needed)
IsSpent budget needed NoMemory = Unit {0}

-- and then so many tests were made
abbrev pub HasSpent : ℕ → ℕ → ReduceFault → Type 0
HasSpent budget made (TestsSpent asked) = made ≡ budget
HasSpent budget made NoMemory = Unit {0}
