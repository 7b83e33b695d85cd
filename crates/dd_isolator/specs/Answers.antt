-- What the calls of a round and of the search answer.
use Rattle.std.specs.Prelude.{◌≡◌, ◌≤◌, ◌<◌, ◌+◌, ℕ, true, false, List, Option, Some, None, find}
use Rattle.schedule_model.specs.declared.outcome.Outcome.{Outcome}
use Rattle.schedule_model.specs.Outcomes.{is_resolved}
use Rattle.dd_isolator.specs.declared.round.Decision.{Decision}
use Rattle.dd_isolator.specs.declared.fault.IsolateFault.{IsolateFault}
use Rattle.dd_isolator.specs.declared.fault.IsolateFault.TheVariants.{TestsSpent, NoMemory}
use Rattle.dd_isolator.specs.Rounds.{State, test, round_size, round_of}

-- test i of the round isn't resolved
abbrev pub IsOpen : (List ℕ → Outcome) → State → ℕ → Type 0
IsOpen outcome s i = is_resolved (outcome (test s i).times) ≡ false

-- of so many tests of a round from one on, the first resolved one, with its place in the round
abbrev pub IsFirstOf : (List ℕ → Outcome) → State → ℕ → ℕ → Option Decision → Type 0
IsFirstOf outcome s from count None = (i : ℕ) → from ≤ i → i < from + count → IsOpen outcome s i
IsFirstOf outcome s from count (Some d) = (from ≤ d.place) × (d.place < from + count) × (outcome (test s d.place).times ≡ d.outcome) × (is_resolved d.outcome ≡ true) × ((i : ℕ) → from ≤ i → i < d.place → IsOpen outcome s i)

-- how much the counts of tests and of unresolved tests rose by it
abbrev pub Counts : ℕ → ℕ → Option Decision → ℕ → ℕ → ℕ → ℕ → Type 0
Counts from count None asked asked' unresolved unresolved' = (asked' ≡ asked + count) × (unresolved' ≡ unresolved + count)
Counts from count (Some d) asked asked' unresolved unresolved' = (from + asked' ≡ asked + (d.place + 1)) × (from + unresolved' ≡ unresolved + d.place)

-- the first resolved test of the whole round
abbrev pub Decides : (List ℕ → Outcome) → State → Option Decision → Type 0
Decides outcome s None = find (λ t. is_resolved (outcome t.times)) (round_of s) ≡ None
Decides outcome s (Some d) = (d.place < round_size s) × (outcome (test s d.place).times ≡ d.outcome) × (is_resolved d.outcome ≡ true) × (find (λ t. is_resolved (outcome t.times)) (round_of s) ≡ Some (test s d.place))

-- the budget is spent exactly where more tests are needed
abbrev pub IsSpent : ℕ → ℕ → IsolateFault → Type 0
IsSpent budget needed (TestsSpent asked) = (asked ≡ budget) × (budget < needed)
IsSpent budget needed NoMemory = Unit {0}

-- and then so many tests were made
abbrev pub HasSpent : ℕ → ℕ → IsolateFault → Type 0
HasSpent budget made (TestsSpent asked) = made ≡ budget
HasSpent budget made NoMemory = Unit {0}
