-- Laws of the times in order and of the search. They hold whatever runs show, and no code is in them.
use Rattle.std.specs.Prelude.{◌≡◌, ◌≤◌, ◌<◌, ◌*◌, ℕ, List, length, None, Some, All}
use Rattle.std.specs.List.Sorted.{IsNonDecreasing}
use Rattle.schedule_model.specs.declared.outcome.Outcome.{Outcome}
use Rattle.schedule_model.specs.declared.outcome.Outcome.TheVariants.{Fail}
use Rattle.schedule_model.specs.Outcomes.{ReadsCounts}
use Rattle.schedule_model.specs.Schedules.{occurrences}
use Rattle.switch_reducer.specs.Reduced.{IsReduced}
use Rattle.switch_reducer.specs.Rounds.{State, IsState, follower}
use Rattle.switch_reducer.specs.Search.{last_from, measure, reduced_schedule, tests_needed}
use Rattle.switch_reducer.specs.Sorted.{sorted}

-- the times in order rise
abbrev pub SortedRises : Type 0
SortedRises = (times : List ℕ) → IsNonDecreasing (sorted times)

-- and are the times
abbrev pub SortedIsSame : Type 0
SortedIsSame = (times : List ℕ) (time : ℕ) → occurrences (sorted times) time ≡ occurrences times time

-- each state that follows has a smaller measure
abbrev pub SearchFalls : Type 0
SearchFalls = (outcome : List ℕ → Outcome) (s t : State) → IsState s → follower outcome s ≡ Some t → measure t < measure s

-- so a search comes to a state that has no follower
abbrev pub SearchEnds : Type 0
SearchEnds = (outcome : List ℕ → Outcome) (s : State) → IsState s → follower outcome (last_from outcome s) ≡ None

-- and there no single time can be left out
abbrev pub EndsReduced : Type 0
EndsReduced = (outcome : List ℕ → Outcome) (events : ℕ) (fail : List ℕ) → ReadsCounts events outcome → outcome fail ≡ Fail → IsReduced outcome fail (reduced_schedule outcome fail)

-- of m times at most 8 * m * m tests are needed
abbrev pub NeedsFewTests : Type 0
NeedsFewTests = (outcome : List ℕ → Outcome) (fail : List ℕ) → tests_needed outcome fail ≤ 8 * (length fail * length fail)

-- a reduced schedule has no more times than the given one
abbrev pub ReducedIsNoLonger : Type 0
ReducedIsNoLonger = (outcome : List ℕ → Outcome) (given c : List ℕ) → IsReduced outcome given c → length c ≤ length given

-- and none above all of those
abbrev pub ReducedStaysWithin : Type 0
ReducedStaysWithin = (outcome : List ℕ → Outcome) (given c : List ℕ) (most : ℕ) → IsReduced outcome given c → All (λ time. time ≤ most) given → All (λ time. time ≤ most) c
