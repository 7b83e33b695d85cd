-- Laws of unit shifts, parts and the search. They hold whatever runs show, and no code is in them.
use Rattle.std.specs.Prelude.{◌≡◌, ◌≢◌, ◌≤◌, ◌<◌, ◌+◌, ◌*◌, ◌^◌, ℕ, List, length, slice_index, Some, None}
use Rattle.schedule_model.specs.declared.outcome.Outcome.{Outcome}
use Rattle.schedule_model.specs.declared.outcome.Outcome.TheVariants.{Pass, Fail}
use Rattle.dd_isolator.specs.Shifts.{cut, units, unit_shift, with_units, IsUnitShift}
use Rattle.dd_isolator.specs.OneMinimal.{IsOneMinimal}
use Rattle.dd_isolator.specs.Rounds.{State, IsState, follower}
use Rattle.dd_isolator.specs.Search.{last_from, last_pair, measure, tests_needed, unresolved_count}

-- at a place where two lists differ there is a unit shift
abbrev pub ShiftsExist : Type 0
ShiftsExist = (xs ys : List ℕ) (i : ℕ) → length ys ≡ length xs → slice_index xs i ≢ slice_index ys i → IsUnitShift i xs ys (unit_shift i xs ys)

-- and no other one
abbrev pub ShiftsAreSingle : Type 0
ShiftsAreSingle = (xs ys shifted : List ℕ) (i : ℕ) → length ys ≡ length xs → IsUnitShift i xs ys shifted → shifted ≡ unit_shift i xs ys

-- it is one of the units between them
abbrev pub ShiftsAreUnits : Type 0
ShiftsAreUnits = (xs ys : List ℕ) (i : ℕ) → length ys ≡ length xs → slice_index xs i ≢ slice_index ys i → (j : ℕ) × (j < units xs ys) × (with_units j (j + 1) xs ys ≡ unit_shift i xs ys)

-- where there are no more parts than units, each part has a unit
abbrev pub PartsHaveUnits : Type 0
PartsHaveUnits = (total parts i : ℕ) → 0 < parts → parts ≤ total → cut total parts i < cut total parts (i + 1)

-- each state that follows has a smaller measure
abbrev pub SearchFalls : Type 0
SearchFalls = (outcome : List ℕ → Outcome) (s t : State) → IsState s → follower outcome s ≡ Some t → measure t < measure s

-- so a search comes to a state that has no follower
abbrev pub SearchEnds : Type 0
SearchEnds = (outcome : List ℕ → Outcome) (s : State) → IsState s → follower outcome (last_from outcome s) ≡ None

-- and there no unit shift narrows the difference
abbrev pub EndsOneMinimal : Type 0
EndsOneMinimal = (outcome : List ℕ → Outcome) (passing failing : List ℕ) → length failing ≡ length passing → outcome passing ≡ Pass → outcome failing ≡ Fail → IsOneMinimal outcome passing failing (last_pair outcome passing failing).0 (last_pair outcome passing failing).1

-- for u units at most 8 * u * u tests are needed
abbrev pub NeedsFewTests : Type 0
NeedsFewTests = (outcome : List ℕ → Outcome) (passing failing : List ℕ) → length failing ≡ length passing → tests_needed outcome passing failing ≤ 8 * (units passing failing * units passing failing)

-- where no test is unresolved, no more tests are needed than the number of units has binary digits
abbrev pub ResolvedTestsHalve : Type 0
ResolvedTestsHalve = (outcome : List ℕ → Outcome) (passing failing : List ℕ) → length failing ≡ length passing → 0 < units passing failing → unresolved_count outcome passing failing ≡ 0 → 2 ^ tests_needed outcome passing failing ≤ 2 * units passing failing
