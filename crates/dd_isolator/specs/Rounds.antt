-- Delta debugging on the units between two schedules: a state, and its round of tests (Zeller and Hildebrandt 2002, `dd`).
use Rattle.std.specs.Prelude.{◌≡◌, ◌≤◌, length, ℕ, ◌+◌, ◌-◌, ◌*◌, nat_lt, min, max, if◌then◌else◌, cond, List, [], ◌∷◌, map, Option, Some, None, find}
use Rattle.std.specs.List.{range_with_len}
use Rattle.schedule_model.specs.declared.outcome.Outcome.{Outcome}
use Rattle.schedule_model.specs.declared.outcome.Outcome.TheVariants.{Pass, Fail, Unresolved}
use Rattle.schedule_model.specs.Outcomes.{is_resolved}
use Rattle.dd_isolator.specs.Shifts.{cut, units, with_units}

-- a passing schedule, a failing one, and into how many parts the units between them are cut
pub record State : Type 0 where
  pub passing : List ℕ
  pub failing : List ℕ
  pub parts : ℕ

abbrev pub units_of : State → ℕ
units_of s = units s.passing s.failing

-- there are no more parts than units
abbrev pub state : List ℕ → List ℕ → ℕ → State
state c d parts = record { passing = c; failing = d; parts = min parts (units c d) }

-- as many parts as units, or at least two
pub record IsState (s : State) : Type 0 where
  pub same : length s.failing ≡ length s.passing
  pub least : min 2 (units_of s) ≤ s.parts
  pub most : s.parts ≤ units_of s

abbrev pub start : List ℕ → List ℕ → State
start passing failing = state passing failing 2

pub data Side : Type 0 where
  Added : Side
  Taken : Side

-- a part added to the passing schedule, or taken from the failing one
pub record Test : Type 0 where
  pub side : Side
  pub times : List ℕ

abbrev pub added : State → ℕ → Test
added s i = record { side = Added; times = with_units (cut (units_of s) s.parts i) (cut (units_of s) s.parts (i + 1)) s.passing s.failing }

abbrev pub taken : State → ℕ → Test
taken s i = record { side = Taken; times = with_units (cut (units_of s) s.parts i) (cut (units_of s) s.parts (i + 1)) s.failing s.passing }

-- the tests of a round, by number: each part added, then each part taken
unfoldable pub test : State → ℕ → Test
test s i = if nat_lt i s.parts then added s i else taken s (i - s.parts)

-- one unit can't be cut
unfoldable pub round_size : State → ℕ
round_size s = if nat_lt 1 (units_of s) then 2 * s.parts else 0

unfoldable pub round_of : State → List Test
round_of s = map (test s) (range_with_len 0 (round_size s))

-- what a resolved test makes of a state: a schedule that fails is the new failing one, and one that passes the new passing one
abbrev pub after : State → Side → List ℕ → Outcome → State
after s Added times Fail = state s.passing times 2
after s Taken times Pass = state times s.failing 2
after s Added times Pass = state times s.failing (max (s.parts - 1) 2)
after s Taken times Fail = state s.passing times (max (s.parts - 1) 2)
after s Added times Unresolved = s
after s Taken times Unresolved = s

-- finer parts, where there are some
abbrev pub refined : State → Option State
refined s = if nat_lt s.parts (units_of s) then Some (state s.passing s.failing (2 * s.parts)) else None

abbrev pub decided : (List ℕ → Outcome) → State → Option Test → Option State
decided outcome s None = refined s
decided outcome s (Some t) = Some (after s t.side t.times (outcome t.times))

-- the first resolved test of the round decides; without one the parts get finer, until each is a unit
unfoldable pub follower : (List ℕ → Outcome) → State → Option State
follower outcome s = decided outcome s (find (λ t. is_resolved (outcome t.times)) (round_of s))

-- the tests that are made of a round: those up to and with the first resolved one
abbrev pub made : (List ℕ → Outcome) → List Test → List (List ℕ)
made outcome [] = []
made outcome (t ∷ ts) = t.times ∷ cond (is_resolved (outcome t.times)) [] (made outcome ts)
