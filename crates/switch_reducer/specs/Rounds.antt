-- Delta debugging on the times of a failing schedule: a state, and its round of tests (Zeller and Hildebrandt 2002,
-- `ddmin`).
use Rattle.std.specs.Prelude.{◌≤◌, ◌+◌, ◌-◌, ◌*◌, ℕ, nat_lt, min, max, Bool, true, false, if◌then◌else◌, cond, List, [], ◌∷◌, length, map, Option, Some, None, find}
use Rattle.std.specs.List.{range_with_len, remove_range, slice_range}
use Rattle.schedule_model.specs.declared.outcome.Outcome.{Outcome}
use Rattle.schedule_model.specs.declared.outcome.Outcome.TheVariants.{Pass, Fail, Unresolved}
use Rattle.dd_isolator.specs.Shifts.{cut}

abbrev pub is_fail : Outcome → Bool
is_fail Pass = false
is_fail Fail = true
is_fail Unresolved = false

-- a failing schedule, and into how many parts it is cut
pub record State : Type 0 where
  pub times : List ℕ
  pub parts : ℕ

-- there are no more parts than times
abbrev pub state : List ℕ → ℕ → State
state times parts = record { times = times; parts = min parts (length times) }

-- as many parts as times, or at least two
pub record IsState (s : State) : Type 0 where
  pub least : min 2 (length s.times) ≤ s.parts
  pub most : s.parts ≤ length s.times

abbrev pub start : List ℕ → State
start times = state times 2

-- part i alone, from where it begins up to, without, where the next one begins
abbrev pub part : State → ℕ → List ℕ
part s i = slice_range s.times (cut (length s.times) s.parts i) (cut (length s.times) s.parts (i + 1))

-- all but part i
abbrev pub complement : State → ℕ → List ℕ
complement s i = remove_range s.times (cut (length s.times) s.parts i) (cut (length s.times) s.parts (i + 1))

-- The tests of a round, by number: each part, then each complement. Each is given as the state that follows if it fails: a
-- part is cut in two, and a complement into the parts that are left.
unfoldable pub test : State → ℕ → State
test s i = if nat_lt i s.parts then state (part s i) 2 else state (complement s (i - s.parts)) (max (s.parts - 1) 2)

-- a single time isn't cut, and of two parts each is the complement of the other
unfoldable pub round_size : State → ℕ
round_size s = if nat_lt 1 (length s.times) then (if nat_lt 2 s.parts then 2 * s.parts else s.parts) else 0

-- so many tests of a round, from one on
abbrev pub tests_within : State → ℕ → ℕ → List State
tests_within s from count = map (test s) (range_with_len from count)

unfoldable pub round_of : State → List State
round_of s = tests_within s 0 (round_size s)

-- finer parts, where there are some
abbrev pub refined : State → Option State
refined s = if nat_lt s.parts (length s.times) then Some (state s.times (2 * s.parts)) else None

abbrev pub decided : State → Option State → Option State
decided s None = refined s
decided s (Some t) = Some t

-- the first failing test of the round decides; without one the parts get finer, until each is a single time
unfoldable pub follower : (List ℕ → Outcome) → State → Option State
follower outcome s = decided s (find (λ t. is_fail (outcome t.times)) (round_of s))

-- the schedules that are tested in a round: those up to and with the first failing one
abbrev pub made : (List ℕ → Outcome) → List State → List (List ℕ)
made outcome [] = []
made outcome (t ∷ ts) = t.times ∷ cond (is_fail (outcome t.times)) [] (made outcome ts)

-- the schedules of so many tests of a round, from one on
abbrev pub schedules_within : State → ℕ → ℕ → List (List ℕ)
schedules_within s from count = map (λ i. (test s i).times) (range_with_len from count)
