-- Schedule files: a line for each time.
use Rattle.std.specs.Prelude.{◌≡◌, ◌≢◌, ◌<◌, ◌≤◌, ◌==◌, ℕ, Bool, true, false, List, [], ◌∷◌, ◌++◌, length, decimal, All}
use Rattle.std.specs.List.{flat_map, list_any}
use Rattle.vm_model.specs.declared.limits.TheConstants.{MOST_SWITCHES}
use Rattle.switch_schedule.specs.declared.fault.ScheduleKind.{ScheduleKind}
use Rattle.switch_schedule.specs.declared.fault.ScheduleKind.TheVariants as kind
use Rattle.switch_schedule.specs.declared.fault.ScheduleFault.{ScheduleFault}
use Rattle.switch_schedule.specs.declared.fault.ScheduleFault.TheVariants as fault

abbrev pub kind_number : ScheduleKind → ℕ
kind_number kind.BadNumber = 1
kind_number kind.TooManySwitches = 2
kind_number kind.PastBudget = 3
kind_number kind.Trailing = 4

-- a time in decimal digits, and a line feed
abbrev pub time_line : ℕ → List ℕ
time_line time = decimal time ++ 10 ∷ []

abbrev pub schedule_text : List ℕ → List ℕ
schedule_text times = flat_map time_line times

-- at most 16,384 times, of 1 to 7 digits each, and none above the number of events
pub record AreTimes (events : ℕ) (times : List ℕ) : Type 0 where
  pub few : length times ≤ MOST_SWITCHES
  pub short : All (λ time. time ≤ 9999999) times
  pub within : All (λ time. time ≤ events) times

-- the bytes are a line for each of these times, in their order
pub record SpellsSchedule (events : ℕ) (times bytes : List ℕ) : Type 0 where
  pub times_allowed : AreTimes events times
  pub text : bytes ≡ schedule_text times

-- ---- what is wrong

abbrev pub has_line_feed : List ℕ → Bool
has_line_feed bytes = list_any (λ b. b == 10) bytes

-- what stands before the first line feed, and what comes after it
pub record BeginsWithLine (line after bytes : List ℕ) : Type 0 where
  pub parted : bytes ≡ line ++ 10 ∷ after
  pub unbroken : has_line_feed line ≡ false

-- the line is this number, of 1 to 7 digits and without a leading zero
abbrev pub IsNumber : ℕ → List ℕ → Type 0
IsNumber n line = (n ≤ 9999999) × (line ≡ decimal n)

-- what is wrong with the line that begins here, after so many lines
abbrev pub IsWrongLine : ScheduleKind → ℕ → ℕ → List ℕ → Type 0
IsWrongLine kind.Trailing events lines rest = (rest ≢ []) × (has_line_feed rest ≡ false)
IsWrongLine kind.TooManySwitches events lines rest = (MOST_SWITCHES ≤ lines) × (has_line_feed rest ≡ true)
IsWrongLine kind.BadNumber events lines rest = (lines < MOST_SWITCHES) × ((line : List ℕ) × (after : List ℕ) × BeginsWithLine line after rest × ((n : ℕ) → ¬ IsNumber n line))
IsWrongLine kind.PastBudget events lines rest = (lines < MOST_SWITCHES) × ((line : List ℕ) × (after : List ℕ) × (n : ℕ) × BeginsWithLine line after rest × IsNumber n line × (events < n))

-- at this byte begins the first line that is wrong
pub record FaultsAt (found : ScheduleKind) (offset events : ℕ) (bytes : List ℕ) : Type 0 where
  pub before : List ℕ
  pub rest : List ℕ
  pub parted : bytes ≡ schedule_text before ++ rest
  pub right : AreTimes events before
  pub place : offset ≡ length (schedule_text before)
  pub wrong : IsWrongLine found events (length before) rest

-- why the bytes weren't read as a schedule
abbrev pub RefusesText : ℕ → List ℕ → ScheduleFault → Type 0
RefusesText events bytes (fault.At found offset) = FaultsAt found offset events bytes
RefusesText events bytes fault.NoMemory = Unit {0}
