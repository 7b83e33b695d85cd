-- Laws of schedule files.
use Rattle.std.specs.Prelude.{◌≡◌, ◌≢◌, ◌≤◌, ℕ, true, false, List, [], ◌++◌, length}
use Rattle.switch_schedule.specs.declared.fault.ScheduleKind.{ScheduleKind}
use Rattle.switch_schedule.specs.declared.fault.ScheduleKind.TheVariants as kind
use Rattle.vm_model.specs.declared.limits.TheConstants.{MOST_THREADS}
use Rattle.vm_model.specs.Program.{PlainProgram}
use Rattle.machine_model.specs.Machine.{MachineState, is_enabled}
use Rattle.switch_schedule.specs.Derivations.{IsLeastPlaces}
use Rattle.switch_schedule.specs.Texts.{AreTimes, FaultsAt, has_line_feed, schedule_text, SpellsSchedule}

-- bytes spell at most one list of times
abbrev pub OneScheduleABytes : Type 0
OneScheduleABytes = (events : ℕ) (times others bytes : List ℕ) → SpellsSchedule events times bytes → SpellsSchedule events others bytes → times ≡ others

-- bytes that spell a list of times have no fault
abbrev pub SpelledIsFaultless : Type 0
SpelledIsFaultless = (events offset : ℕ) (times bytes : List ℕ) (found : ScheduleKind) → SpellsSchedule events times bytes → ¬ FaultsAt found offset events bytes

-- bytes have at most one first fault
abbrev pub FirstFaultIsOne : Type 0
FirstFaultIsOne = (events offset other : ℕ) (bytes : List ℕ) (found also : ScheduleKind) → FaultsAt found offset events bytes → FaultsAt also other events bytes → (found ≡ also) × (offset ≡ other)

-- what is written of allowed times spells them
abbrev pub WrittenSpells : Type 0
WrittenSpells = (events : ℕ) (times : List ℕ) → AreTimes events times → SpellsSchedule events times (schedule_text times)

-- bytes with no line feed after the lines of allowed times are Trailing where they begin
abbrev pub CutIsTrailing : Type 0
CutIsTrailing = (events : ℕ) (times rest : List ℕ) → AreTimes events times → rest ≢ [] → has_line_feed rest ≡ false → FaultsAt kind.Trailing (length (schedule_text times)) events (schedule_text times ++ rest)

-- from each thread a thread that can go on is reached round the ring, and there is a least number of places
abbrev pub EnabledIsReached : Type 0
EnabledIsReached = (p : PlainProgram) (m : MachineState) (before thread : ℕ) → length m.world.rows ≤ MOST_THREADS → is_enabled p m thread ≡ true → (places : ℕ) × (places ≤ 128) × IsLeastPlaces p m before thread places
