-- Laws over the definitions: they hold of every log, and no code is in them.
use Rattle.std.specs.Prelude.{◌≡◌, ◌↔◌, ℕ, ◌<◌, IsTrue, List, ◌∷◌, ◌++◌, [], length, take, if◌then◌else◌, ◌==◌, Contains, Some, Ok, Err, slice_get}
use Rattle.std.specs.Prelude.{IsPermutation}
use Rattle.vm_model.specs.declared.ends.EndKind.{EndKind}
use Rattle.schedule_log.specs.declared.interval.Interval.{Interval}
use Rattle.schedule_log.specs.declared.fault.LogKind.TheVariants.{Short, Trailing}
use Rattle.schedule_log.specs.declared.fault.LogFault.TheVariants.{At}
use Rattle.schedule_log.specs.Intervals.{clocks, holds, MaximalFrom, Tiles, IsInOrder}
use Rattle.schedule_log.specs.Ordered.{ContiguousFrom, NeighboursDiffer, next_of}
use Rattle.schedule_log.specs.Foldings.{PlainFolding}
use Rattle.schedule_log.specs.Logs.{PlainLog, IsLawful, events, expansion, in_order}
use Rattle.schedule_log.specs.Parts.{log_of_parts, positions, AreParts, IsLoggable}
use Rattle.schedule_log.specs.Spelling.{spelling}
use Rattle.schedule_log.specs.Reading.{greatest_last, has_gap, read_log}

-- what is written is read again
abbrev pub SpelledIsRead : Type 0
SpelledIsRead = (log : PlainLog) → IsLawful log → read_log (spelling log) ≡ Ok log

-- a spelling with one or more bytes added is refused at its own length
abbrev pub LongerIsTrailing : Type 0
LongerIsTrailing = (log : PlainLog) (b : ℕ) (more : List ℕ) → IsLawful log → read_log (spelling log ++ b ∷ more) ≡ Err (At Trailing (length (spelling log)))

-- each proper front of a spelling is refused at its length
abbrev pub PrefixIsShort : Type 0
PrefixIsShort = (log : PlainLog) (size : ℕ) → IsLawful log → size < length (spelling log) → read_log (take size (spelling log)) ≡ Err (At Short size)

-- intervals in order of first tile n exactly where each begins right after the one before it, the first at 0, where
-- those in a row are of two threads, and where the last one ends before n
abbrev pub TilesInOrder : Type 0
TilesInOrder = (n : ℕ) (intervals : List Interval) → (IsInOrder intervals × Tiles n intervals) ↔ (ContiguousFrom 0 intervals × NeighboursDiffer intervals × (next_of intervals ≡ n))

-- the thread at a clock's place is that of the interval that has the clock, and there are as many places as clocks
abbrev pub ExpansionIsByClock : Type 0
ExpansionIsByClock = (log : PlainLog) → IsLawful log → (length (expansion log) ≡ events log) × ((clock : ℕ) (i : Interval) → Contains log.intervals i → IsTrue (holds clock i) → slice_get (expansion log) clock ≡ Some i.thread)

-- putting intervals in order keeps each of them as often as it was there
abbrev pub InOrderKeepsAll : Type 0
InOrderKeepsAll = (intervals : List Interval) → IsPermutation (in_order intervals) intervals

-- a gap is a clock below the greatest last that lies in no interval
abbrev pub GapIsClockInNone : Type 0
GapIsClockInNone = (intervals : List Interval) → IsTrue (has_gap intervals) ↔ ((clock : ℕ) × (clock < greatest_last intervals) × ((i : Interval) → Contains intervals i → IsTrue (holds clock i) → ⊥))

-- the clocks of a thread have one list of maximal intervals
abbrev pub MaximalIsOne : Type 0
MaximalIsOne = (thread : ℕ) (one other : List Interval) → MaximalFrom thread 0 one → MaximalFrom thread 0 other → clocks one ≡ clocks other → one ≡ other

-- one event more of a thread is one place more for it, and none for another thread
abbrev pub PositionsGrow : Type 0
PositionsGrow = (thread last : ℕ) (threads : List ℕ) → positions thread (threads ++ last ∷ []) ≡ positions thread threads ++ (if last == thread then length threads ∷ [] else [])

-- foldings that noted the clocks of a run, each those of its own thread, make a lawful log, and the log expands to the
-- run's threads
abbrev pub FoldedRunIsLawful : Type 0
FoldedRunIsLawful = (budget : ℕ) (threads : List ℕ) (parts : List PlainFolding) (end : EndKind) → IsLoggable budget threads end → AreParts threads parts → IsLawful (log_of_parts budget parts end) × (expansion (log_of_parts budget parts end) ≡ threads)

-- the threads of a run have one tiling
abbrev pub TilingIsOne : Type 0
TilingIsOne = (one other : PlainLog) → IsLawful one → IsLawful other → expansion one ≡ expansion other → one.intervals ≡ other.intervals
