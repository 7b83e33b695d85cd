-- The one spelling of each lawful log, in version 1 of the format.
use Rattle.std.specs.Prelude.{◌≡◌, ℕ, zero, suc, ◌+◌, ◌-◌, ◌/◌, ◌%◌, max, List, [], ◌∷◌, ◌++◌, length, filter, nat_lt, ◌==◌, if◌then◌else◌}
use Rattle.std.specs.List.{flat_map}
use Rattle.vm_model.specs.declared.ends.EndKind.{EndKind}
use Rattle.vm_model.specs.declared.ends.EndKind.TheVariants.{Done, Fault, Stuck, Spent}
use Rattle.schedule_log.specs.declared.interval.Interval.{Interval}
use Rattle.schedule_log.specs.Intervals.{numbers}
use Rattle.schedule_log.specs.Logs.{PlainLog, IsLawful}

-- Unsigned LEB128 in the shortest spelling: seven bits per byte, low group first, top bit set where more follow. No
-- number has more groups than its value says.
abbrev pub groups : ℕ → ℕ → List ℕ
groups zero n = n ∷ []
groups (suc more) n = if nat_lt n 128 then n ∷ [] else (n % 128 + 128) ∷ groups more (n / 128)

unfoldable pub leb128 : ℕ → List ℕ
leb128 n = groups n n

-- the intervals of one thread
abbrev pub part : ℕ → List Interval → List Interval
part thread intervals = filter (λ (i : Interval). i.thread == thread) intervals

-- per interval how far it begins after the end of the one before it, and its last minus its first
abbrev pub pairs : ℕ → List Interval → List ℕ
pairs from [] = []
pairs from (i ∷ rest) = leb128 (i.first - from) ++ (leb128 (i.last - i.first) ++ pairs (i.last + 1) rest)

-- how many intervals a thread has, and their pairs
abbrev pub thread_spelling : List Interval → ℕ → List ℕ
thread_spelling intervals thread = leb128 (length (part thread intervals)) ++ pairs 0 (part thread intervals)

-- the greatest thread plus 1
abbrev pub thread_count : List Interval → ℕ
thread_count [] = 0
thread_count (i ∷ rest) = max (i.thread + 1) (thread_count rest)

abbrev pub threads_spelling : List Interval → List ℕ
threads_spelling intervals = flat_map (thread_spelling intervals) (numbers 0 (thread_count intervals))

abbrev pub end_mark : EndKind → ℕ
end_mark Done = 0xF0
end_mark Fault = 0xF1
end_mark Stuck = 0xF2
end_mark Spent = 0xF3

-- "DJVL" and the version
abbrev pub head : List ℕ
head = 0x44 ∷ 0x4A ∷ 0x56 ∷ 0x4C ∷ 1 ∷ []

abbrev pub spelling : PlainLog → List ℕ
spelling log = head ++ (leb128 log.budget ++ (leb128 (thread_count log.intervals) ++ (threads_spelling log.intervals ++ end_mark log.end ∷ [])))

-- the bytes are the lawful log's spelling
abbrev pub Spells : PlainLog → List ℕ → Type 0
Spells log bytes = IsLawful log × (bytes ≡ spelling log)
