-- Reading a log from left to right, with the first fault that is met. A fault is its kind, and how many bytes are left
-- from its place on.
use Rattle.std.specs.Prelude.{ℕ, zero, suc, ◌+◌, ◌-◌, ◌*◌, max, Bool, not, ◌&&◌, ◌||◌, List, [], ◌∷◌, length, Result, Ok, Err, nat_lt, nat_le, ◌==◌, if◌then◌else◌}
use Rattle.std.specs.List.{list_any}
use Rattle.vm_model.specs.declared.limits.TheConstants.{MOST_EVENTS, MOST_THREADS}
use Rattle.vm_model.specs.declared.ends.EndKind.{EndKind}
use Rattle.vm_model.specs.declared.ends.EndKind.TheVariants as ends
use Rattle.vm_model.specs.Failures.{◌>>=◌}
use Rattle.schedule_log.specs.declared.interval.Interval.{Interval}
use Rattle.schedule_log.specs.declared.fault.LogKind.{LogKind}
use Rattle.schedule_log.specs.declared.fault.LogKind.TheVariants.{Magic, Version, Short, LongSpelling, Overlap, Gap, NotMaximal, Limit, Trailing, BadEnd}
use Rattle.schedule_log.specs.declared.fault.LogFault.{LogFault}
use Rattle.schedule_log.specs.declared.fault.LogFault.TheVariants as answers
use Rattle.schedule_log.specs.declared.fault.Refusal.{Refusal}
use Rattle.schedule_log.specs.Intervals.{numbers, clock_count, holds, shares}
use Rattle.schedule_log.specs.Logs.{PlainLog, put}

abbrev pub refuse : {A : Type 0} → LogKind → List ℕ → Result A Refusal
refuse kind bytes = Err (record { kind = kind; left = length bytes })

-- ---- bytes and numbers

abbrev pub byte_at : LogKind → ℕ → List ℕ → Result (List ℕ) Refusal
byte_at kind wanted [] = refuse Short []
byte_at kind wanted (b ∷ rest) = if b == wanted then Ok rest else refuse kind (b ∷ rest)

unfoldable pub head_at : List ℕ → Result (List ℕ) Refusal
head_at bytes = do
  a ← byte_at Magic 0x44 bytes
  b ← byte_at Magic 0x4A a
  c ← byte_at Magic 0x56 b
  d ← byte_at Magic 0x4C c
  byte_at Version 1 d

-- A byte below 128 is the last one. After another one come at most so many more, and their value is not 0.
unfoldable pub groups_at : ℕ → List ℕ → Result (ℕ × List ℕ) LogKind
groups_at more [] = Err Short
groups_at more (b ∷ rest) = if nat_lt b 128 then Ok (b, rest) else if more == 0 then Err Limit else (groups_at (more - 1) rest >>= λ g. if g.0 == 0 then Err LongSpelling else Ok (b - 128 + 128 * g.0, g.1))

-- a missing byte is missing at the end, and all else stands at the number's first byte
abbrev pub left_of : LogKind → List ℕ → ℕ
left_of Short bytes = 0
left_of _ bytes = length bytes

abbrev pub in_range : ℕ → ℕ → List ℕ → Result (ℕ × List ℕ) LogKind → Result (ℕ × List ℕ) Refusal
in_range low high bytes (Err kind) = Err (record { kind = kind; left = left_of kind bytes })
in_range low high bytes (Ok g) = if nat_lt g.0 low || nat_lt high g.0 then refuse Limit bytes else Ok g

-- a number from low to high
unfoldable pub number_at : ℕ → ℕ → List ℕ → Result (ℕ × List ℕ) Refusal
number_at low high bytes = in_range low high bytes (groups_at 4 bytes)

-- ---- intervals

-- an interval of a thread, where next is the number after the thread's last one, and 0 for its first one
unfoldable pub interval_at : ℕ → ℕ → ℕ → List Interval → List ℕ → Result (Interval × List ℕ) Refusal
interval_at budget thread next placed bytes =
    number_at 0 MOST_EVENTS bytes >>= λ gap.
    if nat_lt 0 next && gap.0 == 0 then refuse NotMaximal bytes else
    (number_at 0 MOST_EVENTS gap.1 >>= λ more.
    if nat_le budget (next + gap.0 + more.0) then refuse Limit gap.1 else
    if list_any (shares (next + gap.0) (next + gap.0 + more.0)) placed then refuse Overlap bytes else
    Ok (record { thread = thread; first = next + gap.0; last = next + gap.0 + more.0 }, more.1))

-- count intervals of a thread, put among those before them
unfoldable pub intervals_at : ℕ → ℕ → ℕ → ℕ → List Interval → List ℕ → Result (List Interval × List ℕ) Refusal
intervals_at zero budget thread next placed bytes = Ok (placed, bytes)
intervals_at (suc count) budget thread next placed bytes =
    interval_at budget thread next placed bytes >>= λ i. intervals_at count budget thread (i.0.last + 1) (put i.0 placed) i.1

-- a thread, with at least so many intervals
unfoldable pub thread_at : ℕ → ℕ → ℕ → List Interval → List ℕ → Result (List Interval × List ℕ) Refusal
thread_at budget thread least placed bytes = do
  count ← number_at least MOST_EVENTS bytes
  intervals_at count.0 budget thread 0 placed count.1

-- the threads from one on, the last of which has an interval
unfoldable pub threads_at : ℕ → ℕ → ℕ → List Interval → List ℕ → Result (List Interval × List ℕ) Refusal
threads_at zero budget thread placed bytes = Ok (placed, bytes)
threads_at (suc more) budget thread placed bytes =
    thread_at budget thread (if more == 0 then 1 else 0) placed bytes >>= λ p. threads_at more budget (thread + 1) p.0 p.1

-- ---- after the intervals

abbrev pub greatest_last : List Interval → ℕ
greatest_last [] = 0
greatest_last (i ∷ rest) = max i.last (greatest_last rest)

-- whether a clock below the greatest last is in no interval
abbrev pub has_gap : List Interval → Bool
has_gap intervals = list_any (λ k. not (list_any (holds k) intervals)) (numbers 0 (greatest_last intervals))

unfoldable pub gapless_at : List Interval → List ℕ → Result (List ℕ) Refusal
gapless_at placed bytes = if has_gap placed then refuse Gap bytes else Ok bytes

unfoldable pub end_at : ℕ → ℕ → List ℕ → Result (EndKind × List ℕ) Refusal
end_at budget events [] = refuse Short []
end_at budget events (b ∷ rest) =
    if b == 0xF0 then Ok (ends.Done, rest) else
    if b == 0xF1 then Ok (ends.Fault, rest) else
    if b == 0xF2 then Ok (ends.Stuck, rest) else
    if b == 0xF3 && events == budget then Ok (ends.Spent, rest) else
    refuse BadEnd (b ∷ rest)

-- nothing is left
unfoldable pub nothing_at : {A : Type 0} → A → List ℕ → Result A Refusal
nothing_at x [] = Ok x
nothing_at x (b ∷ rest) = refuse Trailing (b ∷ rest)

-- ---- the whole log

-- the end of a log of these intervals
unfoldable pub tail_at : ℕ → List Interval → List ℕ → Result PlainLog Refusal
tail_at budget placed bytes = do
  rest ← gapless_at placed bytes
  end ← end_at budget (clock_count placed) rest
  nothing_at (record { budget = budget; intervals = placed; end = end.0 }) end.1

unfoldable pub log_at : List ℕ → Result PlainLog Refusal
log_at bytes = do
  rest ← head_at bytes
  budget ← number_at 1 MOST_EVENTS rest
  count ← number_at 1 MOST_THREADS budget.1
  placed ← threads_at count.0 budget.0 0 [] count.1
  tail_at budget.0 placed.0 placed.1

-- a fault's offset, of a file of so many bytes
abbrev pub with_offset : ℕ → Result PlainLog Refusal → Result PlainLog LogFault
with_offset size (Ok log) = Ok log
with_offset size (Err refusal) = Err (answers.At refusal.kind (size - refusal.left))

-- the log that a file's bytes spell, else the file's first fault in reading order and its offset
unfoldable pub read_log : List ℕ → Result PlainLog LogFault
read_log bytes = with_offset (length bytes) (log_at bytes)
