-- The world that the threads share: statics, objects and arrays, monitors, threads, output and the fault.
use Rattle.std.specs.Prelude.{ℕ, ◌+◌, ◌-◌, ◌==◌, Bool, true, false, if◌then◌else◌, nat_le, List, [], ◌∷◌, ◌++◌, length, map, replicate, drop, Option, Some, None, slice_get, slice_set, is_none}
use Rattle.std.specs.Prelude.{sum_by}
use Rattle.vm_model.specs.declared.limits.TheConstants.{FIRST_USER_CLASS}
use Rattle.vm_model.specs.declared.value.Value.{Value}
use Rattle.vm_model.specs.declared.value.Lock.{Lock}
use Rattle.vm_model.specs.declared.value.Lock.TheVariants as lock
use Rattle.vm_model.specs.declared.ends.Fault.{Fault}
use Rattle.vm_model.specs.declared.program.StaticSlot.{StaticSlot}
use Rattle.machine_model.specs.Declarations.{Declarations}
use Rattle.machine_model.specs.declared.Row.{Row}
use Rattle.machine_model.specs.declared.RowState.{RowState}
use Rattle.machine_model.specs.declared.RowState.TheVariants as row_state

-- an object has its class and its fields; an array has no class, and its items
pub record HeapItem : Type 0 where
  pub class : Option ℕ
  pub words : List Value

-- who owns a lock and how often the owner entered it; the threads that wait, the longest one first
pub record Monitor : Type 0 where
  pub owner : Option ℕ
  pub count : ℕ
  pub waiters : List ℕ

-- one for each object or array, in order of id, and one for each user class
pub record Monitors : Type 0 where
  pub objects : List Monitor
  pub classes : List Monitor

pub record SharedState : Type 0 where
  pub statics : List Value
  -- objects and arrays, in order of id
  pub heap : List HeapItem
  pub monitors : Monitors
  -- the threads that were started
  pub rows : List Row
  pub output : List ℕ
  pub fault : Option Fault

-- ---- monitors

abbrev pub free_monitor : Monitor
free_monitor = record { owner = None; count = 0; waiters = [] }

-- the monitor of a lock, if there is such a lock
abbrev pub monitor_at : Monitors → Lock → Option Monitor
monitor_at ms (lock.Object id) = slice_get ms.objects id
monitor_at ms (lock.Class class) = if nat_le FIRST_USER_CLASS class then slice_get ms.classes (class - FIRST_USER_CLASS) else None

-- the monitors with this one for the lock, if there is such a lock, and all others as they were
abbrev pub with_monitor : Monitors → Lock → Monitor → Monitors
with_monitor ms (lock.Object id) m = record { objects = slice_set ms.objects id m; classes = ms.classes }
with_monitor ms (lock.Class class) m = if nat_le FIRST_USER_CLASS class then record { objects = ms.objects; classes = slice_set ms.classes (class - FIRST_USER_CLASS) m } else ms

abbrev pub is_thread_number : Option ℕ → ℕ → Bool
is_thread_number None t = false
is_thread_number (Some u) t = u == t

abbrev pub is_owner : Monitor → ℕ → Bool
is_owner m t = is_thread_number m.owner t

abbrev pub is_free : Monitor → Bool
is_free m = is_none m.owner

-- entered once more
abbrev pub entered : Monitor → ℕ → Monitor
entered m t = record { owner = Some t; count = m.count + 1; waiters = m.waiters }

-- left once, and free after the last time
abbrev pub exited : Monitor → Monitor
exited m = if nat_le m.count 1 then record { owner = None; count = 0; waiters = m.waiters } else record { owner = m.owner; count = m.count - 1; waiters = m.waiters }

-- given up wholly by a thread that waits behind the others
abbrev pub waited : Monitor → ℕ → Monitor
waited m t = record { owner = None; count = 0; waiters = m.waiters ++ t ∷ [] }

-- taken again, as often as it had been entered
abbrev pub resumed : Monitor → ℕ → ℕ → Monitor
resumed m t count = record { owner = Some t; count = count; waiters = m.waiters }

-- without the longest waiter
abbrev pub one_notified : Monitor → Monitor
one_notified m = record { owner = m.owner; count = m.count; waiters = drop 1 m.waiters }

-- without waiters
abbrev pub all_notified : Monitor → Monitor
all_notified m = record { owner = m.owner; count = m.count; waiters = [] }

-- one more object or array, whose monitor is free
abbrev pub with_object : Monitors → Monitors
with_object ms = record { objects = ms.objects ++ free_monitor ∷ []; classes = ms.classes }

-- ---- the heap

abbrev pub words_of_item : HeapItem → ℕ
words_of_item item = 1 + length item.words

-- an object takes one word and one for each field, an array one and one for each item
abbrev pub words_of : List HeapItem → ℕ
words_of heap = sum_by words_of_item heap

-- ---- threads

abbrev pub is_live_state : RowState → Bool
is_live_state row_state.Live = true
is_live_state row_state.Waiting = true
is_live_state row_state.Notified = true
is_live_state row_state.Ended = false

abbrev pub is_live_row : Option Row → Bool
is_live_row None = false
is_live_row (Some row) = is_live_state row.state

-- the thread was started and hasn't ended
abbrev pub is_live : SharedState → ℕ → Bool
is_live s t = is_live_row (slice_get s.rows t)

-- ---- the start

abbrev pub start_of_slot : StaticSlot → Value
start_of_slot slot = slot.start

abbrev pub first_row : Row
first_row = record { state = row_state.Live; target = None; kept = None }

abbrev pub start : Declarations → SharedState
start d = record {
  statics = map start_of_slot d.statics;
  heap = [];
  monitors = record { objects = []; classes = replicate (length d.classes) free_monitor };
  rows = first_row ∷ [];
  output = [];
  fault = None;
}
