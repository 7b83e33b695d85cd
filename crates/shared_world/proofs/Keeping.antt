-- What each operation keeps of the state.
use Rattle.std.proofs.Common.{◌≡◌, ℕ, ◌+◌, ◌-◌, ◌<◌, ◌≤◌, Bool, true, false, ◌==◌, if◌then◌else◌, nat_le, nat_lt, List, [], ◌∷◌, ◌++◌, length, map, replicate, drop, slice_set, slice_get, Option, Some, None, MatchOption, refl, sym, subst, ◌∙◌, arith, length-append, pos}
use Rattle.std.specs.List.{AllByRecursion}
use Rattle.std.proofs.lemmas.List.{length-set}
use Rattle.std.proofs.lemmas.Bool.{and_parts, eqb-true, ltb-true}
use Rattle.vm_model.specs.declared.value.Lock.{Lock}
use Rattle.vm_model.specs.declared.value.Lock.TheVariants as lock
use Rattle.vm_model.specs.declared.value.ObjRef.{ObjRef}
use Rattle.vm_model.specs.declared.value.Value.{Value}
use Rattle.vm_model.specs.declared.value.Value.TheVariants as value
use Rattle.vm_model.specs.declared.op.Op.{Op}
use Rattle.vm_model.specs.declared.op.Op.TheVariants as op
use Rattle.vm_model.specs.declared.op.Reply.TheVariants as reply
use Rattle.vm_model.specs.declared.ends.FaultKind.TheVariants as fault
use Rattle.machine_model.specs.declared.Kept.{Kept}
use Rattle.machine_model.specs.declared.Row.{Row}
use Rattle.machine_model.specs.declared.RowState.{RowState}
use Rattle.machine_model.specs.declared.RowState.TheVariants as row_state
use Rattle.machine_model.specs.Declarations.{Declarations}
use Rattle.machine_model.specs.Shared.{HeapItem, Monitor, Monitors, SharedState, monitor_at, with_monitor, free_monitor, entered, exited, waited, resumed, one_notified, all_notified, is_owner}
use Rattle.machine_model.specs.Kinds.{field_kinds, first_value}
use Rattle.machine_model.specs.Operations.{Applied, answers, apply, as_owner, end_thread, enter, has_room, is_enabled, is_free_lock, keeps, kept_of, make, may_resume, printed, same_lock, target_of, may_resume_row, is_notified_state, notify_rows, first_of, put_word, release_all, resume, row_in, set_monitor, set_row, was_started, with_item, with_word}
use Rattle.shared_world.specs.Kept.{AreWithin, IsKept, IsWithin, KeptAtMost, RowWithin}
use Rattle.shared_world.proofs.Everywhere.{all_at, all_push, all_set, all_weaken}

-- ---- bounds grow

within_more : (n : ℕ) (m : Monitor) → IsWithin n m → IsWithin (n + 1) m
within_more n m w = record { count = omega arith; waiters = omega arith }

kept_more : (n : ℕ) (k : Option Kept) → KeptAtMost n k → KeptAtMost (n + 1) k
kept_more n None h = omega arith
kept_more n (Some k) h = omega (arith, h)

pub AreWithin-weaker : (n k : ℕ) (ms : Monitors) → n ≤ k → AreWithin n ms → AreWithin k ms
AreWithin-weaker n k ms le w =
    let weaken = λ (m : Monitor) (h : IsWithin n m). let r : IsWithin k m = record { count = omega (arith, h.count); waiters = omega (arith, h.waiters) } in r in
    (all_weaken (IsWithin n) (IsWithin k) weaken ms.objects w.0, all_weaken (IsWithin n) (IsWithin k) weaken ms.classes w.1)

IsKept-more : (d : Declarations) (n : ℕ) (s : SharedState) → IsKept d n s → IsKept d (n + 1) s
IsKept-more d n s k = record {
  statics = k.statics;
  objects = k.objects;
  classes = k.classes;
  monitors = (all_weaken (IsWithin n) (IsWithin (n + 1)) (within_more n) s.monitors.objects k.monitors.0, all_weaken (IsWithin n) (IsWithin (n + 1)) (within_more n) s.monitors.classes k.monitors.1);
  rows = all_weaken (RowWithin n) (RowWithin (n + 1)) (λ row. kept_more n row.kept) s.rows k.rows;
  some_thread = k.some_thread;
  few_threads = k.few_threads;
}

-- ---- one monitor

class_within : (n : ℕ) (ms : Monitors) (class : ℕ) (b : Bool) → AreWithin n ms → MatchOption (if b then slice_get ms.classes (class - 32) else None) (Unit {0}) (IsWithin n)
class_within n ms class true w = all_at (IsWithin n) ms.classes (class - 32) w.1
class_within n ms class false w = tt

monitor_within : (n : ℕ) (ms : Monitors) (l : Lock) → AreWithin n ms → MatchOption (monitor_at ms l) (Unit {0}) (IsWithin n)
monitor_within n ms (lock.Object id) w = all_at (IsWithin n) ms.objects id w.0
monitor_within n ms (lock.Class class) w = class_within n ms class (nat_le 32 class) w

found_within : (n : ℕ) (ms : Monitors) (l : Lock) (m : Monitor) → monitor_at ms l ≡ Some m → AreWithin n ms → IsWithin n m
found_within n ms l m found w = subst (λ (o : Option Monitor). MatchOption o (Unit {0}) (IsWithin n)) found (monitor_within n ms l w)

with_monitor_within : (n : ℕ) (ms : Monitors) (l : Lock) (m : Monitor) → AreWithin n ms → IsWithin n m → AreWithin n (with_monitor ms l m)
with_monitor_within n ms (lock.Object id) m w h = (all_set (IsWithin n) ms.objects id m w.0 h, w.1)
with_monitor_within n ms (lock.Class class) m w h = by_class (nat_le 32 class)
  where
    by_class : (b : Bool) → AreWithin n (if b then record { objects = ms.objects; classes = slice_set ms.classes (class - 32) m } else ms)
    by_class true = (w.0, all_set (IsWithin n) ms.classes (class - 32) m w.1 h)
    by_class false = w

with_monitor-objects : (ms : Monitors) (l : Lock) (m : Monitor) → length (with_monitor ms l m).objects ≡ length ms.objects
with_monitor-objects ms (lock.Object id) m = length-set ms.objects id m
with_monitor-objects ms (lock.Class class) m = by_class (nat_le 32 class)
  where
    by_class : (b : Bool) → length (if b then record { objects = ms.objects; classes = slice_set ms.classes (class - 32) m } else ms).objects ≡ length ms.objects
    by_class true = refl
    by_class false = refl

with_monitor-classes : (ms : Monitors) (l : Lock) (m : Monitor) → length (with_monitor ms l m).classes ≡ length ms.classes
with_monitor-classes ms (lock.Object id) m = refl
with_monitor-classes ms (lock.Class class) m = by_class (nat_le 32 class)
  where
    by_class : (b : Bool) → length (if b then record { objects = ms.objects; classes = slice_set ms.classes (class - 32) m } else ms).classes ≡ length ms.classes
    by_class true = length-set ms.classes (class - 32) m
    by_class false = refl

kept_monitor : (d : Declarations) (n : ℕ) (s : SharedState) (l : Lock) (m : Monitor) → IsKept d n s → IsWithin n m → IsKept d n (set_monitor s l m)
kept_monitor d n s l m k h = record {
  statics = k.statics;
  objects = with_monitor-objects s.monitors l m ∙ k.objects;
  classes = with_monitor-classes s.monitors l m ∙ k.classes;
  monitors = with_monitor_within n s.monitors l m k.monitors h;
  rows = k.rows;
  some_thread = k.some_thread;
  few_threads = k.few_threads;
}

-- ---- rows

kept_rows : (d : Declarations) (n : ℕ) (s : SharedState) (rows : List Row) → IsKept d n s → length rows ≡ length s.rows → AllByRecursion (RowWithin n) rows → IsKept d n (record s { rows = rows })
kept_rows d n s rows k same all = record {
  statics = k.statics;
  objects = k.objects;
  classes = k.classes;
  monitors = k.monitors;
  rows = all;
  some_thread = omega (arith, same, k.some_thread);
  few_threads = omega (arith, same, k.few_threads);
}

row_in_within : (n : ℕ) (o : Option Row) (state : RowState) (kept : Option Kept) → KeptAtMost n kept → RowWithin n (row_in o state kept)
row_in_within n None state kept h = h
row_in_within n (Some row) state kept h = h

set_row_within : (n : ℕ) (rows : List Row) (t : ℕ) (state : RowState) (kept : Option Kept) → AllByRecursion (RowWithin n) rows → KeptAtMost n kept → AllByRecursion (RowWithin n) (set_row rows t state kept)
set_row_within n rows t state kept all h = all_set (RowWithin n) rows t (row_in (slice_get rows t) state kept) all (row_in_within n (slice_get rows t) state kept h)

set_row-length : (rows : List Row) (t : ℕ) (state : RowState) (kept : Option Kept) → length (set_row rows t state kept) ≡ length rows
set_row-length rows t state kept = length-set rows t (row_in (slice_get rows t) state kept)

kept_of_within : (n : ℕ) (o : Option Row) → MatchOption o (Unit {0}) (RowWithin n) → KeptAtMost n (kept_of o)
kept_of_within n None h = omega arith
kept_of_within n (Some row) h = h

notify_rows_within : (n : ℕ) (rows : List Row) (ts : List ℕ) → AllByRecursion (RowWithin n) rows → AllByRecursion (RowWithin n) (notify_rows rows ts)
notify_rows_within n rows [] all = all
notify_rows_within n rows (t ∷ ts) all =
    notify_rows_within n (set_row rows t row_state.Notified (kept_of (slice_get rows t))) ts
    (set_row_within n rows t row_state.Notified (kept_of (slice_get rows t)) all (kept_of_within n (slice_get rows t) (all_at (RowWithin n) rows t all)))

notify_rows-length : (rows : List Row) (ts : List ℕ) → length (notify_rows rows ts) ≡ length rows
notify_rows-length rows [] = refl
notify_rows-length rows (t ∷ ts) = notify_rows-length (set_row rows t row_state.Notified (kept_of (slice_get rows t))) ts ∙ set_row-length rows t row_state.Notified (kept_of (slice_get rows t))

kept_notified : (d : Declarations) (n : ℕ) (s : SharedState) (ts : List ℕ) → IsKept d n s → IsKept d n (record s { rows = notify_rows s.rows ts })
kept_notified d n s ts k = kept_rows d n s (notify_rows s.rows ts) k (notify_rows-length s.rows ts) (notify_rows_within n s.rows ts k.rows)

kept_row : (d : Declarations) (n : ℕ) (s : SharedState) (t : ℕ) (state : RowState) (kept : Option Kept) → IsKept d n s → KeptAtMost n kept → IsKept d n (record s { rows = set_row s.rows t state kept })
kept_row d n s t state kept k h = kept_rows d n s (set_row s.rows t state kept) k (set_row-length s.rows t state kept) (set_row_within n s.rows t state kept k.rows h)

-- ---- what monitors become

entered_within : (n : ℕ) (m : Monitor) (t : ℕ) → IsWithin n m → IsWithin (n + 1) (entered m t)
entered_within n m t w = record { count = omega arith; waiters = omega arith }

exited_within : (n : ℕ) (m : Monitor) (b : Bool) → IsWithin n m → IsWithin n (if b then record { owner = None; count = 0; waiters = m.waiters } else record { owner = m.owner; count = m.count - 1; waiters = m.waiters })
exited_within n m true w = record { count = omega arith; waiters = w.waiters }
exited_within n m false w = record { count = omega arith; waiters = w.waiters }

waited_within : (n : ℕ) (m : Monitor) (t : ℕ) → IsWithin n m → IsWithin (n + 1) (waited m t)
waited_within n m t w = record { count = omega arith; waiters = omega (arith, length-append m.waiters (t ∷ [])) }

length-drop-one : (ts : List ℕ) → length (drop 1 ts) ≤ length ts
length-drop-one [] = omega arith
length-drop-one (t ∷ ts) = omega arith

one_notified_within : (n : ℕ) (m : Monitor) → IsWithin n m → IsWithin n (one_notified m)
one_notified_within n m w = record { count = w.count; waiters = omega (arith, length-drop-one m.waiters, w.waiters) }

all_notified_within : (n : ℕ) (m : Monitor) → IsWithin n m → IsWithin n (all_notified m)
all_notified_within n m w = record { count = w.count; waiters = omega arith }

-- ---- operations

kept_as_owner : (d : Declarations) (n : ℕ) (s : SharedState) (t : ℕ) (o : Option Monitor) (go : Monitor → Applied) → IsKept d n s → ((m : Monitor) → o ≡ Some m → IsKept d n (go m).world) → IsKept d n (as_owner s t o go).world
kept_as_owner d n s t None go k go_on = k
kept_as_owner d n s t (Some m) go k go_on =
    elim (is_owner m t) as (λ b. IsKept d n (if b then go m else answers s (reply.Raise fault.MonitorState)).world) [ true ↦ go_on m refl | false ↦ k ]

kept_enter : (d : Declarations) (n : ℕ) (s : SharedState) (t : ℕ) (l : Lock) (o : Option Monitor) → IsKept d n s → monitor_at s.monitors l ≡ o → IsKept d (n + 1) (enter s t l o)
kept_enter d n s t l None k found = IsKept-more d n s k
kept_enter d n s t l (Some m) k found = kept_monitor d (n + 1) s l (entered m t) (IsKept-more d n s k) (entered_within n m t (found_within n s.monitors l m found k.monitors))

kept_resume : (d : Declarations) (n : ℕ) (s : SharedState) (t : ℕ) (l : Lock) (count : ℕ) (o : Option Monitor) → IsKept d n s → monitor_at s.monitors l ≡ o → count ≤ n → IsKept d n (resume s t l count o)
kept_resume d n s t l count None k found few = k
kept_resume d n s t l count (Some m) k found few =
    let w : IsWithin n m = found_within n s.monitors l m found k.monitors in
    kept_row d n (set_monitor s l (resumed m t count)) t row_state.Live None (kept_monitor d n s l (resumed m t count) k (record { count = few; waiters = w.waiters })) (omega arith)

kept_wait : (d : Declarations) (n : ℕ) (s : SharedState) (t : ℕ) (l : Lock) (m : Monitor) → IsKept d n s → monitor_at s.monitors l ≡ Some m → IsKept d (n + 1) (record (set_monitor s l (waited m t)) { rows = set_row s.rows t row_state.Waiting (Some (record { lock = l; count = m.count })) })
kept_wait d n s t l m k found =
    let w : IsWithin n m = found_within n s.monitors l m found k.monitors in
    kept_row d (n + 1) (set_monitor s l (waited m t)) t row_state.Waiting (Some (record { lock = l; count = m.count })) (kept_monitor d (n + 1) s l (waited m t) (IsKept-more d n s k) (waited_within n m t w)) (omega (arith, w.count))

kept_release : (d : Declarations) (n : ℕ) (s : SharedState) (target : Option ObjRef) → IsKept d n s → IsKept d n (release_all s target)
kept_release d n s None k = k
kept_release d n s (Some o) k =
    (elim (slice_get s.monitors.objects o.id) as (λ found. slice_get s.monitors.objects o.id ≡ found → IsKept d n (release_all s (Some o))) [
      | None ↦ λ e. rw e k
      | Some m ↦ λ e. rw e (kept_notified d n (set_monitor s (lock.Object o.id) (all_notified m)) m.waiters (kept_monitor d n s (lock.Object o.id) (all_notified m) k (all_notified_within n m (found_within n s.monitors (lock.Object o.id) m e k.monitors))))
    ]) refl

kept_end : (d : Declarations) (n : ℕ) (s : SharedState) (t : ℕ) (target : Option ObjRef) → IsKept d n s → IsKept d n (record (release_all s target) { rows = set_row (release_all s target).rows t row_state.Ended None })
kept_end d n s t target k = kept_row d n (release_all s target) t row_state.Ended None (kept_release d n s target k) (omega arith)

kept_item : (d : Declarations) (n : ℕ) (s : SharedState) (item : HeapItem) → IsKept d n s → IsKept d n (with_item s item)
kept_item d n s item k = record {
  statics = k.statics;
  objects = omega (arith, length-append s.monitors.objects (free_monitor ∷ []), length-append s.heap (item ∷ []), k.objects);
  classes = k.classes;
  monitors = (all_push (IsWithin n) s.monitors.objects free_monitor k.monitors.0 (record { count = omega arith; waiters = omega arith }), k.monitors.1);
  rows = k.rows;
  some_thread = k.some_thread;
  few_threads = k.few_threads;
}

kept_make : (d : Declarations) (n : ℕ) (s : SharedState) (item : HeapItem) (v : Value) → IsKept d n s → IsKept d n (make s item v).world
kept_make d n s item v k =
    elim (has_room s (1 + length item.words)) as (λ b. IsKept d n (if b then answers (with_item s item) (reply.Made v) else answers s (reply.Raise fault.HeapFull)).world) [ true ↦ kept_item d n s item k | false ↦ k ]

put_word-length : (o : Option HeapItem) (place : ℕ) (v : Value) (heap : List HeapItem) (id : ℕ) → length (put_word o place v heap id) ≡ length heap
put_word-length None place v heap id = refl
put_word-length (Some item) place v heap id = length-set heap id (record { class = item.class; words = slice_set item.words place v })

kept_word : (d : Declarations) (n : ℕ) (s : SharedState) (id place : ℕ) (v : Value) → IsKept d n s → IsKept d n (with_word s id place v)
kept_word d n s id place v k = record {
  statics = k.statics;
  objects = k.objects ∙ sym (put_word-length (slice_get s.heap id) place v s.heap id);
  classes = k.classes;
  monitors = k.monitors;
  rows = k.rows;
  some_thread = k.some_thread;
  few_threads = k.few_threads;
}

kept_static : (d : Declarations) (n : ℕ) (s : SharedState) (slot : ℕ) (v : Value) → IsKept d n s → IsKept d n (record s { statics = slice_set s.statics slot v })
kept_static d n s slot v k = record {
  statics = length-set s.statics slot v ∙ k.statics;
  objects = k.objects;
  classes = k.classes;
  monitors = k.monitors;
  rows = k.rows;
  some_thread = k.some_thread;
  few_threads = k.few_threads;
}

kept_begun : (d : Declarations) (n : ℕ) (s : SharedState) (row : Row) → IsKept d n s → row.kept ≡ None → length s.rows + 1 ≤ 64 → IsKept d n (record s { rows = s.rows ++ row ∷ [] })
kept_begun d n s row k none few = record {
  statics = k.statics;
  objects = k.objects;
  classes = k.classes;
  monitors = k.monitors;
  rows = all_push (RowWithin n) s.rows row k.rows (subst (KeptAtMost n) (sym none) (omega arith));
  some_thread = omega (arith, length-append s.rows (row ∷ []), k.some_thread);
  few_threads = omega (arith, length-append s.rows (row ∷ []), few);
}

kept_begin : (d : Declarations) (n : ℕ) (s : SharedState) (target : ObjRef) (some free : Bool) → IsKept d n s → (free ≡ true → length s.rows < 64)
    → IsKept d n (if some then answers s (reply.Raise fault.ThreadState)
    else if free
    then answers (record s { rows = s.rows ++ record { state = row_state.Live; target = Some target; kept = None } ∷ [] }) (reply.Began (length s.rows))
    else answers s (reply.Raise fault.ThreadsFull)).world
kept_begin d n s target true free k few = k
kept_begin d n s target false true k few = kept_begun d n s (record { state = row_state.Live; target = Some target; kept = None }) k refl (omega (arith, few refl))
kept_begin d n s target false false k few = k

kept_print : (d : Declarations) (n : ℕ) (s : SharedState) (bytes : List ℕ) (free : Bool) → IsKept d n s → IsKept d n (if free then answers (record s { output = s.output ++ bytes }) reply.Unit else answers s (reply.Raise fault.OutputFull)).world
kept_print d n s bytes true k = record {
  statics = k.statics;
  objects = k.objects;
  classes = k.classes;
  monitors = k.monitors;
  rows = k.rows;
  some_thread = k.some_thread;
  few_threads = k.few_threads;
}
kept_print d n s bytes false k = k

-- ---- the count of a Resume is that of the wait

keeps_few : (n : ℕ) (k : Option Kept) (l : Lock) (count : ℕ) → KeptAtMost n k → keeps k l count ≡ true → count ≤ n
keeps_few n None l count h same = absurd cc
keeps_few n (Some k) l count h same = omega (arith, h, eqb-true k.count count (and_parts (same_lock k.lock l) (k.count == count) same).1)

resume_few : (n : ℕ) (o : Option Row) (l : Lock) (count : ℕ) → MatchOption o (Unit {0}) (RowWithin n) → may_resume_row o l count ≡ true → count ≤ n
resume_few n None l count h may = absurd cc
resume_few n (Some row) l count h may = keeps_few n row.kept l count h (and_parts (is_notified_state row.state) (keeps row.kept l count) may).1

-- ---- all operations

pub IsKept-after : (d : Declarations) (n : ℕ) (s : SharedState) (t : ℕ) (o : Op) → IsKept d n s → is_enabled d s t o ≡ true → IsKept d (n + 1) (apply d s t o).world
IsKept-after d n s t (op.GetStatic slot) k enabled = IsKept-more d n s k
IsKept-after d n s t (op.PutStatic slot v) k enabled = kept_static d (n + 1) s slot v (IsKept-more d n s k)
IsKept-after d n s t (op.GetField o place) k enabled = IsKept-more d n s k
IsKept-after d n s t (op.PutField o place v) k enabled = kept_word d (n + 1) s o.id place v (IsKept-more d n s k)
IsKept-after d n s t (op.ArrayLoad arr index) k enabled = IsKept-more d n s k
IsKept-after d n s t (op.ArrayStore arr index v) k enabled = kept_word d (n + 1) s arr index (value.Int v) (IsKept-more d n s k)
IsKept-after d n s t (op.New class) k enabled = kept_make d (n + 1) s (record { class = Some class; words = map first_value (field_kinds d class) }) (value.Obj (length s.heap) class) (IsKept-more d n s k)
IsKept-after d n s t (op.NewArray len) k enabled = kept_make d (n + 1) s (record { class = None; words = replicate len (value.Int (pos 0)) }) (value.Arr (length s.heap) len) (IsKept-more d n s k)
IsKept-after d n s t (op.Enter l) k enabled = kept_enter d n s t l (monitor_at s.monitors l) k refl
IsKept-after d n s t (op.Exit l) k enabled =
    kept_as_owner d (n + 1) s t (monitor_at s.monitors l) (λ m. answers (set_monitor s l (exited m)) reply.Unit) (IsKept-more d n s k)
    (λ m found. kept_monitor d (n + 1) s l (exited m) (IsKept-more d n s k) (exited_within (n + 1) m (nat_le m.count 1) (found_within (n + 1) s.monitors l m found (IsKept-more d n s k).monitors)))
IsKept-after d n s t (op.Wait l) k enabled =
    kept_as_owner d (n + 1) s t (monitor_at s.monitors l)
    (λ m. answers (record (set_monitor s l (waited m t)) { rows = set_row s.rows t row_state.Waiting (Some (record { lock = l; count = m.count })) }) (reply.Waits m.count))
    (IsKept-more d n s k) (λ m found. kept_wait d n s t l m k found)
IsKept-after d n s t (op.Resume l count) k enabled =
    let may : may_resume_row (slice_get s.rows t) l count ≡ true = (and_parts (may_resume s t l count) (is_free_lock s l) enabled).0 in
    IsKept-more d n (resume s t l count (monitor_at s.monitors l)) (kept_resume d n s t l count (monitor_at s.monitors l) k refl (resume_few n (slice_get s.rows t) l count (all_at (RowWithin n) s.rows t k.rows) may))
IsKept-after d n s t (op.Notify l) k enabled =
    kept_as_owner d (n + 1) s t (monitor_at s.monitors l) (λ m. answers (record (set_monitor s l (one_notified m)) { rows = notify_rows s.rows (first_of m.waiters) }) reply.Unit)
    (IsKept-more d n s k)
    (λ m found. kept_notified d (n + 1) (set_monitor s l (one_notified m)) (first_of m.waiters) (kept_monitor d (n + 1) s l (one_notified m) (IsKept-more d n s k) (one_notified_within (n + 1) m (found_within (n + 1) s.monitors l m found (IsKept-more d n s k).monitors))))
IsKept-after d n s t (op.NotifyAll l) k enabled =
    kept_as_owner d (n + 1) s t (monitor_at s.monitors l) (λ m. answers (record (set_monitor s l (all_notified m)) { rows = notify_rows s.rows m.waiters }) reply.Unit)
    (IsKept-more d n s k)
    (λ m found. kept_notified d (n + 1) (set_monitor s l (all_notified m)) m.waiters (kept_monitor d (n + 1) s l (all_notified m) (IsKept-more d n s k) (all_notified_within (n + 1) m (found_within (n + 1) s.monitors l m found (IsKept-more d n s k).monitors))))
IsKept-after d n s t (op.Start target) k enabled = kept_begin d (n + 1) s target (was_started s target.id) (nat_lt (length s.rows) 64) (IsKept-more d n s k) (ltb-true (length s.rows) 64)
IsKept-after d n s t (op.Join obj) k enabled = IsKept-more d n s k
IsKept-after d n s t (op.Print what newline) k enabled = kept_print d (n + 1) s (printed d what newline) (nat_le (length s.output + length (printed d what newline)) 16777216) (IsKept-more d n s k)
IsKept-after d n s t op.Yield k enabled = IsKept-more d n s k
IsKept-after d n s t op.Tick k enabled = IsKept-more d n s k
IsKept-after d n s t op.ThreadEnd k enabled = IsKept-more d n (end_thread s t) (kept_end d n s t (target_of (slice_get s.rows t)) k)
IsKept-after d n s t (op.Fault kind method at) k enabled = record {
  statics = k.statics;
  objects = k.objects;
  classes = k.classes;
  monitors = (IsKept-more d n s k).monitors;
  rows = (IsKept-more d n s k).rows;
  some_thread = k.some_thread;
  few_threads = k.few_threads;
}
