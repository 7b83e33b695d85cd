-- An event adds a thread exactly where it starts one.
use Rattle.std.proofs.Common.{◌≡◌, ℕ, ◌+◌, ◌<◌, ◌≤◌, Bool, true, false, List, [], ◌∷◌, ◌++◌, length, Option, Some, None, refl, arith, ◌∙◌, subst, cond}
use Rattle.std.specs.Prelude.{◌&&◌, pos, map, replicate, slice_get, nat_lt, nat_le}
use Rattle.std.proofs.lemmas.List.{length-set, length-append}
use Rattle.std.proofs.lemmas.Option.{slice_get_within}
use Rattle.vm_model.specs.declared.value.Value.{Value}
use Rattle.vm_model.specs.declared.value.Value.TheVariants as value
use Rattle.vm_model.specs.declared.value.Lock.{Lock}
use Rattle.vm_model.specs.declared.value.ObjRef.{ObjRef}
use Rattle.vm_model.specs.declared.ends.FaultKind.{FaultKind}
use Rattle.vm_model.specs.declared.ends.FaultKind.TheVariants as fault
use Rattle.vm_model.specs.declared.op.Op.{Op}
use Rattle.vm_model.specs.declared.op.Op.TheVariants as op
use Rattle.vm_model.specs.declared.op.Reply.TheVariants as reply
use Rattle.vm_model.specs.declared.op.Entry.{Entry}
use Rattle.vm_model.specs.Program.{PlainProgram}
use Rattle.machine_model.specs.declared.Row.{Row}
use Rattle.machine_model.specs.declared.RowState.{RowState}
use Rattle.machine_model.specs.declared.RowState.TheVariants as row_state
use Rattle.machine_model.specs.declared.Kept.{Kept}
use Rattle.machine_model.specs.Declarations.{Declarations}
use Rattle.machine_model.specs.Kinds.{field_kinds, first_value}
use Rattle.machine_model.specs.Shared.{HeapItem, Monitor, SharedState, all_notified, exited, is_owner, monitor_at, one_notified, waited}
use Rattle.machine_model.specs.Operations.{Applied, answers, apply, as_owner, begin, end_thread, enter, first_of, is_enabled, is_ready, is_ready_row, kept_of, LeadsTo, make, may_resume, may_resume_row, notify_rows, print, release_all, printed, resume, row_in, set_monitor, set_row, was_started, has_room, target_of}
use Rattle.machine_model.specs.Machine.{begun}
use Rattle.projection_laws.proofs.Places.{both}

-- ---- a thread that can do something was started

ready_within : (rows : List Row) (t : ℕ) (o : Option Row) → slice_get rows t ≡ o → is_ready_row o ≡ true → t < length rows
ready_within rows t None at e = absurd (cc)
ready_within rows t (Some row) at e = slice_get_within rows t row at

ready : (s : SharedState) (t : ℕ) (more : Bool) → (is_ready s t && more) ≡ true → t < length s.rows
ready s t more e = ready_within s.rows t (slice_get s.rows t) refl (both (is_ready s t) more e).0

ready_alone : (s : SharedState) (t : ℕ) → is_ready s t ≡ true → t < length s.rows
ready_alone s t e = ready_within s.rows t (slice_get s.rows t) refl e

resumed_within : (rows : List Row) (t : ℕ) (l : Lock) (count : ℕ) (o : Option Row) → slice_get rows t ≡ o → may_resume_row o l count ≡ true → t < length rows
resumed_within rows t l count None at e = absurd (cc)
resumed_within rows t l count (Some row) at e = slice_get_within rows t row at

pub enabled_within : (d : Declarations) (s : SharedState) (t : ℕ) (o : Op) → is_enabled d s t o ≡ true → t < length s.rows
enabled_within d s t (op.Resume l count) e = resumed_within s.rows t l count (slice_get s.rows t) refl (both (may_resume s t l count) _ e).0
enabled_within d s t (op.NewArray len) e = ready_alone s t e
enabled_within d s t op.Yield e = ready_alone s t e
enabled_within d s t op.Tick e = ready_alone s t e
enabled_within d s t op.ThreadEnd e = ready_alone s t e
enabled_within d s t (op.Fault kind method at) e = ready_alone s t e
enabled_within d s t (op.GetStatic slot) e = ready s t _ e
enabled_within d s t (op.PutStatic slot v) e = ready s t _ e
enabled_within d s t (op.GetField o place) e = ready s t _ e
enabled_within d s t (op.PutField o place v) e = ready s t _ e
enabled_within d s t (op.ArrayLoad arr index) e = ready s t _ e
enabled_within d s t (op.ArrayStore arr index n) e = ready s t _ e
enabled_within d s t (op.New class) e = ready s t _ e
enabled_within d s t (op.Enter l) e = ready s t _ e
enabled_within d s t (op.Exit l) e = ready s t _ e
enabled_within d s t (op.Wait l) e = ready s t _ e
enabled_within d s t (op.Notify l) e = ready s t _ e
enabled_within d s t (op.NotifyAll l) e = ready s t _ e
enabled_within d s t (op.Start target) e = ready s t _ e
enabled_within d s t (op.Join obj) e = ready s t _ e
enabled_within d s t (op.Print what newline) e = ready s t _ e

-- ---- rows that change stay as many

set_as_many : (rows : List Row) (t : ℕ) (state : RowState) (kept : Option Kept) → length (set_row rows t state kept) ≡ length rows
set_as_many rows t state kept = length-set rows t (row_in (slice_get rows t) state kept)

notified_as_many : (rows : List Row) (ts : List ℕ) → length (notify_rows rows ts) ≡ length rows
notified_as_many rows [] = refl
notified_as_many rows (t ∷ ts) = notified_as_many (set_row rows t row_state.Notified (kept_of (slice_get rows t))) ts ∙ set_as_many rows t row_state.Notified (kept_of (slice_get rows t))

abbrev AsMany : SharedState → Applied → Type 0
AsMany s applied = length applied.world.rows ≡ length s.rows

as_owner_as_many : (s : SharedState) (t : ℕ) (o : Option Monitor) (go : Monitor → Applied) → ((m : Monitor) → AsMany s (go m)) → AsMany s (as_owner s t o go)
as_owner_as_many s t None go h = refl
as_owner_as_many s t (Some m) go h = by_owner (is_owner m t)
  where
    by_owner : (b : Bool) → AsMany s (cond b (go m) (answers s (reply.Raise fault.MonitorState)))
    by_owner true = h m
    by_owner false = refl

enter_as_many : (s : SharedState) (t : ℕ) (l : Lock) (o : Option Monitor) → length (enter s t l o).rows ≡ length s.rows
enter_as_many s t l None = refl
enter_as_many s t l (Some m) = refl

resume_as_many : (s : SharedState) (t : ℕ) (l : Lock) (count : ℕ) (o : Option Monitor) → length (resume s t l count o).rows ≡ length s.rows
resume_as_many s t l count None = refl
resume_as_many s t l count (Some m) = set_as_many s.rows t row_state.Live None

released_as_many : (s : SharedState) (o : Option ObjRef) → length (release_all s o).rows ≡ length s.rows
released_as_many s None = refl
released_as_many s (Some o) =
    (elim (slice_get s.monitors.objects o.id) as (λ found. slice_get s.monitors.objects o.id ≡ found → length (release_all s (Some o)).rows ≡ length s.rows) [
      | None ↦ λ at. rw at refl
      | Some m ↦ λ at. rw at (notified_as_many s.rows m.waiters)
    ]) refl

ended_as_many : (s : SharedState) (t : ℕ) → length (end_thread s t).rows ≡ length s.rows
ended_as_many s t = set_as_many (release_all s (target_of (slice_get s.rows t))).rows t row_state.Ended None ∙ released_as_many s (target_of (slice_get s.rows t))

made_as_many : (s : SharedState) (item : HeapItem) (v : Value) → AsMany s (make s item v)
made_as_many s item v = by_room (has_room s (1 + length item.words))
  where
    by_room : (b : Bool) → AsMany s (cond b (answers (Rattle.machine_model.specs.Operations.with_item s item) (reply.Made v)) (answers s (reply.Raise fault.HeapFull)))
    by_room true = refl
    by_room false = refl

printed_as_many : (s : SharedState) (bytes : List ℕ) → AsMany s (print s bytes)
printed_as_many s bytes = by_room (nat_le (length s.output + length bytes) 16777216)
  where
    by_room : (b : Bool) → AsMany s (cond b (answers (record s { output = s.output ++ bytes }) reply.Unit) (answers s (reply.Raise fault.OutputFull)))
    by_room true = refl
    by_room false = refl

-- ---- what an event adds

-- as many rows more as states, and where a thread is started, it is the next one
abbrev pub Adds : PlainProgram → Op → SharedState → Applied → Type 0
Adds p o s applied = length applied.world.rows ≡ length s.rows + length (begun p o applied.reply)

none_added : (n m : ℕ) → n ≡ m → n ≡ m + 0
none_added n m e = omega (arith, e)

-- a start: of which thread, if any
pub record Starts (p : PlainProgram) (s : SharedState) (target : ObjRef) (applied : Applied) : Type 0 where
  pub adds : Adds p (op.Start target) s applied
  pub next : (u : ℕ) → applied.reply ≡ reply.Began u → u ≡ length s.rows

raised_began : (k : FaultKind) (u n : ℕ) → reply.Raise k ≡ reply.Began u → u ≡ n
raised_began k u n e = absurd (cc)

began_same : (u v : ℕ) → reply.Began v ≡ reply.Began u → u ≡ v
began_same u v e = cc

begin_starts : (p : PlainProgram) (s : SharedState) (target : ObjRef) → Starts p s target (begin s target)
begin_starts p s target = by_started (was_started s target.id)
  where
    by_room : (b : Bool) → Starts p s target (cond b (answers (record s { rows = s.rows ++ record { state = row_state.Live; target = Some target; kept = None } ∷ [] }) (reply.Began (length s.rows))) (answers s (reply.Raise fault.ThreadsFull)))
    by_room true = record { adds = length-append s.rows (record { state = row_state.Live; target = Some target; kept = None } ∷ []); next = λ u e. began_same u (length s.rows) e }
    by_room false = record { adds = omega arith; next = λ u e. raised_began fault.ThreadsFull u (length s.rows) e }

    by_started : (b : Bool) → Starts p s target (cond b (answers s (reply.Raise fault.ThreadState)) (cond (nat_lt (length s.rows) 64) (answers (record s { rows = s.rows ++ record { state = row_state.Live; target = Some target; kept = None } ∷ [] }) (reply.Began (length s.rows))) (answers s (reply.Raise fault.ThreadsFull))))
    by_started true = record { adds = omega arith; next = λ u e. raised_began fault.ThreadState u (length s.rows) e }
    by_started false = by_room (nat_lt (length s.rows) 64)

pub apply_adds : (p : PlainProgram) (d : Declarations) (s : SharedState) (t : ℕ) (o : Op) → Adds p o s (apply d s t o)
apply_adds p d s t (op.GetStatic slot) = none_added (length (apply d s t (op.GetStatic slot)).world.rows) (length s.rows) refl
apply_adds p d s t (op.PutStatic slot v) = none_added (length (apply d s t (op.PutStatic slot v)).world.rows) (length s.rows) refl
apply_adds p d s t (op.GetField o place) = none_added (length (apply d s t (op.GetField o place)).world.rows) (length s.rows) refl
apply_adds p d s t (op.PutField o place v) = none_added (length (apply d s t (op.PutField o place v)).world.rows) (length s.rows) refl
apply_adds p d s t (op.ArrayLoad arr index) = none_added (length (apply d s t (op.ArrayLoad arr index)).world.rows) (length s.rows) refl
apply_adds p d s t (op.ArrayStore arr index n) = none_added (length (apply d s t (op.ArrayStore arr index n)).world.rows) (length s.rows) refl
apply_adds p d s t (op.New class) = none_added (length (apply d s t (op.New class)).world.rows) (length s.rows) (made_as_many s (record { class = Some class; words = map first_value (field_kinds d class) }) (value.Obj (length s.heap) class))
apply_adds p d s t (op.NewArray len) = none_added (length (apply d s t (op.NewArray len)).world.rows) (length s.rows) (made_as_many s (record { class = None; words = replicate len (value.Int (pos 0)) }) (value.Arr (length s.heap) len))
apply_adds p d s t (op.Enter l) = none_added (length (apply d s t (op.Enter l)).world.rows) (length s.rows) (enter_as_many s t l (monitor_at s.monitors l))
apply_adds p d s t (op.Exit l) = none_added (length (apply d s t (op.Exit l)).world.rows) (length s.rows) (as_owner_as_many s t (monitor_at s.monitors l) (λ m. answers (set_monitor s l (exited m)) reply.Unit) (λ m. refl))
apply_adds p d s t (op.Wait l) = none_added (length (apply d s t (op.Wait l)).world.rows) (length s.rows) (as_owner_as_many s t (monitor_at s.monitors l) (λ m. answers (record (set_monitor s l (waited m t)) { rows = set_row s.rows t row_state.Waiting (Some (record { lock = l; count = m.count })) }) (reply.Waits m.count)) (λ m. set_as_many s.rows t row_state.Waiting (Some (record { lock = l; count = m.count }))))
apply_adds p d s t (op.Resume l count) = none_added (length (apply d s t (op.Resume l count)).world.rows) (length s.rows) (resume_as_many s t l count (monitor_at s.monitors l))
apply_adds p d s t (op.Notify l) = none_added (length (apply d s t (op.Notify l)).world.rows) (length s.rows) (as_owner_as_many s t (monitor_at s.monitors l) (λ m. answers (record (set_monitor s l (one_notified m)) { rows = notify_rows s.rows (first_of m.waiters) }) reply.Unit) (λ m. notified_as_many s.rows (first_of m.waiters)))
apply_adds p d s t (op.NotifyAll l) = none_added (length (apply d s t (op.NotifyAll l)).world.rows) (length s.rows) (as_owner_as_many s t (monitor_at s.monitors l) (λ m. answers (record (set_monitor s l (all_notified m)) { rows = notify_rows s.rows m.waiters }) reply.Unit) (λ m. notified_as_many s.rows m.waiters))
apply_adds p d s t (op.Start target) = (begin_starts p s target).adds
apply_adds p d s t (op.Join obj) = none_added (length (apply d s t (op.Join obj)).world.rows) (length s.rows) refl
apply_adds p d s t (op.Print what newline) = none_added (length (apply d s t (op.Print what newline)).world.rows) (length s.rows) (printed_as_many s (printed d what newline))
apply_adds p d s t op.Yield = none_added (length (apply d s t op.Yield).world.rows) (length s.rows) refl
apply_adds p d s t op.Tick = none_added (length (apply d s t op.Tick).world.rows) (length s.rows) refl
apply_adds p d s t op.ThreadEnd = none_added (length (apply d s t op.ThreadEnd).world.rows) (length s.rows) (ended_as_many s t)
apply_adds p d s t (op.Fault kind method at) = none_added (length (apply d s t (op.Fault kind method at)).world.rows) (length s.rows) refl

-- the number that a start gives is the next one
pub apply_next : (p : PlainProgram) (d : Declarations) (s : SharedState) (t : ℕ) (target : ObjRef) (u : ℕ) → (apply d s t (op.Start target)).reply ≡ reply.Began u → u ≡ length s.rows
apply_next p d s t target u e = (begin_starts p s target).next u e

-- no thread goes away
pub rows_grow : (p : PlainProgram) (d : Declarations) (s end : SharedState) (h : List Entry) → LeadsTo d s h end → length s.rows ≤ length end.rows
rows_grow p d s end [] lead = subst (λ (x : SharedState). length s.rows ≤ length x.rows) lead (omega arith)
rows_grow p d s end (e ∷ es) lead =
    let more = rows_grow p d (apply d s e.thread e.op).world end es lead.3 in
    omega (arith, more, apply_adds p d s e.thread e.op)
