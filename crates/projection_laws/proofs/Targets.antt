-- The object that a thread was started for stands in the thread's row, and in the start in the history.
use Rattle.std.proofs.Common.{◌≡◌, ◌≢◌, ◌⊎◌, ℕ, zero, suc, ◌+◌, ◌<◌, ◌≤◌, Bool, true, false, List, [], ◌∷◌, ◌++◌, length, Option, Some, None, refl, sym, ap, inl, inr, ⊎_elim, arith, ◌∙◌, subst, cond, eqb-true, eq-eqb, ne_eqb}
use Rattle.std.specs.Prelude.{◌&&◌, ◌==◌, pos, map, replicate, slice_get, slice_set, nat_lt, nat_le}
use mathlib.Core.Logic.{dite}
use native.Mathlib.Decide.{ℕ_discrete}
use Rattle.vm_model.specs.declared.value.Value.{Value}
use Rattle.vm_model.specs.declared.value.Value.TheVariants as value
use Rattle.vm_model.specs.declared.value.Lock.{Lock}
use Rattle.vm_model.specs.declared.value.ObjRef.{ObjRef}
use Rattle.vm_model.specs.declared.ends.FaultKind.TheVariants as fault
use Rattle.vm_model.specs.declared.op.Op.{Op}
use Rattle.vm_model.specs.declared.op.Op.TheVariants as op
use Rattle.vm_model.specs.declared.op.Reply.{Reply}
use Rattle.vm_model.specs.declared.op.Reply.TheVariants as reply
use Rattle.vm_model.specs.declared.op.Entry.{Entry}
use Rattle.machine_model.specs.declared.Row.{Row}
use Rattle.machine_model.specs.declared.RowState.{RowState}
use Rattle.machine_model.specs.declared.RowState.TheVariants as row_state
use Rattle.machine_model.specs.declared.Kept.{Kept}
use Rattle.machine_model.specs.Declarations.{Declarations}
use Rattle.machine_model.specs.Kinds.{field_kinds, first_value, is_thread_class}
use Rattle.machine_model.specs.Shared.{HeapItem, Monitor, SharedState, all_notified, exited, is_owner, monitor_at, one_notified, waited, start}
use Rattle.machine_model.specs.Operations.{Applied, answers, apply, as_owner, begin, end_thread, enter, first_of, is_enabled, is_object, is_ready, kept_of, LeadsTo, IsLegalHistory, make, notify_rows, print, release_all, printed, resume, row_in, set_monitor, set_row, was_started, has_room, target_of}
use Rattle.projection_laws.proofs.Places.{both, none_some, some_same}
use Rattle.projection_laws.specs.Projections.{target_by, target_or, target_in}

-- ---- rows that keep their objects

abbrev SameTargets : List Row → List Row → Type 0
SameTargets rows new = (u : ℕ) → target_of (slice_get new u) ≡ target_of (slice_get rows u)

set_same : (rows : List Row) (t : ℕ) (row : Row) → row.target ≡ target_of (slice_get rows t) → SameTargets rows (slice_set rows t row)
set_same [] t row e u = refl
set_same (r ∷ rows) zero row e zero = e
set_same (r ∷ rows) zero row e (suc u) = refl
set_same (r ∷ rows) (suc t) row e zero = refl
set_same (r ∷ rows) (suc t) row e (suc u) = set_same rows t row e u

row_same : (o : Option Row) (state : RowState) (kept : Option Kept) → (row_in o state kept).target ≡ target_of o
row_same None state kept = refl
row_same (Some row) state kept = refl

set_row_same : (rows : List Row) (t : ℕ) (state : RowState) (kept : Option Kept) → SameTargets rows (set_row rows t state kept)
set_row_same rows t state kept = set_same rows t (row_in (slice_get rows t) state kept) (row_same (slice_get rows t) state kept)

notified_same : (rows : List Row) (ts : List ℕ) → SameTargets rows (notify_rows rows ts)
notified_same rows [] u = refl
notified_same rows (t ∷ ts) u = notified_same (set_row rows t row_state.Notified (kept_of (slice_get rows t))) ts u ∙ set_row_same rows t row_state.Notified (kept_of (slice_get rows t)) u

abbrev Same : SharedState → SharedState → Type 0
Same s new = SameTargets s.rows new.rows

as_owner_same : (s : SharedState) (t : ℕ) (o : Option Monitor) (go : Monitor → Applied) → ((m : Monitor) → Same s (go m).world) → Same s (as_owner s t o go).world
as_owner_same s t None go h u = refl
as_owner_same s t (Some m) go h u = by_owner (is_owner m t)
  where
    by_owner : (b : Bool) → target_of (slice_get (cond b (go m) (answers s (reply.Raise fault.MonitorState))).world.rows u) ≡ target_of (slice_get s.rows u)
    by_owner true = h m u
    by_owner false = refl

enter_same : (s : SharedState) (t : ℕ) (l : Lock) (o : Option Monitor) → Same s (enter s t l o)
enter_same s t l None u = refl
enter_same s t l (Some m) u = refl

resume_same : (s : SharedState) (t : ℕ) (l : Lock) (count : ℕ) (o : Option Monitor) → Same s (resume s t l count o)
resume_same s t l count None u = refl
resume_same s t l count (Some m) u = set_row_same s.rows t row_state.Live None u

released_same : (s : SharedState) (o : Option ObjRef) → Same s (release_all s o)
released_same s None u = refl
released_same s (Some o) u =
    (elim (slice_get s.monitors.objects o.id) as (λ found. slice_get s.monitors.objects o.id ≡ found → target_of (slice_get (release_all s (Some o)).rows u) ≡ target_of (slice_get s.rows u)) [
      | None ↦ λ at. rw at refl
      | Some m ↦ λ at. rw at (notified_same s.rows m.waiters u)
    ]) refl

ended_same : (s : SharedState) (t : ℕ) → Same s (end_thread s t)
ended_same s t u = set_row_same (release_all s (target_of (slice_get s.rows t))).rows t row_state.Ended None u ∙ released_same s (target_of (slice_get s.rows t)) u

made_same : (s : SharedState) (item : HeapItem) (v : Value) → Same s (make s item v).world
made_same s item v u = by_room (has_room s (1 + length item.words))
  where
    by_room : (b : Bool) → target_of (slice_get (cond b (answers (Rattle.machine_model.specs.Operations.with_item s item) (reply.Made v)) (answers s (reply.Raise fault.HeapFull))).world.rows u) ≡ target_of (slice_get s.rows u)
    by_room true = refl
    by_room false = refl

printed_same : (s : SharedState) (bytes : List ℕ) → Same s (print s bytes).world
printed_same s bytes u = by_room (nat_le (length s.output + length bytes) 16777216)
  where
    by_room : (b : Bool) → target_of (slice_get (cond b (answers (record s { output = s.output ++ bytes }) reply.Unit) (answers s (reply.Raise fault.OutputFull))).world.rows u) ≡ target_of (slice_get s.rows u)
    by_room true = refl
    by_room false = refl

-- ---- what an event adds

or_none : (x : Option ObjRef) → x ≡ target_or x None
or_none None = refl
or_none (Some target) = refl

or_or : (x y z : Option ObjRef) → target_or (target_or x y) z ≡ target_or x (target_or y z)
or_or None y z = refl
or_or (Some target) y z = refl

-- the objects are those that stood in the rows, and that of the thread that is started
abbrev Adds : Op → SharedState → Applied → Type 0
Adds o s applied = (u : ℕ) → target_of (slice_get applied.world.rows u) ≡ target_or (target_of (slice_get s.rows u)) (target_by o applied.reply u)

same_behind : (a b c : ℕ) → c ≡ suc a → (a == b) ≡ (c == suc b)
same_behind a b c is = dite (ℕ_discrete a b)
    (λ e. eq-eqb a b e ∙ sym (eq-eqb c (suc b) (omega arith)))
    (λ n. ne_eqb a b n ∙ sym (ne_eqb c (suc b) (λ h. n (omega arith))))

-- a row more, at its end
more_row : (rows : List Row) (row : Row) (target : ObjRef) → row.target ≡ Some target → (u : ℕ)
    → target_of (slice_get (rows ++ row ∷ []) u) ≡ target_or (target_of (slice_get rows u)) (cond (length rows == u) (Some target) None)
more_row [] row target e zero = e
more_row [] row target e (suc u) = sym (ap (λ (b : Bool). cond b (Some target) None) (ne_eqb 0 (suc u) (λ h. omega arith)))
more_row (r ∷ rows) row target e zero =
    or_none r.target ∙ sym (ap (λ (b : Bool). target_or r.target (cond b (Some target) None)) (ne_eqb (length (r ∷ rows)) 0 (λ h. omega arith)))
more_row (r ∷ rows) row target e (suc u) =
    more_row rows row target e u ∙ ap (λ (b : Bool). target_or (target_of (slice_get rows u)) (cond b (Some target) None)) (same_behind (length rows) u (length (r ∷ rows)) (omega arith))

begin_adds : (s : SharedState) (target : ObjRef) → Adds (op.Start target) s (begin s target)
begin_adds s target u = by_started (was_started s target.id)
  where
    by_room : (b : Bool) → target_of (slice_get (cond b (answers (record s { rows = s.rows ++ record { state = row_state.Live; target = Some target; kept = None } ∷ [] }) (reply.Began (length s.rows))) (answers s (reply.Raise fault.ThreadsFull))).world.rows u)
        ≡ target_or (target_of (slice_get s.rows u)) (target_by (op.Start target) (cond b (answers (record s { rows = s.rows ++ record { state = row_state.Live; target = Some target; kept = None } ∷ [] }) (reply.Began (length s.rows))) (answers s (reply.Raise fault.ThreadsFull))).reply u)
    by_room true = more_row s.rows (record { state = row_state.Live; target = Some target; kept = None }) target refl u
    by_room false = or_none (target_of (slice_get s.rows u))

    by_started : (b : Bool) → target_of (slice_get (cond b (answers s (reply.Raise fault.ThreadState)) (cond (nat_lt (length s.rows) 64) (answers (record s { rows = s.rows ++ record { state = row_state.Live; target = Some target; kept = None } ∷ [] }) (reply.Began (length s.rows))) (answers s (reply.Raise fault.ThreadsFull)))).world.rows u)
        ≡ target_or (target_of (slice_get s.rows u)) (target_by (op.Start target) (cond b (answers s (reply.Raise fault.ThreadState)) (cond (nat_lt (length s.rows) 64) (answers (record s { rows = s.rows ++ record { state = row_state.Live; target = Some target; kept = None } ∷ [] }) (reply.Began (length s.rows))) (answers s (reply.Raise fault.ThreadsFull)))).reply u)
    by_started true = or_none (target_of (slice_get s.rows u))
    by_started false = by_room (nat_lt (length s.rows) 64)

same_adds : (s new : SharedState) → Same s new → (u : ℕ) → target_of (slice_get new.rows u) ≡ target_or (target_of (slice_get s.rows u)) None
same_adds s new h u = h u ∙ or_none (target_of (slice_get s.rows u))

pub apply_adds : (d : Declarations) (s : SharedState) (t : ℕ) (o : Op) → Adds o s (apply d s t o)
apply_adds d s t (op.GetStatic slot) = same_adds s (apply d s t (op.GetStatic slot)).world (λ u. refl)
apply_adds d s t (op.PutStatic slot v) = same_adds s (apply d s t (op.PutStatic slot v)).world (λ u. refl)
apply_adds d s t (op.GetField o place) = same_adds s (apply d s t (op.GetField o place)).world (λ u. refl)
apply_adds d s t (op.PutField o place v) = same_adds s (apply d s t (op.PutField o place v)).world (λ u. refl)
apply_adds d s t (op.ArrayLoad arr index) = same_adds s (apply d s t (op.ArrayLoad arr index)).world (λ u. refl)
apply_adds d s t (op.ArrayStore arr index n) = same_adds s (apply d s t (op.ArrayStore arr index n)).world (λ u. refl)
apply_adds d s t (op.New class) = same_adds s (apply d s t (op.New class)).world (made_same s (record { class = Some class; words = map first_value (field_kinds d class) }) (value.Obj (length s.heap) class))
apply_adds d s t (op.NewArray len) = same_adds s (apply d s t (op.NewArray len)).world (made_same s (record { class = None; words = replicate len (value.Int (pos 0)) }) (value.Arr (length s.heap) len))
apply_adds d s t (op.Enter l) = same_adds s (apply d s t (op.Enter l)).world (enter_same s t l (monitor_at s.monitors l))
apply_adds d s t (op.Exit l) = same_adds s (apply d s t (op.Exit l)).world (as_owner_same s t (monitor_at s.monitors l) (λ m. answers (set_monitor s l (exited m)) reply.Unit) (λ m u. refl))
apply_adds d s t (op.Wait l) =
    same_adds s (apply d s t (op.Wait l)).world (as_owner_same s t (monitor_at s.monitors l)
    (λ m. answers (record (set_monitor s l (waited m t)) { rows = set_row s.rows t row_state.Waiting (Some (record { lock = l; count = m.count })) }) (reply.Waits m.count))
    (λ m u. set_row_same s.rows t row_state.Waiting (Some (record { lock = l; count = m.count })) u))
apply_adds d s t (op.Resume l count) = same_adds s (apply d s t (op.Resume l count)).world (resume_same s t l count (monitor_at s.monitors l))
apply_adds d s t (op.Notify l) =
    same_adds s (apply d s t (op.Notify l)).world (as_owner_same s t (monitor_at s.monitors l)
    (λ m. answers (record (set_monitor s l (one_notified m)) { rows = notify_rows s.rows (first_of m.waiters) }) reply.Unit) (λ m u. notified_same s.rows (first_of m.waiters) u))
apply_adds d s t (op.NotifyAll l) =
    same_adds s (apply d s t (op.NotifyAll l)).world (as_owner_same s t (monitor_at s.monitors l)
    (λ m. answers (record (set_monitor s l (all_notified m)) { rows = notify_rows s.rows m.waiters }) reply.Unit) (λ m u. notified_same s.rows m.waiters u))
apply_adds d s t (op.Start target) = begin_adds s target
apply_adds d s t (op.Join obj) = same_adds s (apply d s t (op.Join obj)).world (λ u. refl)
apply_adds d s t (op.Print what newline) = same_adds s (apply d s t (op.Print what newline)).world (printed_same s (printed d what newline))
apply_adds d s t op.Yield = same_adds s (apply d s t op.Yield).world (λ u. refl)
apply_adds d s t op.Tick = same_adds s (apply d s t op.Tick).world (λ u. refl)
apply_adds d s t op.ThreadEnd = same_adds s (apply d s t op.ThreadEnd).world (ended_same s t)
apply_adds d s t (op.Fault kind method at) = same_adds s (apply d s t (op.Fault kind method at)).world (λ u. refl)

-- ---- over a history

pub target_so : (d : Declarations) (s end : SharedState) (h : List Entry) → LeadsTo d s h end → (u : ℕ) → target_of (slice_get end.rows u) ≡ target_or (target_of (slice_get s.rows u)) (target_in h u)
target_so d s end [] lead u = subst (λ (x : SharedState). target_of (slice_get x.rows u) ≡ target_or (target_of (slice_get s.rows u)) None) lead (or_none (target_of (slice_get s.rows u)))
target_so d s end (e ∷ es) lead u =
    target_so d (apply d s e.thread e.op).world end es lead.3 u
    ∙ ap (λ x. target_or x (target_in es u)) (apply_adds d s e.thread e.op u ∙ ap (λ r. target_or (target_of (slice_get s.rows u)) (target_by e.op r u)) lead.2)
    ∙ or_or (target_of (slice_get s.rows u)) (target_by e.op e.reply u) (target_in es u)

none_at_start : (d : Declarations) (u : ℕ) → target_of (slice_get (start d).rows u) ≡ None
none_at_start d zero = refl
none_at_start d (suc u) = refl

-- the object of a thread is the one of the start that began the thread
pub legal_target : (d : Declarations) (h : List Entry) (s : SharedState) → IsLegalHistory d h s → (u : ℕ) → target_of (slice_get s.rows u) ≡ target_in h u
legal_target d h s legal u = target_so d (start d) s h legal u ∙ ap (λ x. target_or x (target_in h u)) (none_at_start d u)

-- ---- what is started is a thread object

-- what one event starts is an object of a thread class
event_class : (d : Declarations) (s : SharedState) (t : ℕ) (o : Op) (r : Reply) (u : ℕ) (target : ObjRef) → is_enabled d s t o ≡ true → target_by o r u ≡ Some target → is_thread_class d target.class ≡ true
event_class d s t (op.Start started) (reply.Began v) u target on e = by_number (v == u) e
  where
    by_number : (b : Bool) → cond b (Some started) None ≡ Some target → is_thread_class d target.class ≡ true
    by_number true h = ap (λ (x : ObjRef). is_thread_class d x.class) (sym (some_same started target h)) ∙ (both (is_object s started) (is_thread_class d started.class) (both (is_ready s t) _ on).1).1
    by_number false h = absurd (none_some target h)
event_class d s t o r u target on e = absurd (cc)

or_cases : (x y : Option ObjRef) (target : ObjRef) → target_or x y ≡ Some target → (x ≡ Some target) ⊎ (y ≡ Some target)
or_cases None y target e = inr e
or_cases (Some z) y target e = inl e

pub leads_class : (d : Declarations) (s end : SharedState) (h : List Entry) → LeadsTo d s h end → (u : ℕ) (target : ObjRef) → target_in h u ≡ Some target → is_thread_class d target.class ≡ true
leads_class d s end [] lead u target e = absurd (none_some target e)
leads_class d s end (e ∷ es) lead u target is = ⊎_elim
    (λ h. event_class d s e.thread e.op e.reply u target lead.1 h)
    (λ h. leads_class d (apply d s e.thread e.op).world end es lead.3 u target h)
    (or_cases (target_by e.op e.reply u) (target_in es u) target is)

pub legal_class : (d : Declarations) (h : List Entry) (s : SharedState) → IsLegalHistory d h s → (u : ℕ) (target : ObjRef) → target_in h u ≡ Some target → is_thread_class d target.class ≡ true
legal_class d h s legal = leads_class d (start d) s h legal
