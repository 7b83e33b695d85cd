-- What the events of a legal history name.
use Rattle.std.proofs.Common.{◌≡◌, ℕ, ◌+◌, ◌<◌, ◌≤◌, Bool, true, false, List, [], ◌∷◌, ◌++◌, length, get_or, Option, Some, None, refl, ◌∙◌, arith, subst, cond}
use Rattle.std.specs.Prelude.{All, slice_get, nat_lt, nat_le, map, replicate, pos, ◌&&◌}
use Rattle.std.proofs.lemmas.Bool.{ltb-true}
use Rattle.std.proofs.lemmas.List.{length-set, length-map}
use Rattle.std.proofs.lemmas.List.Elements.{All-nil, All-cons}
use Rattle.vm_model.specs.declared.value.Value.{Value}
use Rattle.vm_model.specs.declared.value.Value.TheVariants as value
use Rattle.vm_model.specs.declared.value.Lock.{Lock}
use Rattle.vm_model.specs.declared.value.ObjRef.{ObjRef}
use Rattle.vm_model.specs.declared.ends.FaultKind.TheVariants as fault
use Rattle.vm_model.specs.declared.op.Op.{Op}
use Rattle.vm_model.specs.declared.op.Op.TheVariants as op
use Rattle.vm_model.specs.declared.op.Reply.TheVariants as reply
use Rattle.vm_model.specs.declared.op.Entry.{Entry}
use Rattle.vm_model.specs.declared.program.StaticSlot.{StaticSlot}
use Rattle.vm_model.specs.Program.{PlainProgram}
use Rattle.machine_model.specs.declared.RowState.TheVariants as row_state
use Rattle.machine_model.specs.Declarations.{Declarations}
use Rattle.machine_model.specs.Kinds.{field_kinds, first_value}
use Rattle.machine_model.specs.Shared.{HeapItem, Monitor, SharedState, all_notified, exited, is_owner, monitor_at, one_notified, start, start_of_slot, waited}
use Rattle.machine_model.specs.Operations.{Applied, LeadsTo, IsLegalHistory, answers, apply, as_owner, begin, enter, first_of, has_room, is_enabled, is_ready, make, notify_rows, print, printed, release_all, resume, set_monitor, set_row, target_of, was_started, with_item}
use Rattle.projection_laws.proofs.Places.{both}
use Rattle.projection_laws.proofs.Rows.{enabled_within, rows_grow}
use Rattle.race_report.specs.declared.place.Place.{Place}
use Rattle.race_report.specs.declared.place.Place.TheVariants as place
use Rattle.race_report.specs.declared.race.Race.{Race}
use Rattle.race_report.specs.Races.{IsDeclared, IsRace, IsReport, place_of}
use Rattle.race_report.proofs.Giving.{held_at}

-- ---- threads

any_program : PlainProgram
any_program = record { classes = []; methods = []; statics = []; texts = []; main = 0 }

pub of_threads : (d : Declarations) (s end : SharedState) (history : List Entry) → LeadsTo d s history end → All (λ e. e.thread < length end.rows) history
of_threads d s end [] lead = All-nil (λ e. e.thread < length end.rows)
of_threads d s end (e ∷ es) lead =
    let here : e.thread < length s.rows = enabled_within d s e.thread e.op lead.1 in
    let grow : length s.rows ≤ length end.rows = rows_grow any_program d s end (e ∷ es) lead in
    All-cons (λ x. x.thread < length end.rows) e es (omega (arith, here, grow)) (of_threads d (apply d s e.thread e.op).world end es lead.3)

-- so they are below each bound on these
pub threads_below : (d : Declarations) (history : List Entry) (s : SharedState) (most : ℕ) → IsLegalHistory d history s → length s.rows ≤ most → All (λ e. e.thread < most) history
threads_below d history s most legal few k e within =
    let below : (get_or history k e).thread < length s.rows = of_threads d (start d) s history legal k e within in
    omega (arith, below, few)

-- ---- statics stay as many

abbrev AsMany : SharedState → Applied → Type 0
AsMany s applied = length applied.world.statics ≡ length s.statics

as_owner_as_many : (s : SharedState) (t : ℕ) (o : Option Monitor) (go : Monitor → Applied) → ((m : Monitor) → AsMany s (go m)) → AsMany s (as_owner s t o go)
as_owner_as_many s t None go h = refl
as_owner_as_many s t (Some m) go h = by_owner (is_owner m t)
  where
    by_owner : (b : Bool) → AsMany s (cond b (go m) (answers s (reply.Raise fault.MonitorState)))
    by_owner true = h m
    by_owner false = refl

enter_as_many : (s : SharedState) (t : ℕ) (l : Lock) (o : Option Monitor) → length (enter s t l o).statics ≡ length s.statics
enter_as_many s t l None = refl
enter_as_many s t l (Some m) = refl

resume_as_many : (s : SharedState) (t : ℕ) (l : Lock) (count : ℕ) (o : Option Monitor) → length (resume s t l count o).statics ≡ length s.statics
resume_as_many s t l count None = refl
resume_as_many s t l count (Some m) = refl

released_as_many : (s : SharedState) (o : Option ObjRef) → length (release_all s o).statics ≡ length s.statics
released_as_many s None = refl
released_as_many s (Some o) =
    (elim (slice_get s.monitors.objects o.id) as (λ found. slice_get s.monitors.objects o.id ≡ found → length (release_all s (Some o)).statics ≡ length s.statics) [
      | None ↦ λ at. rw at refl
      | Some m ↦ λ at. rw at refl
    ]) refl

made_as_many : (s : SharedState) (item : HeapItem) (v : Value) → AsMany s (make s item v)
made_as_many s item v = by_room (has_room s (1 + length item.words))
  where
    by_room : (b : Bool) → AsMany s (cond b (answers (with_item s item) (reply.Made v)) (answers s (reply.Raise fault.HeapFull)))
    by_room true = refl
    by_room false = refl

printed_as_many : (s : SharedState) (bytes : List ℕ) → AsMany s (print s bytes)
printed_as_many s bytes = by_room (nat_le (length s.output + length bytes) 16777216)
  where
    by_room : (b : Bool) → AsMany s (cond b (answers (record s { output = s.output ++ bytes }) reply.Unit) (answers s (reply.Raise fault.OutputFull)))
    by_room true = refl
    by_room false = refl

begin_as_many : (s : SharedState) (target : ObjRef) → AsMany s (begin s target)
begin_as_many s target = by_started (was_started s target.id)
  where
    begun : Applied
    begun = answers (record s { rows = s.rows ++ record { state = row_state.Live; target = Some target; kept = None } ∷ [] }) (reply.Began (length s.rows))

    by_room : (b : Bool) → AsMany s (cond b begun (answers s (reply.Raise fault.ThreadsFull)))
    by_room true = refl
    by_room false = refl

    by_started : (b : Bool) → AsMany s (cond b (answers s (reply.Raise fault.ThreadState)) (cond (nat_lt (length s.rows) 64) begun (answers s (reply.Raise fault.ThreadsFull))))
    by_started true = refl
    by_started false = by_room (nat_lt (length s.rows) 64)

apply_as_many : (d : Declarations) (s : SharedState) (t : ℕ) (o : Op) → AsMany s (apply d s t o)
apply_as_many d s t (op.GetStatic slot) = refl
apply_as_many d s t (op.PutStatic slot v) = length-set s.statics slot v
apply_as_many d s t (op.GetField o p) = refl
apply_as_many d s t (op.PutField o p v) = refl
apply_as_many d s t (op.ArrayLoad arr index) = refl
apply_as_many d s t (op.ArrayStore arr index n) = refl
apply_as_many d s t (op.New class) = made_as_many s (record { class = Some class; words = map first_value (field_kinds d class) }) (value.Obj (length s.heap) class)
apply_as_many d s t (op.NewArray len) = made_as_many s (record { class = None; words = replicate len (value.Int (pos 0)) }) (value.Arr (length s.heap) len)
apply_as_many d s t (op.Enter l) = enter_as_many s t l (monitor_at s.monitors l)
apply_as_many d s t (op.Exit l) = as_owner_as_many s t (monitor_at s.monitors l) (λ m. answers (set_monitor s l (exited m)) reply.Unit) (λ m. refl)
apply_as_many d s t (op.Wait l) = as_owner_as_many s t (monitor_at s.monitors l) (λ m. answers (record (set_monitor s l (waited m t)) { rows = set_row s.rows t row_state.Waiting (Some (record { lock = l; count = m.count })) }) (reply.Waits m.count)) (λ m. refl)
apply_as_many d s t (op.Resume l count) = resume_as_many s t l count (monitor_at s.monitors l)
apply_as_many d s t (op.Notify l) = as_owner_as_many s t (monitor_at s.monitors l) (λ m. answers (record (set_monitor s l (one_notified m)) { rows = notify_rows s.rows (first_of m.waiters) }) reply.Unit) (λ m. refl)
apply_as_many d s t (op.NotifyAll l) = as_owner_as_many s t (monitor_at s.monitors l) (λ m. answers (record (set_monitor s l (all_notified m)) { rows = notify_rows s.rows m.waiters }) reply.Unit) (λ m. refl)
apply_as_many d s t (op.Start target) = begin_as_many s target
apply_as_many d s t (op.Join obj) = refl
apply_as_many d s t (op.Print what newline) = printed_as_many s (printed d what newline)
apply_as_many d s t op.Yield = refl
apply_as_many d s t op.Tick = refl
apply_as_many d s t op.ThreadEnd = released_as_many s (target_of (slice_get s.rows t))
apply_as_many d s t (op.Fault kind method at) = refl

-- ---- what is accessed

-- what an operation accesses is declared
abbrev AccessIsDeclared : Declarations → Op → Type 0
AccessIsDeclared d o = (at : Place) → place_of o ≡ Some at → IsDeclared d.statics at

below_many : (d : Declarations) (s : SharedState) (t slot : ℕ) (more : Bool) → length s.statics ≡ length d.statics → (is_ready s t && (nat_lt slot (length s.statics) && more)) ≡ true → slot < length d.statics
below_many d s t slot more many enabled =
    let less : slot < length s.statics = ltb-true slot (length s.statics) (both (nat_lt slot (length s.statics)) more (both (is_ready s t) (nat_lt slot (length s.statics) && more) enabled).1).0 in
    omega (arith, less, many)

static_is : (d : Declarations) (slot : ℕ) (at : Place) → slot < length d.statics → ◌≡◌ {A = Option Place} (Some (place.Static slot)) (Some at) → IsDeclared d.statics at
static_is d slot at below e = subst (IsDeclared d.statics) (some_place (place.Static slot) at e) below
  where
    some_place : (p q : Place) → ◌≡◌ {A = Option Place} (Some p) (Some q) → p ≡ q
    some_place p q e = cc

access_declared : (d : Declarations) (s : SharedState) (t : ℕ) (o : Op) → length s.statics ≡ length d.statics → is_enabled d s t o ≡ true → AccessIsDeclared d o
access_declared d s t (op.GetStatic slot) many enabled at e =
    let less : slot < length s.statics = ltb-true slot (length s.statics) (both (is_ready s t) (nat_lt slot (length s.statics)) enabled).1 in
    static_is d slot at (omega (arith, less, many)) e
access_declared d s t (op.PutStatic slot v) many enabled at e = static_is d slot at (below_many d s t slot _ many enabled) e
access_declared d s t (op.GetField o p) many enabled (place.Static slot) e = absurd (cc)
access_declared d s t (op.GetField o p) many enabled (place.Field obj q) e = tt
access_declared d s t (op.GetField o p) many enabled (place.Item arr q) e = tt
access_declared d s t (op.PutField o p v) many enabled (place.Static slot) e = absurd (cc)
access_declared d s t (op.PutField o p v) many enabled (place.Field obj q) e = tt
access_declared d s t (op.PutField o p v) many enabled (place.Item arr q) e = tt
access_declared d s t (op.ArrayLoad arr index) many enabled (place.Static slot) e = absurd (cc)
access_declared d s t (op.ArrayLoad arr index) many enabled (place.Field obj q) e = tt
access_declared d s t (op.ArrayLoad arr index) many enabled (place.Item a q) e = tt
access_declared d s t (op.ArrayStore arr index n) many enabled (place.Static slot) e = absurd (cc)
access_declared d s t (op.ArrayStore arr index n) many enabled (place.Field obj q) e = tt
access_declared d s t (op.ArrayStore arr index n) many enabled (place.Item a q) e = tt
access_declared d s t (op.New class) many enabled at e = absurd (cc)
access_declared d s t (op.NewArray len) many enabled at e = absurd (cc)
access_declared d s t (op.Enter l) many enabled at e = absurd (cc)
access_declared d s t (op.Exit l) many enabled at e = absurd (cc)
access_declared d s t (op.Wait l) many enabled at e = absurd (cc)
access_declared d s t (op.Resume l count) many enabled at e = absurd (cc)
access_declared d s t (op.Notify l) many enabled at e = absurd (cc)
access_declared d s t (op.NotifyAll l) many enabled at e = absurd (cc)
access_declared d s t (op.Start target) many enabled at e = absurd (cc)
access_declared d s t (op.Join obj) many enabled at e = absurd (cc)
access_declared d s t (op.Print what newline) many enabled at e = absurd (cc)
access_declared d s t op.Yield many enabled at e = absurd (cc)
access_declared d s t op.Tick many enabled at e = absurd (cc)
access_declared d s t op.ThreadEnd many enabled at e = absurd (cc)
access_declared d s t (op.Fault kind method n) many enabled at e = absurd (cc)

accesses_declared : (d : Declarations) (s end : SharedState) (history : List Entry) → length s.statics ≡ length d.statics → LeadsTo d s history end → All (λ e. AccessIsDeclared d e.op) history
accesses_declared d s end [] many lead = All-nil (λ e. AccessIsDeclared d e.op)
accesses_declared d s end (e ∷ es) many lead =
    All-cons (λ x. AccessIsDeclared d x.op) e es (access_declared d s e.thread e.op many lead.1)
    (accesses_declared d (apply d s e.thread e.op).world end es (apply_as_many d s e.thread e.op ∙ many) lead.3)

pub races_declared : (d : Declarations) (history : List Entry) (s : SharedState) (found : List Race) → IsLegalHistory d history s → IsReport history found → All (λ r. IsDeclared d.statics r.place) found
races_declared d history s found legal report i r within =
    let race : IsRace history (get_or found i r).place (get_or found i r).first (get_or found i r).second = (report.sound i r within).race in
    let h : ((get_or found i r).first < length history) × (get_or history (get_or found i r).first race.first ≡ race.first) = held_at history (get_or found i r).first race.first race.at_first in
    let declared : AccessIsDeclared d race.first.op =
    subst (λ (x : Entry). AccessIsDeclared d x.op) h.1 (accesses_declared d (start d) s history (length-map d.statics start_of_slot) legal (get_or found i r).first race.first h.0) in
    declared (get_or found i r).place race.conflicts.first

-- the same, of the statics of a program whose declarations these are
pub races_declared_in : (d : Declarations) (statics : List StaticSlot) (history : List Entry) (s : SharedState) (found : List Race) → d.statics ≡ statics
    → IsLegalHistory d history s → IsReport history found → All (λ r. IsDeclared statics r.place) found
races_declared_in d statics history s found same legal report = subst (λ xs. All (λ r. IsDeclared xs r.place) found) same (races_declared d history s found legal report)
