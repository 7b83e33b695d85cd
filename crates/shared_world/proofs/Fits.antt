-- Each operation keeps that values fit, and its reply fits it.
use Rattle.std.proofs.Common.{◌≡◌, ℕ, zero, suc, ◌+◌, ◌<◌, Bool, true, false, ◌&&◌, ◌||◌, if◌then◌else◌, nat_le, nat_lt, List, [], ◌∷◌, ◌++◌, length, map, replicate, slice_set, slice_get, Option, Some, None, MatchOption, refl, sym, ap, subst, arith, pos}
use Rattle.std.specs.Prelude.{is_some, is_none}
use Rattle.std.specs.List.{AllByRecursion}
use Rattle.std.proofs.lemmas.Bool.{and_parts, eq-eqb, eqb-true, ltb-true}
use Rattle.vm_model.specs.declared.value.Lock.{Lock}
use Rattle.vm_model.specs.declared.value.Lock.TheVariants as lock
use Rattle.vm_model.specs.declared.value.ObjRef.{ObjRef}
use Rattle.vm_model.specs.declared.value.Kind.{Kind}
use Rattle.vm_model.specs.declared.value.Kind.TheVariants as kind
use Rattle.vm_model.specs.declared.value.Value.{Value}
use Rattle.vm_model.specs.declared.value.Value.TheVariants as value
use Rattle.vm_model.specs.declared.op.Piece.{Piece}
use Rattle.vm_model.specs.declared.op.Op.{Op}
use Rattle.vm_model.specs.declared.op.Op.TheVariants as op
use Rattle.vm_model.specs.declared.op.Reply.TheVariants as reply
use Rattle.vm_model.specs.declared.ends.FaultKind.TheVariants as fault
use Rattle.vm_model.specs.declared.program.StaticSlot.{StaticSlot}
use Rattle.machine_model.specs.declared.RowState.TheVariants as row_state
use Rattle.machine_model.specs.Declarations.{Declarations}
use Rattle.machine_model.specs.Kinds.{field_kinds, first_value, fits, fits_declared, slot_kind, static_kind}
use Rattle.machine_model.specs.Shared.{HeapItem, Monitor, SharedState, monitor_at, entered, exited, waited, one_notified, all_notified, is_owner}
use Rattle.machine_model.specs.Operations.{Applied, answers, apply, as_owner, enter, first_of, fits_reply, gets, got, has_room, is_array, is_enabled, is_item_of, is_object, is_ready, is_there, kind_at, notify_rows, printed, put_word, release_all, resume, set_monitor, set_row, target_of, was_started, with_item, word_at, word_in}
use Rattle.shared_world.specs.Fitting.{AllFit, ItemFits, ValuesFit, WordsFit, kind_of_slot}
use Rattle.shared_world.proofs.Everywhere.{all_at, all_push, all_replicate, all_set}

-- ---- lists of values and of kinds

all_fit_set : (d : Declarations) (vs : List Value) (ks : List Kind) (i : ℕ) (v : Value) → AllFit d vs ks → fits_declared d v (slice_get ks i) ≡ true → AllFit d (slice_set vs i v) ks
all_fit_set d [] [] i v all here = tt
all_fit_set d [] (k ∷ ks) i v all here = absurd all
all_fit_set d (w ∷ vs) [] i v all here = absurd all
all_fit_set d (w ∷ vs) (k ∷ ks) zero v all here = (here, all.1)
all_fit_set d (w ∷ vs) (k ∷ ks) (suc i) v all here = (all.0, all_fit_set d vs ks i v all.1 here)

got_fits : (d : Declarations) (vs : List Value) (ks : List Kind) (i : ℕ) → AllFit d vs ks → is_some (slice_get vs i) ≡ true → gets d (slice_get ks i) (got (slice_get vs i)) ≡ true
got_fits d [] [] i all there = absurd cc
got_fits d [] (k ∷ ks) i all there = absurd all
got_fits d (v ∷ vs) [] i all there = absurd all
got_fits d (v ∷ vs) (k ∷ ks) zero all there = all.0
got_fits d (v ∷ vs) (k ∷ ks) (suc i) all there = got_fits d vs ks i all.1 there

int_got_fits : (d : Declarations) (vs : List Value) (i : ℕ) → AllByRecursion (λ v. fits d v kind.Int ≡ true) vs → is_some (slice_get vs i) ≡ true → gets d (Some kind.Int) (got (slice_get vs i)) ≡ true
int_got_fits d [] i all there = absurd cc
int_got_fits d (v ∷ vs) zero all there = all.0
int_got_fits d (v ∷ vs) (suc i) all there = int_got_fits d vs i all.1 there

static_kind_lem : (slots : List StaticSlot) (i : ℕ) → slice_get (map kind_of_slot slots) i ≡ slot_kind (slice_get slots i)
static_kind_lem [] i = refl
static_kind_lem (s ∷ ss) zero = refl
static_kind_lem (s ∷ ss) (suc i) = static_kind_lem ss i

there_below : {X : Type 0} (xs : List X) (i : ℕ) → i < length xs → is_some (slice_get xs i) ≡ true
there_below [] i below = absurd (omega arith)
there_below (x ∷ xs) zero below = refl
there_below (x ∷ xs) (suc i) below = there_below xs i (omega arith)

first_fits : (d : Declarations) (k : Kind) → fits d (first_value k) k ≡ true
first_fits d kind.Int = refl
first_fits d kind.Null = refl
first_fits d (kind.Ref c) = refl
first_fits d kind.Arr = refl
first_fits d kind.Args = refl

first_values_fit : (d : Declarations) (ks : List Kind) → AllFit d (map first_value ks) ks
first_values_fit d [] = tt
first_values_fit d (k ∷ ks) = (first_fits d k, first_values_fit d ks)

-- ---- objects and arrays

class_of_item : (c : Option ℕ) (words : List Value) (class : ℕ) → is_item_of class (Some (record { class = c; words = words })) ≡ true → c ≡ Some class
class_of_item None words class is = absurd cc
class_of_item (Some c) words class is = ap (λ (n : ℕ). Some n) (eqb-true c class is)

no_class : (c : Option ℕ) → is_none c ≡ true → c ≡ None
no_class None is = refl
no_class (Some c) is = absurd cc

object_words : (d : Declarations) (item : HeapItem) (class : ℕ) → ItemFits d item → is_item_of class (Some item) ≡ true → AllFit d item.words (field_kinds d class)
object_words d item class fit is = subst (λ (c : Option ℕ). WordsFit d c item.words) (class_of_item item.class item.words class is) fit

array_words : (d : Declarations) (item : HeapItem) → ItemFits d item → is_none item.class ≡ true → AllByRecursion (λ v. fits d v kind.Int ≡ true) item.words
array_words d item fit is = subst (λ (c : Option ℕ). WordsFit d c item.words) (no_class item.class is) fit

field_got : (d : Declarations) (o : Option HeapItem) (class place : ℕ) → MatchOption o (Unit {0}) (ItemFits d) → is_item_of class o ≡ true → is_some (word_in o place) ≡ true → gets d (kind_at (field_kinds d class) place) (got (word_in o place)) ≡ true
field_got d None class place fit is there = absurd cc
field_got d (Some item) class place fit is there = got_fits d item.words (field_kinds d class) place (object_words d item class fit is) there

item_got : (d : Declarations) (o : Option HeapItem) (place : ℕ) → MatchOption o (Unit {0}) (ItemFits d) → is_array o ≡ true → is_some (word_in o place) ≡ true → gets d (Some kind.Int) (got (word_in o place)) ≡ true
item_got d None place fit is there = absurd cc
item_got d (Some item) place fit is there = int_got_fits d item.words place (array_words d item fit is) there

field_put : (d : Declarations) (heap : List HeapItem) (id : ℕ) (o : Option HeapItem) (class place : ℕ) (v : Value) → AllByRecursion (ItemFits d) heap → MatchOption o (Unit {0}) (ItemFits d) → is_item_of class o ≡ true → fits_declared d v (kind_at (field_kinds d class) place) ≡ true → AllByRecursion (ItemFits d) (put_word o place v heap id)
field_put d heap id None class place v all fit is here = all
field_put d heap id (Some item) class place v all fit is here =
    all_set (ItemFits d) heap id (record { class = item.class; words = slice_set item.words place v }) all
    (subst (λ (c : Option ℕ). WordsFit d c (slice_set item.words place v)) (sym (class_of_item item.class item.words class is)) (all_fit_set d item.words (field_kinds d class) place v (object_words d item class fit is) here))

item_put : (d : Declarations) (heap : List HeapItem) (id : ℕ) (o : Option HeapItem) (place : ℕ) (n : Value) → AllByRecursion (ItemFits d) heap → MatchOption o (Unit {0}) (ItemFits d) → is_array o ≡ true → fits d n kind.Int ≡ true → AllByRecursion (ItemFits d) (put_word o place n heap id)
item_put d heap id None place n all fit is here = all
item_put d heap id (Some item) place n all fit is here =
    all_set (ItemFits d) heap id (record { class = item.class; words = slice_set item.words place n }) all
    (subst (λ (c : Option ℕ). WordsFit d c (slice_set item.words place n)) (sym (no_class item.class is)) (all_set (λ v. fits d v kind.Int ≡ true) item.words place n (array_words d item fit is) here))

-- ---- what leaves the values as they are

same_values : (d : Declarations) (s new : SharedState) → ValuesFit d s → new.statics ≡ s.statics → new.heap ≡ s.heap → ValuesFit d new
same_values d s new fit statics heap = record {
  statics = subst (λ (vs : List Value). AllFit d vs (map kind_of_slot d.statics)) (sym statics) fit.statics;
  heap = subst (λ (items : List HeapItem). AllByRecursion (ItemFits d) items) (sym heap) fit.heap;
}

as_owner_either : (P : Applied → Type 0) (s : SharedState) (t : ℕ) (o : Option Monitor) (go : Monitor → Applied) → P (answers s (reply.Raise fault.MonitorState)) → ((m : Monitor) → P (go m)) → P (as_owner s t o go)
as_owner_either P s t None go refused done = refused
as_owner_either P s t (Some m) go refused done = elim (is_owner m t) as (λ b. P (if b then go m else answers s (reply.Raise fault.MonitorState))) [ true ↦ done m | false ↦ refused ]

-- the values fit in the world that an operation leads to, and its reply fits it
record IsFit (d : Declarations) (o : Op) (a : Applied) : Type 0 where
  values : ValuesFit d a.world
  reply : fits_reply d o a.reply ≡ true

fit_enter : (d : Declarations) (s : SharedState) (t : ℕ) (l : Lock) (o : Option Monitor) → ValuesFit d s → ValuesFit d (enter s t l o)
fit_enter d s t l None fit = fit
fit_enter d s t l (Some m) fit = same_values d s (set_monitor s l (entered m t)) fit refl refl

fit_resume : (d : Declarations) (s : SharedState) (t : ℕ) (l : Lock) (count : ℕ) (o : Option Monitor) → ValuesFit d s → ValuesFit d (resume s t l count o)
fit_resume d s t l count None fit = fit
fit_resume d s t l count (Some m) fit = same_values d s (resume s t l count (Some m)) fit refl refl

fit_release : (d : Declarations) (s : SharedState) (target : Option ObjRef) → ValuesFit d s → ValuesFit d (release_all s target)
fit_release d s None fit = fit
fit_release d s (Some o) fit =
    (elim (slice_get s.monitors.objects o.id) as (λ found. slice_get s.monitors.objects o.id ≡ found → ValuesFit d (release_all s (Some o))) [
      | None ↦ λ e. rw e fit
      | Some m ↦ λ e. rw e (same_values d s (record (set_monitor s (lock.Object o.id) (all_notified m)) { rows = notify_rows s.rows m.waiters }) fit refl refl)
    ]) refl

fit_end : (d : Declarations) (s : SharedState) (t : ℕ) (target : Option ObjRef) → ValuesFit d s → ValuesFit d (record (release_all s target) { rows = set_row (release_all s target).rows t row_state.Ended None })
fit_end d s t target fit = same_values d (release_all s target) (record (release_all s target) { rows = set_row (release_all s target).rows t row_state.Ended None }) (fit_release d s target fit) refl refl

fit_item : (d : Declarations) (s : SharedState) (item : HeapItem) → ValuesFit d s → ItemFits d item → ValuesFit d (with_item s item)
fit_item d s item fit here = record {
  statics = fit.statics;
  heap = all_push (ItemFits d) s.heap item fit.heap here;
}

fit_new : (d : Declarations) (s : SharedState) (class : ℕ) (item : HeapItem) (free : Bool) → ValuesFit d s → ItemFits d item → IsFit d (op.New class) (if free then answers (with_item s item) (reply.Made (value.Obj (length s.heap) class)) else answers s (reply.Raise fault.HeapFull))
fit_new d s class item true fit here = record {
  values = fit_item d s item fit here;
  reply = ap (λ (b : Bool). b || false) (eq-eqb class class refl);
}
fit_new d s class item false fit here = record {
  values = fit;
  reply = refl;
}

fit_new_array : (d : Declarations) (s : SharedState) (len : ℕ) (item : HeapItem) (free : Bool) → ValuesFit d s → ItemFits d item → IsFit d (op.NewArray len) (if free then answers (with_item s item) (reply.Made (value.Arr (length s.heap) len)) else answers s (reply.Raise fault.HeapFull))
fit_new_array d s len item true fit here = record {
  values = fit_item d s item fit here;
  reply = ap (λ (b : Bool). b || false) (eq-eqb len len refl);
}
fit_new_array d s len item false fit here = record {
  values = fit;
  reply = refl;
}

fit_begin : (d : Declarations) (s : SharedState) (target : ObjRef) (some free : Bool) → ValuesFit d s
    → IsFit d (op.Start target) (if some then answers s (reply.Raise fault.ThreadState)
    else if free
    then answers (record s { rows = s.rows ++ record { state = row_state.Live; target = Some target; kept = None } ∷ [] }) (reply.Began (length s.rows))
    else answers s (reply.Raise fault.ThreadsFull))
fit_begin d s target true free fit = record {
  values = fit;
  reply = refl;
}
fit_begin d s target false true fit = record {
  values = same_values d s (record s { rows = s.rows ++ record { state = row_state.Live; target = Some target; kept = None } ∷ [] }) fit refl refl;
  reply = refl;
}
fit_begin d s target false false fit = record {
  values = fit;
  reply = refl;
}

fit_print : (d : Declarations) (s : SharedState) (what : Piece) (newline : Bool) (bytes : List ℕ) (free : Bool) → ValuesFit d s → IsFit d (op.Print what newline) (if free then answers (record s { output = s.output ++ bytes }) reply.Unit else answers s (reply.Raise fault.OutputFull))
fit_print d s what newline bytes true fit = record {
  values = same_values d s (record s { output = s.output ++ bytes }) fit refl refl;
  reply = refl;
}
fit_print d s what newline bytes false fit = record {
  values = fit;
  reply = refl;
}

-- ---- all operations

fit_after : (d : Declarations) (s : SharedState) (t : ℕ) (o : Op) → ValuesFit d s → is_enabled d s t o ≡ true → IsFit d o (apply d s t o)
fit_after d s t (op.GetStatic slot) fit enabled = record {
  values = fit;
  reply =
      let below : slot < length s.statics = ltb-true slot (length s.statics) (and_parts (is_ready s t) (nat_lt slot (length s.statics)) enabled).1 in
      subst (λ (k : Option Kind). gets d k (got (slice_get s.statics slot)) ≡ true) (static_kind_lem d.statics slot) (got_fits d s.statics (map kind_of_slot d.statics) slot fit.statics (there_below s.statics slot below));
}
fit_after d s t (op.PutStatic slot v) fit enabled =
    let asked = and_parts (is_ready s t) (nat_lt slot (length s.statics) && (is_there d s v && fits_declared d v (static_kind d slot))) enabled in
    let fitting = and_parts (is_there d s v) (fits_declared d v (static_kind d slot)) (and_parts (nat_lt slot (length s.statics)) (is_there d s v && fits_declared d v (static_kind d slot)) asked.1).1 in
    record {
      values = record {
        statics = all_fit_set d s.statics (map kind_of_slot d.statics) slot v fit.statics (subst (λ (k : Option Kind). fits_declared d v k ≡ true) (sym (static_kind_lem d.statics slot)) fitting.1);
        heap = fit.heap;
      };
      reply = refl;
    }
fit_after d s t (op.GetField o place) fit enabled = record {
  values = fit;
  reply =
      let asked = and_parts (is_object s o) (is_some (word_at s o.id place)) (and_parts (is_ready s t) (is_object s o && is_some (word_at s o.id place)) enabled).1 in
      field_got d (slice_get s.heap o.id) o.class place (all_at (ItemFits d) s.heap o.id fit.heap) asked.0 asked.1;
}
fit_after d s t (op.PutField o place v) fit enabled =
    let wanted = fits_declared d v (kind_at (field_kinds d o.class) place) in
    let asked = and_parts (is_object s o) (is_some (word_at s o.id place) && (is_there d s v && wanted)) (and_parts (is_ready s t) (is_object s o && (is_some (word_at s o.id place) && (is_there d s v && wanted))) enabled).1 in
    let fitting = and_parts (is_there d s v) wanted (and_parts (is_some (word_at s o.id place)) (is_there d s v && wanted) asked.1).1 in
    record {
      values = record {
        statics = fit.statics;
        heap = field_put d s.heap o.id (slice_get s.heap o.id) o.class place v fit.heap (all_at (ItemFits d) s.heap o.id fit.heap) asked.0 fitting.1;
      };
      reply = refl;
    }
fit_after d s t (op.ArrayLoad arr index) fit enabled = record {
  values = fit;
  reply =
      let asked = and_parts (is_array (slice_get s.heap arr)) (is_some (word_at s arr index)) (and_parts (is_ready s t) (is_array (slice_get s.heap arr) && is_some (word_at s arr index)) enabled).1 in
      item_got d (slice_get s.heap arr) index (all_at (ItemFits d) s.heap arr fit.heap) asked.0 asked.1;
}
fit_after d s t (op.ArrayStore arr index n) fit enabled =
    let asked = and_parts (is_array (slice_get s.heap arr)) (is_some (word_at s arr index)) (and_parts (is_ready s t) (is_array (slice_get s.heap arr) && is_some (word_at s arr index)) enabled).1 in
    record {
      values = record {
        statics = fit.statics;
        heap = item_put d s.heap arr (slice_get s.heap arr) index (value.Int n) fit.heap (all_at (ItemFits d) s.heap arr fit.heap) asked.0 refl;
      };
      reply = refl;
    }
fit_after d s t (op.New class) fit enabled = fit_new d s class (record { class = Some class; words = map first_value (field_kinds d class) }) (has_room s (1 + length (map first_value (field_kinds d class)))) fit (first_values_fit d (field_kinds d class))
fit_after d s t (op.NewArray len) fit enabled = fit_new_array d s len (record { class = None; words = replicate len (value.Int (pos 0)) }) (has_room s (1 + length (replicate len (value.Int (pos 0))))) fit (all_replicate (λ v. fits d v kind.Int ≡ true) len (value.Int (pos 0)) refl)
fit_after d s t (op.Enter l) fit enabled = record {
  values = fit_enter d s t l (monitor_at s.monitors l) fit;
  reply = refl;
}
fit_after d s t (op.Exit l) fit enabled =
    as_owner_either (IsFit d (op.Exit l)) s t (monitor_at s.monitors l) (λ m. answers (set_monitor s l (exited m)) reply.Unit)
    (record { values = fit; reply = refl })
    (λ m. record { values = same_values d s (set_monitor s l (exited m)) fit refl refl; reply = refl })
fit_after d s t (op.Wait l) fit enabled =
    as_owner_either (IsFit d (op.Wait l)) s t (monitor_at s.monitors l)
    (λ m. answers (record (set_monitor s l (waited m t)) { rows = set_row s.rows t row_state.Waiting (Some (record { lock = l; count = m.count })) }) (reply.Waits m.count))
    (record { values = fit; reply = refl })
    (λ m. record { values = same_values d s (record (set_monitor s l (waited m t)) { rows = set_row s.rows t row_state.Waiting (Some (record { lock = l; count = m.count })) }) fit refl refl; reply = refl })
fit_after d s t (op.Resume l count) fit enabled = record {
  values = fit_resume d s t l count (monitor_at s.monitors l) fit;
  reply = refl;
}
fit_after d s t (op.Notify l) fit enabled =
    as_owner_either (IsFit d (op.Notify l)) s t (monitor_at s.monitors l)
    (λ m. answers (record (set_monitor s l (one_notified m)) { rows = notify_rows s.rows (first_of m.waiters) }) reply.Unit)
    (record { values = fit; reply = refl })
    (λ m. record { values = same_values d s (record (set_monitor s l (one_notified m)) { rows = notify_rows s.rows (first_of m.waiters) }) fit refl refl; reply = refl })
fit_after d s t (op.NotifyAll l) fit enabled =
    as_owner_either (IsFit d (op.NotifyAll l)) s t (monitor_at s.monitors l)
    (λ m. answers (record (set_monitor s l (all_notified m)) { rows = notify_rows s.rows m.waiters }) reply.Unit)
    (record { values = fit; reply = refl })
    (λ m. record { values = same_values d s (record (set_monitor s l (all_notified m)) { rows = notify_rows s.rows m.waiters }) fit refl refl; reply = refl })
fit_after d s t (op.Start target) fit enabled = fit_begin d s target (was_started s target.id) (nat_lt (length s.rows) 64) fit
fit_after d s t (op.Join obj) fit enabled = record { values = fit; reply = refl }
fit_after d s t (op.Print what newline) fit enabled = fit_print d s what newline (printed d what newline) (nat_le (length s.output + length (printed d what newline)) 16777216) fit
fit_after d s t op.Yield fit enabled = record { values = fit; reply = refl }
fit_after d s t op.Tick fit enabled = record { values = fit; reply = refl }
fit_after d s t op.ThreadEnd fit enabled = record {
  values = fit_end d s t (target_of (slice_get s.rows t)) fit;
  reply = refl;
}
fit_after d s t (op.Fault k method at) fit enabled = record {
  values = record { statics = fit.statics; heap = fit.heap };
  reply = refl;
}

pub ValuesFit-after : (d : Declarations) (s : SharedState) (t : ℕ) (o : Op) → ValuesFit d s → is_enabled d s t o ≡ true → ValuesFit d (apply d s t o).world
ValuesFit-after d s t o fit enabled = (fit_after d s t o fit enabled).values

pub fits_reply-after : (d : Declarations) (s : SharedState) (t : ℕ) (o : Op) → ValuesFit d s → is_enabled d s t o ≡ true → fits_reply d o (apply d s t o).reply ≡ true
fits_reply-after d s t o fit enabled = (fit_after d s t o fit enabled).reply
