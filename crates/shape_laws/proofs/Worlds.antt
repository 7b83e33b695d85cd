-- The world holds values of the declared kinds, and so each reply fits its operation.
use Rattle.std.proofs.Common.{◌≡◌, ℕ, zero, suc, ◌+◌, ◌<◌, Bool, true, false, List, [], ◌∷◌, ◌++◌, length, map, replicate, Option, Some, None, refl, sym, ◌∙◌, ap, subst, ⊎_elim}
use Rattle.std.specs.Prelude.{pos, ◌==◌, nat_lt, nat_le, slice_get, slice_set, is_some, is_none, if◌then◌else◌}
use Rattle.std.specs.List.{AllByRecursion}
use Rattle.std.proofs.lemmas.Bool.{false≢true}
use Rattle.vm_model.specs.declared.value.Value.{Value}
use Rattle.vm_model.specs.declared.value.Value.TheVariants as value
use Rattle.vm_model.specs.declared.value.Kind.{Kind}
use Rattle.vm_model.specs.declared.value.Kind.TheVariants as kind
use Rattle.vm_model.specs.declared.value.Lock.{Lock}
use Rattle.vm_model.specs.declared.value.ObjRef.{ObjRef}
use Rattle.vm_model.specs.declared.ends.FaultKind.TheVariants as fault
use Rattle.vm_model.specs.declared.program.StaticSlot.{StaticSlot}
use Rattle.vm_model.specs.declared.op.Op.{Op}
use Rattle.vm_model.specs.declared.op.Op.TheVariants as op
use Rattle.vm_model.specs.declared.op.Reply.{Reply}
use Rattle.vm_model.specs.declared.op.Reply.TheVariants as reply
use Rattle.vm_model.specs.Program.{PlainClass, PlainProgram}
use Rattle.machine_model.specs.Declarations.{declarations_of, class_at}
use Rattle.machine_model.specs.declared.RowState.TheVariants as row_state
use Rattle.machine_model.specs.Kinds.{extends, fits, fits_declared, static_kind, slot_kind, field_kinds, first_value, is_thread, is_thread_class}
use Rattle.machine_model.specs.Shared.{HeapItem, Monitor, is_owner, SharedState, monitor_at, start, start_of_slot}
use Rattle.machine_model.specs.Operations.{Applied, answers, apply, as_owner, begin, end_thread, enter, fits_reply, got, has_room, is_array, is_enabled, is_item_of, is_object, is_ready, is_there, kind_at, make, print, printed, put_word, release_all, resume, target_of, was_started, with_item, with_word, word_at, word_in}
use Rattle.shape_laws.specs.Fitting.{has_objects, is_made, is_of, FitsKinds}
use Rattle.shape_laws.specs.States.{is_made_op, is_made_reply}
use Rattle.shape_laws.specs.Linked.{IsWellLinked}
use Rattle.shape_laws.specs.Worlds.{kind_of_slot, FitsWords, FitsItem, FitsWorld}
use Rattle.shape_laws.proofs.Tests.{same, same_self, either, on_left, both, joined, true_below, all_there, all_set, all_both, some_there, has_value}
use Rattle.shape_laws.proofs.Supers.{extends_itself, thread_class_extends}

-- ---- lists of values

value_at : (p : PlainProgram) (vs : List Value) (ks : List Kind) (i : ℕ) (v : Value) → FitsKinds p vs ks → slice_get vs i ≡ Some v → (k : Kind) × (slice_get ks i ≡ Some k) × (is_of p v k ≡ true)
value_at p [] ks i v fit e = absurd (none_some e)
  where
    none_some : None ≡ Some v → ⊥
    none_some e' = cc
value_at p (w ∷ vs) [] i v fit e = absurd fit
value_at p (w ∷ vs) (k ∷ ks) zero v fit e = let same_value : w ≡ v = cc in (k, refl, subst (λ (x : Value). is_of p x k ≡ true) same_value fit.0)
value_at p (w ∷ vs) (k ∷ ks) (suc i) v fit e = value_at p vs ks i v fit.1 e

values_set : (p : PlainProgram) (vs : List Value) (ks : List Kind) (i : ℕ) (v : Value) → FitsKinds p vs ks → ((k : Kind) → slice_get ks i ≡ Some k → is_of p v k ≡ true) → FitsKinds p (slice_set vs i v) ks
values_set p [] [] i v fit h = tt
values_set p [] (k ∷ ks) i v fit h = absurd fit
values_set p (w ∷ vs) [] i v fit h = absurd fit
values_set p (w ∷ vs) (k ∷ ks) zero v fit h = (h k refl, fit.1)
values_set p (w ∷ vs) (k ∷ ks) (suc i) v fit h = (fit.0, values_set p vs ks i v fit.1 h)

kinds_of_slots : (slots : List StaticSlot) (i : ℕ) → slot_kind (slice_get slots i) ≡ slice_get (map kind_of_slot slots) i
kinds_of_slots [] i = refl
kinds_of_slots (s ∷ slots) zero = refl
kinds_of_slots (s ∷ slots) (suc i) = kinds_of_slots slots i

first_values : (p : PlainProgram) (ks : List Kind) → FitsKinds p (map first_value ks) ks
first_values p [] = tt
first_values p (k ∷ ks) = (by k, first_values p ks)
  where
    by : (k' : Kind) → is_of p (first_value k') k' ≡ true
    by kind.Int = refl
    by kind.Null = refl
    by (kind.Ref c) = refl
    by kind.Arr = refl
    by kind.Args = refl

zeros : (p : PlainProgram) (n : ℕ) → AllByRecursion (λ (v : Value). is_of p v kind.Int ≡ true) (replicate n (value.Int (pos 0)))
zeros p zero = tt
zeros p (suc n) = (refl, zeros p n)

-- ---- objects and arrays

record HasItem (s : SharedState) (id : ℕ) (class : Option ℕ) : Type 0 where
  item : HeapItem
  is_there : slice_get s.heap id ≡ Some item
  is_class : item.class ≡ class

object_item : (s : SharedState) (o : ObjRef) → is_object s o ≡ true → HasItem s o.id (Some o.class)
object_item s o h = by (slice_get s.heap o.id) refl h
  where
    by : (x : Option HeapItem) → slice_get s.heap o.id ≡ x → is_item_of o.class x ≡ true → HasItem s o.id (Some o.class)
    by None e h' = absurd (false≢true h')
    by (Some item) e h' = by_class item.class refl h'
      where
        by_class : (c : Option ℕ) → item.class ≡ c → is_item_of o.class (Some (record { class = c; words = item.words })) ≡ true → HasItem s o.id (Some o.class)
        by_class None e' h'' = absurd (false≢true h'')
        by_class (Some c) e' h'' = record { item = item; is_there = e; is_class = e' ∙ ap Some (same c o.class h'') }

array_item : (s : SharedState) (id : ℕ) → is_array (slice_get s.heap id) ≡ true → HasItem s id None
array_item s id h = by (slice_get s.heap id) refl h
  where
    by : (x : Option HeapItem) → slice_get s.heap id ≡ x → is_array x ≡ true → HasItem s id None
    by None e h' = absurd (false≢true h')
    by (Some item) e h' = record { item = item; is_there = e; is_class = none item.class h' }
      where
        none : (c : Option ℕ) → is_none c ≡ true → c ≡ None
        none None g = refl
        none (Some c) g = absurd (false≢true g)

item_fits : (p : PlainProgram) (s : SharedState) (id : ℕ) (class : Option ℕ) → FitsWorld p s → (has : HasItem s id class) → FitsWords p class has.item.words
item_fits p s id class world has = subst (λ (c : Option ℕ). FitsWords p c has.item.words) has.is_class (all_there (FitsItem p) s.heap id has.item world.heap has.is_there)

-- a value that is there is one that a run makes
there_made : (p : PlainProgram) (s : SharedState) (v : Value) → FitsWorld p s → is_there (declarations_of p) s v ≡ true → is_made v ≡ true
there_made p s (value.Int n) world h = refl
there_made p s value.Null world h = refl
there_made p s (value.Obj id class) world h = (item_fits p s id (Some class) world (object_item s (record { id = id; class = class }) h)).0
there_made p s (value.Arr id len) world h = refl
there_made p s (value.Text text) world h = refl
there_made p s value.Stream world h = refl

declared_of : (p : PlainProgram) (v : Value) (k : Kind) (o : Option Kind) → is_made v ≡ true → fits_declared (declarations_of p) v o ≡ true → o ≡ Some k → is_of p v k ≡ true
declared_of p v k o made h e = joined (is_made v) (fits (declarations_of p) v k) made (subst (λ (x : Option Kind). fits_declared (declarations_of p) v x ≡ true) e h)

-- ---- replies

abbrev pub ReplyFits : PlainProgram → Op → Reply → Type 0
ReplyFits p o r = (fits_reply (declarations_of p) o r ≡ true) × (is_made_reply r ≡ true)

got_static : (p : PlainProgram) (s : SharedState) (slot : ℕ) → FitsWorld p s → slot < length s.statics → ReplyFits p (op.GetStatic slot) (got (slice_get s.statics slot))
got_static p s slot world h =
    let there = some_there s.statics slot h in
    let held = value_at p s.statics (map kind_of_slot p.statics) slot there.0 world.statics there.1 in
    let parts = both (is_made there.0) (fits (declarations_of p) there.0 held.0) held.2 in
    rw there.1 (subst (λ (o : Option Kind). fits_declared (declarations_of p) there.0 o ≡ true) (sym (kinds_of_slots p.statics slot ∙ held.1)) parts.1, parts.0)

got_field : (p : PlainProgram) (s : SharedState) (o : ObjRef) (place : ℕ) → FitsWorld p s → is_object s o ≡ true → is_some (word_at s o.id place) ≡ true → ReplyFits p (op.GetField o place) (got (word_at s o.id place))
got_field p s o place world is h =
    let has = object_item s o is in
    let words = item_fits p s o.id (Some o.class) world has in
    let there = has_value (word_at s o.id place) h in
    let at = sym (ap (λ (x : Option HeapItem). word_in x place) has.is_there) ∙ there.1 in
    let held = value_at p has.item.words (field_kinds (declarations_of p) o.class) place there.0 words.1 at in
    let parts = both (is_made there.0) (fits (declarations_of p) there.0 held.0) held.2 in
    subst (λ (x : Option Value). ReplyFits p (op.GetField o place) (got x)) (sym there.1)
    (subst (λ (k : Option Kind). fits_declared (declarations_of p) there.0 k ≡ true) (sym held.1) parts.1, parts.0)

got_item : (p : PlainProgram) (s : SharedState) (arr index : ℕ) → FitsWorld p s → is_array (slice_get s.heap arr) ≡ true → is_some (word_at s arr index) ≡ true → ReplyFits p (op.ArrayLoad arr index) (got (word_at s arr index))
got_item p s arr index world is h =
    let has = array_item s arr is in
    let words = item_fits p s arr None world has in
    let there = has_value (word_at s arr index) h in
    let at = sym (ap (λ (x : Option HeapItem). word_in x index) has.is_there) ∙ there.1 in
    let held = all_there (λ (v : Value). is_of p v kind.Int ≡ true) has.item.words index there.0 words at in
    let parts = both (is_made there.0) (fits (declarations_of p) there.0 kind.Int) held in
    subst (λ (x : Option Value). ReplyFits p (op.ArrayLoad arr index) (got x)) (sym there.1) (parts.1, parts.0)

made_reply : (p : PlainProgram) (s : SharedState) (o : Op) (item : HeapItem) (v : Value) → ReplyFits p o (reply.Made v) → ReplyFits p o (reply.Raise fault.HeapFull) → ReplyFits p o (make s item v).reply
made_reply p s o item v h k = by (has_room s (1 + length item.words))
  where
    by : (b : Bool) → ReplyFits p o (if b then answers (with_item s item) (reply.Made v) else answers s (reply.Raise fault.HeapFull)).reply
    by true = h
    by false = k

owner_reply : (p : PlainProgram) (s : SharedState) (t : ℕ) (o : Op) (x : Option Monitor) (go : Monitor → Applied) → ((m : Monitor) → ReplyFits p o (go m).reply) → ReplyFits p o (reply.Raise fault.MonitorState) → ReplyFits p o (as_owner s t x go).reply
owner_reply p s t o None go each raised = raised
owner_reply p s t o (Some m) go each raised = by (is_owner m t)
  where
    by : (b : Bool) → ReplyFits p o (if b then go m else answers s (reply.Raise fault.MonitorState)).reply
    by true = each m
    by false = raised

begin_reply : (p : PlainProgram) (s : SharedState) (target : ObjRef) → ReplyFits p (op.Start target) (begin s target).reply
begin_reply p s target = by (was_started s target.id)
  where
    by_room : (c : Bool) → ReplyFits p (op.Start target) (if c then answers (record s { rows = s.rows ++ record { state = row_state.Live; target = Some target; kept = None } ∷ [] }) (reply.Began (length s.rows)) else answers s (reply.Raise fault.ThreadsFull)).reply
    by_room true = (refl, refl)
    by_room false = (refl, refl)

    by : (b : Bool) → ReplyFits p (op.Start target) (if b then answers s (reply.Raise fault.ThreadState) else if nat_lt (length s.rows) 64 then answers (record s { rows = s.rows ++ record { state = row_state.Live; target = Some target; kept = None } ∷ [] }) (reply.Began (length s.rows)) else answers s (reply.Raise fault.ThreadsFull)).reply
    by true = (refl, refl)
    by false = by_room (nat_lt (length s.rows) 64)

print_reply : (p : PlainProgram) (s : SharedState) (o : Op) (bytes : List ℕ) → ReplyFits p o reply.Unit → ReplyFits p o (reply.Raise fault.OutputFull) → ReplyFits p o (print s bytes).reply
print_reply p s o bytes h k = by (nat_le (length s.output + length bytes) 16777216)
  where
    by : (b : Bool) → ReplyFits p o (if b then answers (record s { output = s.output ++ bytes }) reply.Unit else answers s (reply.Raise fault.OutputFull)).reply
    by true = h
    by false = k

pub reply_fits : (p : PlainProgram) (s : SharedState) (t : ℕ) (o : Op) → FitsWorld p s → is_made_op p o ≡ true → is_enabled (declarations_of p) s t o ≡ true → ReplyFits p o (apply (declarations_of p) s t o).reply
reply_fits p s t (op.GetStatic slot) world made h = got_static p s slot world (true_below slot (length s.statics) (both (is_ready s t) _ h).1)
reply_fits p s t (op.PutStatic slot v) world made h = (refl, refl)
reply_fits p s t (op.GetField o place) world made h = let parts = both (is_object s o) (is_some (word_at s o.id place)) (both (is_ready s t) _ h).1 in got_field p s o place world parts.0 parts.1
reply_fits p s t (op.PutField o place v) world made h = (refl, refl)
reply_fits p s t (op.ArrayLoad arr index) world made h = let parts = both (is_array (slice_get s.heap arr)) (is_some (word_at s arr index)) (both (is_ready s t) _ h).1 in got_item p s arr index world parts.0 parts.1
reply_fits p s t (op.ArrayStore arr index n) world made h = (refl, refl)
reply_fits p s t (op.New class) world made h = made_reply p s (op.New class) _ (value.Obj (length s.heap) class) (on_left (class == class) _ (same_self class), made) (refl, refl)
reply_fits p s t (op.NewArray len) world made h = made_reply p s (op.NewArray len) _ (value.Arr (length s.heap) len) (on_left (len == len) _ (same_self len), refl) (refl, refl)
reply_fits p s t (op.Enter l) world made h = (refl, refl)
reply_fits p s t (op.Exit l) world made h = owner_reply p s t (op.Exit l) (monitor_at s.monitors l) _ (λ m. (refl, refl)) (refl, refl)
reply_fits p s t (op.Wait l) world made h = owner_reply p s t (op.Wait l) (monitor_at s.monitors l) _ (λ m. (refl, refl)) (refl, refl)
reply_fits p s t (op.Resume l count) world made h = (refl, refl)
reply_fits p s t (op.Notify l) world made h = owner_reply p s t (op.Notify l) (monitor_at s.monitors l) _ (λ m. (refl, refl)) (refl, refl)
reply_fits p s t (op.NotifyAll l) world made h = owner_reply p s t (op.NotifyAll l) (monitor_at s.monitors l) _ (λ m. (refl, refl)) (refl, refl)
reply_fits p s t (op.Start target) world made h = begin_reply p s target
reply_fits p s t (op.Join obj) world made h = (refl, refl)
reply_fits p s t (op.Print what newline) world made h = print_reply p s (op.Print what newline) (printed (declarations_of p) what newline) (refl, refl) (refl, refl)
reply_fits p s t op.Yield world made h = (refl, refl)
reply_fits p s t op.Tick world made h = (refl, refl)
reply_fits p s t op.ThreadEnd world made h = (refl, refl)
reply_fits p s t (op.Fault kind method at) world made h = (refl, refl)

-- ---- the world afterwards

-- a world with the same statics, objects and arrays
same_fits : (p : PlainProgram) (s s' : SharedState) → s'.statics ≡ s.statics → s'.heap ≡ s.heap → FitsWorld p s → FitsWorld p s'
same_fits p s s' e g world = record {
  statics = subst (λ (vs : List Value). FitsKinds p vs (map kind_of_slot p.statics)) (sym e) world.statics;
  heap = subst (λ (items : List HeapItem). AllByRecursion (FitsItem p) items) (sym g) world.heap;
}

owner_fits : (p : PlainProgram) (s : SharedState) (t : ℕ) (x : Option Monitor) (go : Monitor → Applied) → ((m : Monitor) → FitsWorld p (go m).world) → FitsWorld p s → FitsWorld p (as_owner s t x go).world
owner_fits p s t None go each world = world
owner_fits p s t (Some m) go each world = by (is_owner m t)
  where
    by : (b : Bool) → FitsWorld p (if b then go m else answers s (reply.Raise fault.MonitorState)).world
    by true = each m
    by false = world

make_fits : (p : PlainProgram) (s : SharedState) (item : HeapItem) (v : Value) → FitsWorld p s → FitsItem p item → FitsWorld p (make s item v).world
make_fits p s item v world fit = by (has_room s (1 + length item.words))
  where
    by : (b : Bool) → FitsWorld p (if b then answers (with_item s item) (reply.Made v) else answers s (reply.Raise fault.HeapFull)).world
    by true = record { statics = world.statics; heap = all_both (FitsItem p) s.heap (item ∷ []) world.heap (fit, tt) }
    by false = world

word_fits : (p : PlainProgram) (s : SharedState) (id place : ℕ) (v : Value) (class : Option ℕ) → FitsWorld p s → (has : HasItem s id class) → FitsWords p class (slice_set has.item.words place v) → FitsWorld p (with_word s id place v)
word_fits p s id place v class world has fit = record {
  statics = world.statics;
  heap = subst (λ (x : Option HeapItem). AllByRecursion (FitsItem p) (put_word x place v s.heap id)) (sym has.is_there)
      (all_set (FitsItem p) s.heap id (record { class = has.item.class; words = slice_set has.item.words place v }) world.heap
      (subst (λ (c : Option ℕ). FitsWords p c (slice_set has.item.words place v)) (sym has.is_class) fit));
}

enter_fits : (p : PlainProgram) (s : SharedState) (t : ℕ) (l : Lock) (x : Option Monitor) → FitsWorld p s → FitsWorld p (enter s t l x)
enter_fits p s t l None world = world
enter_fits p s t l (Some m) world = same_fits p s (enter s t l (Some m)) refl refl world

resume_fits : (p : PlainProgram) (s : SharedState) (t : ℕ) (l : Lock) (count : ℕ) (x : Option Monitor) → FitsWorld p s → FitsWorld p (resume s t l count x)
resume_fits p s t l count None world = world
resume_fits p s t l count (Some m) world = same_fits p s (resume s t l count (Some m)) refl refl world

release_statics : (s : SharedState) (o : Option ObjRef) → (release_all s o).statics ≡ s.statics
release_statics s None = refl
release_statics s (Some o) = by (slice_get s.monitors.objects o.id) refl
  where
    by : (x : Option Monitor) → slice_get s.monitors.objects o.id ≡ x → (release_all s (Some o)).statics ≡ s.statics
    by None e = rw e refl
    by (Some m) e = rw e refl

release_heap : (s : SharedState) (o : Option ObjRef) → (release_all s o).heap ≡ s.heap
release_heap s None = refl
release_heap s (Some o) = by (slice_get s.monitors.objects o.id) refl
  where
    by : (x : Option Monitor) → slice_get s.monitors.objects o.id ≡ x → (release_all s (Some o)).heap ≡ s.heap
    by None e = rw e refl
    by (Some m) e = rw e refl

begin_fits : (p : PlainProgram) (s : SharedState) (target : ObjRef) → FitsWorld p s → FitsWorld p (begin s target).world
begin_fits p s target world = by (was_started s target.id)
  where
    by_room : (c : Bool) → FitsWorld p (if c then answers (record s { rows = s.rows ++ record { state = row_state.Live; target = Some target; kept = None } ∷ [] }) (reply.Began (length s.rows)) else answers s (reply.Raise fault.ThreadsFull)).world
    by_room true = same_fits p s (record s { rows = s.rows ++ record { state = row_state.Live; target = Some target; kept = None } ∷ [] }) refl refl world
    by_room false = world

    by : (b : Bool) → FitsWorld p (if b then answers s (reply.Raise fault.ThreadState) else if nat_lt (length s.rows) 64 then answers (record s { rows = s.rows ++ record { state = row_state.Live; target = Some target; kept = None } ∷ [] }) (reply.Began (length s.rows)) else answers s (reply.Raise fault.ThreadsFull)).world
    by true = world
    by false = by_room (nat_lt (length s.rows) 64)

print_fits : (p : PlainProgram) (s : SharedState) (bytes : List ℕ) → FitsWorld p s → FitsWorld p (print s bytes).world
print_fits p s bytes world = by (nat_le (length s.output + length bytes) 16777216)
  where
    by : (b : Bool) → FitsWorld p (if b then answers (record s { output = s.output ++ bytes }) reply.Unit else answers s (reply.Raise fault.OutputFull)).world
    by true = same_fits p s (record s { output = s.output ++ bytes }) refl refl world
    by false = world

pub world_fits : (p : PlainProgram) (s : SharedState) (t : ℕ) (o : Op) → FitsWorld p s → is_made_op p o ≡ true → is_enabled (declarations_of p) s t o ≡ true → FitsWorld p (apply (declarations_of p) s t o).world
world_fits p s t (op.GetStatic slot) world made h = world
world_fits p s t (op.PutStatic slot v) world made h =
    let parts = both (is_there (declarations_of p) s v) (fits_declared (declarations_of p) v (static_kind (declarations_of p) slot)) (both (nat_lt slot (length s.statics)) _ (both (is_ready s t) _ h).1).1 in
    record {
      statics = values_set p s.statics (map kind_of_slot p.statics) slot v world.statics
          (λ k e. declared_of p v k (static_kind (declarations_of p) slot) (there_made p s v world parts.0) parts.1 (kinds_of_slots p.statics slot ∙ e));
      heap = world.heap;
    }
world_fits p s t (op.GetField o place) world made h = world
world_fits p s t (op.PutField o place v) world made h =
    let outer = both (is_object s o) _ (both (is_ready s t) _ h).1 in
    let parts = both (is_there (declarations_of p) s v) (fits_declared (declarations_of p) v (kind_at (field_kinds (declarations_of p) o.class) place)) (both (is_some (word_at s o.id place)) _ outer.1).1 in
    let has = object_item s o outer.0 in
    let words = item_fits p s o.id (Some o.class) world has in
    word_fits p s o.id place v (Some o.class) world has
    (words.0, values_set p has.item.words (field_kinds (declarations_of p) o.class) place v words.1 (λ k e. declared_of p v k _ (there_made p s v world parts.0) parts.1 e))
world_fits p s t (op.ArrayLoad arr index) world made h = world
world_fits p s t (op.ArrayStore arr index n) world made h =
    let has = array_item s arr (both (is_array (slice_get s.heap arr)) _ (both (is_ready s t) _ h).1).0 in
    word_fits p s arr index (value.Int n) None world has (all_set (λ (v : Value). is_of p v kind.Int ≡ true) has.item.words index (value.Int n) (item_fits p s arr None world has) refl)
world_fits p s t (op.New class) world made h =
    make_fits p s (record { class = Some class; words = map first_value (field_kinds (declarations_of p) class) }) (value.Obj (length s.heap) class) world (made, first_values p (field_kinds (declarations_of p) class))
world_fits p s t (op.NewArray len) world made h = make_fits p s (record { class = None; words = replicate len (value.Int (pos 0)) }) (value.Arr (length s.heap) len) world (zeros p len)
world_fits p s t (op.Enter l) world made h = enter_fits p s t l (monitor_at s.monitors l) world
world_fits p s t (op.Exit l) world made h = owner_fits p s t (monitor_at s.monitors l) _ (λ m. same_fits p s _ refl refl world) world
world_fits p s t (op.Wait l) world made h = owner_fits p s t (monitor_at s.monitors l) _ (λ m. same_fits p s _ refl refl world) world
world_fits p s t (op.Resume l count) world made h = resume_fits p s t l count (monitor_at s.monitors l) world
world_fits p s t (op.Notify l) world made h = owner_fits p s t (monitor_at s.monitors l) _ (λ m. same_fits p s _ refl refl world) world
world_fits p s t (op.NotifyAll l) world made h = owner_fits p s t (monitor_at s.monitors l) _ (λ m. same_fits p s _ refl refl world) world
world_fits p s t (op.Start target) world made h = begin_fits p s target world
world_fits p s t (op.Join obj) world made h = world
world_fits p s t (op.Print what newline) world made h = print_fits p s (printed (declarations_of p) what newline) world
world_fits p s t op.Yield world made h = world
world_fits p s t op.Tick world made h = world
world_fits p s t op.ThreadEnd world made h = same_fits p s (end_thread s t) (release_statics s (target_of (slice_get s.rows t))) (release_heap s (target_of (slice_get s.rows t))) world
world_fits p s t (op.Fault kind method at) world made h = same_fits p s _ refl refl world

-- ---- what may be started

pub record IsStartable (p : PlainProgram) (target : ObjRef) : Type 0 where
  pub made : has_objects target.class ≡ true
  pub under : extends (declarations_of p) target.class 1 ≡ true

pub startable : (p : PlainProgram) (s : SharedState) (t : ℕ) (target : ObjRef) → FitsWorld p s → is_enabled (declarations_of p) s t (op.Start target) ≡ true → IsStartable p target
startable p s t target world h =
    let parts = both (is_object s target) (is_thread_class (declarations_of p) target.class) (both (is_ready s t) _ h).1 in
    record {
      made = (item_fits p s target.id (Some target.class) world (object_item s target parts.0)).0;
      under = ⊎_elim (λ a. subst (λ (x : ℕ). extends (declarations_of p) x 1 ≡ true) (sym (same target.class 1 a)) (extends_itself (declarations_of p) 1)) (λ a. by (class_at (declarations_of p) target.class) refl a) (either (target.class == 1) (is_thread (class_at (declarations_of p) target.class)) parts.1);
    }
  where
    by : (o : Option PlainClass) → class_at (declarations_of p) target.class ≡ o → is_thread o ≡ true → extends (declarations_of p) target.class 1 ≡ true
    by None e a = absurd (false≢true a)
    by (Some c) e a = thread_class_extends (declarations_of p) target.class c e a

-- ---- the start

start_statics : (p : PlainProgram) (slots : List StaticSlot) → AllByRecursion (λ (s : StaticSlot). is_of p s.start s.kind ≡ true) slots → FitsKinds p (map start_of_slot slots) (map kind_of_slot slots)
start_statics p [] all = tt
start_statics p (s ∷ slots) all = (all.0, start_statics p slots all.1)

pub start_fits : (p : PlainProgram) → IsWellLinked p → FitsWorld p (start (declarations_of p))
start_fits p linked = record { statics = start_statics p p.statics linked.statics; heap = tt }
