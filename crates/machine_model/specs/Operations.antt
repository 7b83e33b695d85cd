-- The operations on the shared world: when each is enabled, what it does, and what it answers (JLS SE 8, chapter 17; the
-- class library's rules for Object and Thread).
use Rattle.std.specs.Prelude.{◌≡◌, ℕ, ◌+◌, ◌==◌, pos, Bool, true, false, ◌&&◌, ◌||◌, not, if◌then◌else◌, nat_lt, nat_le, List, [], ◌∷◌, ◌++◌, length, map, replicate, Option, Some, None, slice_get, slice_set, is_none, is_some, codes}
use Rattle.std.specs.Fmt.{signed_decimal}
use Rattle.std.specs.List.{list_any}
use Rattle.vm_model.specs.declared.limits.TheConstants.{MOST_HEAP_WORDS, MOST_OBJECTS, MOST_OUTPUT_BYTES, MOST_THREADS}
use Rattle.vm_model.specs.declared.value.Value.{Value}
use Rattle.vm_model.specs.declared.value.Value.TheVariants as value
use Rattle.vm_model.specs.declared.value.Lock.{Lock}
use Rattle.vm_model.specs.declared.value.Lock.TheVariants as lock
use Rattle.vm_model.specs.declared.value.ObjRef.{ObjRef}
use Rattle.vm_model.specs.declared.value.Kind.{Kind}
use Rattle.vm_model.specs.declared.value.Kind.TheVariants as kind
use Rattle.vm_model.specs.declared.ends.FaultKind.{FaultKind}
use Rattle.vm_model.specs.declared.ends.FaultKind.TheVariants as fault
use Rattle.vm_model.specs.declared.op.Piece.{Piece}
use Rattle.vm_model.specs.declared.op.Piece.TheVariants as piece
use Rattle.vm_model.specs.declared.op.Op.{Op}
use Rattle.vm_model.specs.declared.op.Op.TheVariants as op
use Rattle.vm_model.specs.declared.op.Reply.{Reply}
use Rattle.vm_model.specs.declared.op.Reply.TheVariants as reply
use Rattle.vm_model.specs.declared.op.Entry.{Entry}
use Rattle.machine_model.specs.Declarations.{Declarations, text_at}
use Rattle.machine_model.specs.declared.Row.{Row}
use Rattle.machine_model.specs.declared.RowState.{RowState}
use Rattle.machine_model.specs.declared.RowState.TheVariants as row_state
use Rattle.machine_model.specs.declared.Kept.{Kept}
use Rattle.machine_model.specs.Kinds.{field_kinds, first_value, fits_declared, is_class, is_thread_class, static_kind}
use Rattle.machine_model.specs.Shared.{HeapItem, Monitor, SharedState, monitor_at, with_monitor, is_owner, is_free, entered, exited, waited, resumed, one_notified, all_notified, with_object, words_of, is_live_state, start}

-- ---- what an operation names

abbrev pub is_item_of : ℕ → Option HeapItem → Bool
is_item_of class None = false
is_item_of class (Some item) = is_number class item.class
  where
    is_number : ℕ → Option ℕ → Bool
    is_number class None = false
    is_number class (Some c) = c == class

abbrev pub is_array_of : ℕ → Option HeapItem → Bool
is_array_of len None = false
is_array_of len (Some item) = is_none item.class && (length item.words == len)

-- there is an object of this id and class
abbrev pub is_object : SharedState → ObjRef → Bool
is_object s o = is_item_of o.class (slice_get s.heap o.id)

-- what the value names is there, an object with its own class and an array with its own length
abbrev pub is_there : Declarations → SharedState → Value → Bool
is_there d s (value.Int n) = true
is_there d s value.Null = true
is_there d s (value.Obj id class) = is_object s (record { id = id; class = class })
is_there d s (value.Arr id len) = is_array_of len (slice_get s.heap id)
is_there d s (value.Text text) = nat_lt text (length d.texts)
is_there d s value.Stream = true

abbrev pub word_in : Option HeapItem → ℕ → Option Value
word_in None place = None
word_in (Some item) place = slice_get item.words place

-- the field or the item at this place
abbrev pub word_at : SharedState → ℕ → ℕ → Option Value
word_at s id place = word_in (slice_get s.heap id) place

abbrev pub is_array : Option HeapItem → Bool
is_array None = false
is_array (Some item) = is_none item.class

-- an object, whatever its class
abbrev pub is_any_object : Option HeapItem → Bool
is_any_object None = false
is_any_object (Some item) = is_some item.class

abbrev pub is_lock : SharedState → Lock → Bool
is_lock s l = is_some (monitor_at s.monitors l)

-- ---- threads

abbrev pub is_ready_state : RowState → Bool
is_ready_state row_state.Live = true
is_ready_state row_state.Waiting = false
is_ready_state row_state.Notified = false
is_ready_state row_state.Ended = false

abbrev pub is_ready_row : Option Row → Bool
is_ready_row None = false
is_ready_row (Some row) = is_ready_state row.state

-- the thread is live, and neither waiting nor notified
abbrev pub is_ready : SharedState → ℕ → Bool
is_ready s t = is_ready_row (slice_get s.rows t)

abbrev pub same_lock : Lock → Lock → Bool
same_lock (lock.Object id) (lock.Object id') = id == id'
same_lock (lock.Object id) (lock.Class class) = false
same_lock (lock.Class class) (lock.Class class') = class == class'
same_lock (lock.Class class) (lock.Object id) = false

abbrev pub keeps : Option Kept → Lock → ℕ → Bool
keeps None l count = false
keeps (Some k) l count = same_lock k.lock l && (k.count == count)

abbrev pub is_notified_state : RowState → Bool
is_notified_state row_state.Live = false
is_notified_state row_state.Waiting = false
is_notified_state row_state.Notified = true
is_notified_state row_state.Ended = false

abbrev pub may_resume_row : Option Row → Lock → ℕ → Bool
may_resume_row None l count = false
may_resume_row (Some row) l count = is_notified_state row.state && keeps row.kept l count

-- the thread was notified, and its wait was on this lock, entered so often
abbrev pub may_resume : SharedState → ℕ → Lock → ℕ → Bool
may_resume s t l count = may_resume_row (slice_get s.rows t) l count

abbrev pub is_id_of : ℕ → Option ObjRef → Bool
is_id_of id None = false
is_id_of id (Some o) = o.id == id

abbrev pub has_target : ℕ → Row → Bool
has_target id row = is_id_of id row.target

-- a thread of this object was started
abbrev pub was_started : SharedState → ℕ → Bool
was_started s id = list_any (has_target id) s.rows

abbrev pub runs_for : ℕ → Row → Bool
runs_for id row = has_target id row && is_live_state row.state

-- a thread of this object was started and hasn't ended
abbrev pub is_running : SharedState → ℕ → Bool
is_running s id = list_any (runs_for id) s.rows

-- ---- locks

abbrev pub free_for : Option Monitor → ℕ → Bool
free_for None t = false
free_for (Some m) t = is_free m || is_owner m t

-- the lock is free, or the thread owns it
abbrev pub is_free_for : SharedState → Lock → ℕ → Bool
is_free_for s l t = free_for (monitor_at s.monitors l) t

abbrev pub free_lock : Option Monitor → Bool
free_lock None = false
free_lock (Some m) = is_free m

abbrev pub is_free_lock : SharedState → Lock → Bool
is_free_lock s l = free_lock (monitor_at s.monitors l)

-- ---- enabled

abbrev pub kind_at : List Kind → ℕ → Option Kind
kind_at kinds place = slice_get kinds place

abbrev pub is_piece : Declarations → Piece → Bool
is_piece d (piece.Int n) = true
is_piece d (piece.Text text) = nat_lt text (length d.texts)
is_piece d piece.Null = true
is_piece d piece.Nothing = true

-- All that the operation names is there, a value to be kept fits, and what the operation asks besides holds. All but
-- Resume ask for a thread that neither waits nor was notified.
abbrev pub is_enabled : Declarations → SharedState → ℕ → Op → Bool
is_enabled d s t (op.GetStatic slot) = is_ready s t && nat_lt slot (length s.statics)
is_enabled d s t (op.PutStatic slot v) = is_ready s t && (nat_lt slot (length s.statics) && (is_there d s v && fits_declared d v (static_kind d slot)))
is_enabled d s t (op.GetField o place) = is_ready s t && (is_object s o && is_some (word_at s o.id place))
is_enabled d s t (op.PutField o place v) =
    is_ready s t && (is_object s o && (is_some (word_at s o.id place) && (is_there d s v && fits_declared d v (kind_at (field_kinds d o.class) place))))
is_enabled d s t (op.ArrayLoad arr index) = is_ready s t && (is_array (slice_get s.heap arr) && is_some (word_at s arr index))
is_enabled d s t (op.ArrayStore arr index n) = is_ready s t && (is_array (slice_get s.heap arr) && is_some (word_at s arr index))
is_enabled d s t (op.New class) = is_ready s t && is_class d class
is_enabled d s t (op.NewArray len) = is_ready s t
is_enabled d s t (op.Enter l) = is_ready s t && is_free_for s l t
is_enabled d s t (op.Exit l) = is_ready s t && is_lock s l
is_enabled d s t (op.Wait l) = is_ready s t && is_lock s l
is_enabled d s t (op.Resume l count) = may_resume s t l count && is_free_lock s l
is_enabled d s t (op.Notify l) = is_ready s t && is_lock s l
is_enabled d s t (op.NotifyAll l) = is_ready s t && is_lock s l
is_enabled d s t (op.Start target) = is_ready s t && (is_object s target && is_thread_class d target.class)
is_enabled d s t (op.Join obj) = is_ready s t && (is_any_object (slice_get s.heap obj) && not (is_running s obj))
is_enabled d s t (op.Print what newline) = is_ready s t && is_piece d what
is_enabled d s t op.Yield = is_ready s t
is_enabled d s t op.Tick = is_ready s t
is_enabled d s t op.ThreadEnd = is_ready s t
is_enabled d s t (op.Fault kind method at) = is_ready s t

-- ---- applied

-- the world after an operation, and the reply
pub record Applied : Type 0 where
  pub world : SharedState
  pub reply : Reply

abbrev pub answers : SharedState → Reply → Applied
answers s r = record { world = s; reply = r }

abbrev pub got : Option Value → Reply
got None = reply.Unit
got (Some v) = reply.Got v

abbrev pub put_word : Option HeapItem → ℕ → Value → List HeapItem → ℕ → List HeapItem
put_word None place v heap id = heap
put_word (Some item) place v heap id = slice_set heap id (record { class = item.class; words = slice_set item.words place v })

abbrev pub with_word : SharedState → ℕ → ℕ → Value → SharedState
with_word s id place v = record s { heap = put_word (slice_get s.heap id) place v s.heap id }

-- room for one more object or array of so many words, itself included
abbrev pub has_room : SharedState → ℕ → Bool
has_room s words = nat_lt (length s.heap) MOST_OBJECTS && nat_le (words_of s.heap + words) MOST_HEAP_WORDS

abbrev pub with_item : SharedState → HeapItem → SharedState
with_item s item = record s { heap = s.heap ++ item ∷ []; monitors = with_object s.monitors }

abbrev pub set_monitor : SharedState → Lock → Monitor → SharedState
set_monitor s l m = record s { monitors = with_monitor s.monitors l m }

abbrev pub row_in : Option Row → RowState → Option Kept → Row
row_in None state kept = record { state = state; target = None; kept = kept }
row_in (Some row) state kept = record { state = state; target = row.target; kept = kept }

-- the threads with this one in another state
abbrev pub set_row : List Row → ℕ → RowState → Option Kept → List Row
set_row rows t state kept = slice_set rows t (row_in (slice_get rows t) state kept)

abbrev pub kept_of : Option Row → Option Kept
kept_of None = None
kept_of (Some row) = row.kept

-- these threads are notified
abbrev pub notify_rows : List Row → List ℕ → List Row
notify_rows rows [] = rows
notify_rows rows (t ∷ ts) = notify_rows (set_row rows t row_state.Notified (kept_of (slice_get rows t))) ts

abbrev pub first_of : List ℕ → List ℕ
first_of [] = []
first_of (t ∷ ts) = t ∷ []

-- what only the owner may do
abbrev pub as_owner : SharedState → ℕ → Option Monitor → (Monitor → Applied) → Applied
as_owner s t None go = answers s (reply.Raise fault.MonitorState)
as_owner s t (Some m) go = if is_owner m t then go m else answers s (reply.Raise fault.MonitorState)

abbrev pub enter : SharedState → ℕ → Lock → Option Monitor → SharedState
enter s t l None = s
enter s t l (Some m) = set_monitor s l (entered m t)

abbrev pub resume : SharedState → ℕ → Lock → ℕ → Option Monitor → SharedState
resume s t l count None = s
resume s t l count (Some m) = record (set_monitor s l (resumed m t count)) { rows = set_row s.rows t row_state.Live None }

abbrev pub release_all : SharedState → Option ObjRef → SharedState
release_all s None = s
release_all s (Some o) = released s (lock.Object o.id) (monitor_at s.monitors (lock.Object o.id))
  where
    released : SharedState → Lock → Option Monitor → SharedState
    released s l None = s
    released s l (Some m) = record (set_monitor s l (all_notified m)) { rows = notify_rows s.rows m.waiters }

abbrev pub target_of : Option Row → Option ObjRef
target_of None = None
target_of (Some row) = row.target

-- the thread has ended, and all that wait on its object are notified
abbrev pub end_thread : SharedState → ℕ → SharedState
end_thread s t = record (release_all s (target_of (slice_get s.rows t))) { rows = set_row (release_all s (target_of (slice_get s.rows t))).rows t row_state.Ended None }

-- the bytes of a piece
abbrev pub piece_bytes : Declarations → Piece → List ℕ
piece_bytes d (piece.Int n) = signed_decimal n
piece_bytes d (piece.Text text) = text_at d text
piece_bytes d piece.Null = codes "null"
piece_bytes d piece.Nothing = []

abbrev pub printed : Declarations → Piece → Bool → List ℕ
printed d what newline = piece_bytes d what ++ (if newline then 10 ∷ [] else [])

abbrev pub print : SharedState → List ℕ → Applied
print s bytes =
    if nat_le (length s.output + length bytes) MOST_OUTPUT_BYTES then answers (record s { output = s.output ++ bytes }) reply.Unit
    else answers s (reply.Raise fault.OutputFull)

abbrev pub begin : SharedState → ObjRef → Applied
begin s target =
    if was_started s target.id then answers s (reply.Raise fault.ThreadState)
    else if nat_lt (length s.rows) MOST_THREADS
    then answers (record s { rows = s.rows ++ record { state = row_state.Live; target = Some target; kept = None } ∷ [] }) (reply.Began (length s.rows))
    else answers s (reply.Raise fault.ThreadsFull)

abbrev pub make : SharedState → HeapItem → Value → Applied
make s item v = if has_room s (1 + length item.words) then answers (with_item s item) (reply.Made v) else answers s (reply.Raise fault.HeapFull)

-- the world after an enabled operation, and the reply
abbrev pub apply : Declarations → SharedState → ℕ → Op → Applied
apply d s t (op.GetStatic slot) = answers s (got (slice_get s.statics slot))
apply d s t (op.PutStatic slot v) = answers (record s { statics = slice_set s.statics slot v }) reply.Unit
apply d s t (op.GetField o place) = answers s (got (word_at s o.id place))
apply d s t (op.PutField o place v) = answers (with_word s o.id place v) reply.Unit
apply d s t (op.ArrayLoad arr index) = answers s (got (word_at s arr index))
apply d s t (op.ArrayStore arr index n) = answers (with_word s arr index (value.Int n)) reply.Unit
apply d s t (op.New class) = make s (record { class = Some class; words = map first_value (field_kinds d class) }) (value.Obj (length s.heap) class)
apply d s t (op.NewArray len) = make s (record { class = None; words = replicate len (value.Int (pos 0)) }) (value.Arr (length s.heap) len)
apply d s t (op.Enter l) = answers (enter s t l (monitor_at s.monitors l)) reply.Unit
apply d s t (op.Exit l) = as_owner s t (monitor_at s.monitors l) (λ m. answers (set_monitor s l (exited m)) reply.Unit)
apply d s t (op.Wait l) =
    as_owner s t (monitor_at s.monitors l)
    (λ m. answers (record (set_monitor s l (waited m t)) { rows = set_row s.rows t row_state.Waiting (Some (record { lock = l; count = m.count })) }) (reply.Waits m.count))
apply d s t (op.Resume l count) = answers (resume s t l count (monitor_at s.monitors l)) reply.Unit
apply d s t (op.Notify l) =
    as_owner s t (monitor_at s.monitors l)
    (λ m. answers (record (set_monitor s l (one_notified m)) { rows = notify_rows s.rows (first_of m.waiters) }) reply.Unit)
apply d s t (op.NotifyAll l) =
    as_owner s t (monitor_at s.monitors l)
    (λ m. answers (record (set_monitor s l (all_notified m)) { rows = notify_rows s.rows m.waiters }) reply.Unit)
apply d s t (op.Start target) = begin s target
apply d s t (op.Join obj) = answers s reply.Unit
apply d s t (op.Print what newline) = print s (printed d what newline)
apply d s t op.Yield = answers s reply.Unit
apply d s t op.Tick = answers s reply.Unit
apply d s t op.ThreadEnd = answers (end_thread s t) reply.Unit
apply d s t (op.Fault kind method at) = answers (record s { fault = Some (record { kind = kind; thread = t; method = method; at = at }) }) reply.Unit

-- ---- histories

abbrev pub entry : ℕ → Op → Reply → Entry
entry t o r = record { thread = t; op = o; reply = r }

-- From the world s these entries lead to the world end: each operation is enabled while no fault is marked, and gets the
-- reply that is written.
abbrev pub LeadsTo : Declarations → SharedState → List Entry → SharedState → Type 0
LeadsTo d s [] end = s ≡ end
LeadsTo d s (e ∷ es) end =
    (s.fault ≡ None) × (is_enabled d s e.thread e.op ≡ true) × ((apply d s e.thread e.op).reply ≡ e.reply) × LeadsTo d (apply d s e.thread e.op).world es end

-- each reply is the one that the operations before it lead to, from the start of the program
abbrev pub IsLegalHistory : Declarations → List Entry → SharedState → Type 0
IsLegalHistory d history end = LeadsTo d (start d) history end

-- ---- replies that fit

abbrev pub is_unit : Reply → Bool
is_unit reply.Unit = true
is_unit (reply.Got v) = false
is_unit (reply.Made v) = false
is_unit (reply.Began u) = false
is_unit (reply.Waits count) = false
is_unit (reply.Raise k) = false

abbrev pub gets : Declarations → Option Kind → Reply → Bool
gets d k reply.Unit = false
gets d k (reply.Got v) = fits_declared d v k
gets d k (reply.Made v) = false
gets d k (reply.Began u) = false
gets d k (reply.Waits count) = false
gets d k (reply.Raise kind) = false

abbrev pub is_new_object : ℕ → Value → Bool
is_new_object class (value.Int n) = false
is_new_object class value.Null = false
is_new_object class (value.Obj id c) = c == class
is_new_object class (value.Arr id len) = false
is_new_object class (value.Text text) = false
is_new_object class value.Stream = false

abbrev pub is_new_array : ℕ → Value → Bool
is_new_array len (value.Int n) = false
is_new_array len value.Null = false
is_new_array len (value.Obj id c) = false
is_new_array len (value.Arr id l) = l == len
is_new_array len (value.Text text) = false
is_new_array len value.Stream = false

abbrev pub is_kind : FaultKind → FaultKind → Bool
is_kind fault.HeapFull fault.HeapFull = true
is_kind fault.MonitorState fault.MonitorState = true
is_kind fault.ThreadState fault.ThreadState = true
is_kind fault.ThreadsFull fault.ThreadsFull = true
is_kind fault.OutputFull fault.OutputFull = true
is_kind _ _ = false

abbrev pub raises : FaultKind → Reply → Bool
raises k reply.Unit = false
raises k (reply.Got v) = false
raises k (reply.Made v) = false
raises k (reply.Began u) = false
raises k (reply.Waits count) = false
raises k (reply.Raise k') = is_kind k k'

abbrev pub makes : (Value → Bool) → Reply → Bool
makes test reply.Unit = false
makes test (reply.Got v) = false
makes test (reply.Made v) = test v
makes test (reply.Began u) = false
makes test (reply.Waits count) = false
makes test (reply.Raise k) = false

abbrev pub begins : Reply → Bool
begins reply.Unit = false
begins (reply.Got v) = false
begins (reply.Made v) = false
begins (reply.Began u) = true
begins (reply.Waits count) = false
begins (reply.Raise k) = false

abbrev pub waits : Reply → Bool
waits reply.Unit = false
waits (reply.Got v) = false
waits (reply.Made v) = false
waits (reply.Began u) = false
waits (reply.Waits count) = true
waits (reply.Raise k) = false

-- the reply may be one to the operation
abbrev pub fits_reply : Declarations → Op → Reply → Bool
fits_reply d (op.GetStatic slot) r = gets d (static_kind d slot) r
fits_reply d (op.PutStatic slot v) r = is_unit r
fits_reply d (op.GetField o place) r = gets d (kind_at (field_kinds d o.class) place) r
fits_reply d (op.PutField o place v) r = is_unit r
fits_reply d (op.ArrayLoad arr index) r = gets d (Some kind.Int) r
fits_reply d (op.ArrayStore arr index n) r = is_unit r
fits_reply d (op.New class) r = makes (is_new_object class) r || raises fault.HeapFull r
fits_reply d (op.NewArray len) r = makes (is_new_array len) r || raises fault.HeapFull r
fits_reply d (op.Enter l) r = is_unit r
fits_reply d (op.Exit l) r = is_unit r || raises fault.MonitorState r
fits_reply d (op.Wait l) r = waits r || raises fault.MonitorState r
fits_reply d (op.Resume l count) r = is_unit r
fits_reply d (op.Notify l) r = is_unit r || raises fault.MonitorState r
fits_reply d (op.NotifyAll l) r = is_unit r || raises fault.MonitorState r
fits_reply d (op.Start target) r = begins r || (raises fault.ThreadState r || raises fault.ThreadsFull r)
fits_reply d (op.Join obj) r = is_unit r
fits_reply d (op.Print what newline) r = is_unit r || raises fault.OutputFull r
fits_reply d op.Yield r = is_unit r
fits_reply d op.Tick r = is_unit r
fits_reply d op.ThreadEnd r = is_unit r
fits_reply d (op.Fault kind method at) r = is_unit r
