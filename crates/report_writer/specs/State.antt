-- The text of a machine's state, as a function of plain data.
use Rattle.std.specs.Prelude.{ℕ, ◌+◌, Bool, ◌||◌, nat_lt, if◌then◌else◌, List, [], ◌++◌, length, Option, Some, None, is_some, slice_get, option_map, codes, decimal}
use Rattle.std.specs.Fmt.{signed_decimal}
use Rattle.std.specs.List.{flat_map, range_with_len}
use Rattle.vm_model.specs.declared.limits.TheConstants.{FIRST_USER_CLASS}
use Rattle.vm_model.specs.declared.value.Value.{Value}
use Rattle.vm_model.specs.declared.value.Value.TheVariants as value
use Rattle.vm_model.specs.declared.value.Lock.{Lock}
use Rattle.vm_model.specs.declared.value.Lock.TheVariants as lock
use Rattle.vm_model.specs.Program.{PlainProgram}
use Rattle.machine_model.specs.declared.RowState.{RowState}
use Rattle.machine_model.specs.declared.RowState.TheVariants as row_state
use Rattle.machine_model.specs.Machine.{MachineState}
use Rattle.machine_model.specs.Shared.{SharedState, monitor_at, words_of}
use Rattle.shared_world.specs.Reading.{lock_state_of, state_of}
use Rattle.shared_world.specs.declared.world.LockState.{LockState}
use Rattle.report_writer.specs.Names.{class_name, static_name}
use Rattle.report_writer.specs.Texts.{counted, line_feed}

-- ---- statics

abbrev pub value_words : Value → List ℕ
value_words (value.Int n) = signed_decimal n
value_words value.Null = codes "null"
value_words (value.Obj id class) = codes "obj " ++ decimal id
value_words (value.Arr id len) = codes "arr " ++ decimal id
value_words (value.Text text) = codes "text " ++ decimal text
value_words value.Stream = codes "stream"

-- what is held, where there is something
abbrev pub held_words : Option Value → List ℕ
held_words None = []
held_words (Some v) = value_words v

abbrev pub static_line : PlainProgram → SharedState → ℕ → List ℕ
static_line p s slot = codes "static " ++ static_name p slot ++ codes " " ++ held_words (slice_get s.statics slot) ++ line_feed

-- ---- threads

abbrev pub row_word : RowState → List ℕ
row_word row_state.Live = codes "live"
row_word row_state.Waiting = codes "waiting"
row_word row_state.Notified = codes "notified"
row_word row_state.Ended = codes "ended"

abbrev pub row_words : Option RowState → List ℕ
row_words None = []
row_words (Some state) = row_word state

abbrev pub thread_line : SharedState → ℕ → List ℕ
thread_line s thread = codes "thread " ++ decimal thread ++ codes " " ++ row_words (option_map state_of (slice_get s.rows thread)) ++ line_feed

-- ---- locks

abbrev pub lock_name : PlainProgram → Lock → List ℕ
lock_name p (lock.Object id) = codes "obj " ++ decimal id
lock_name p (lock.Class class) = codes "class " ++ class_name p class

abbrev pub owner_words : Option ℕ → List ℕ
owner_words None = codes "none"
owner_words (Some thread) = decimal thread

-- a lock is shown where a thread owns it or waits on it
abbrev pub is_shown : LockState → Bool
is_shown state = is_some state.owner || nat_lt 0 state.waiters

abbrev pub state_words : List ℕ → LockState → List ℕ
state_words name state =
    codes "lock " ++ name ++ codes " owner " ++ owner_words state.owner ++ codes " count " ++ decimal state.count ++ codes " waiters " ++ decimal state.waiters ++ line_feed

abbrev pub shown_lock : List ℕ → Option LockState → List ℕ
shown_lock name None = []
shown_lock name (Some state) = if is_shown state then state_words name state else []

abbrev pub lock_line : PlainProgram → SharedState → Lock → List ℕ
lock_line p s l = shown_lock (lock_name p l) (option_map lock_state_of (monitor_at s.monitors l))

-- ---- the whole

abbrev pub static_lines : PlainProgram → SharedState → ℕ → List ℕ
static_lines p s count = flat_map (static_line p s) (range_with_len 0 count)

abbrev pub thread_lines : SharedState → ℕ → List ℕ
thread_lines s count = flat_map (thread_line s) (range_with_len 0 count)

abbrev pub object_lock_lines : PlainProgram → SharedState → ℕ → List ℕ
object_lock_lines p s count = flat_map (λ id. lock_line p s (lock.Object id)) (range_with_len 0 count)

abbrev pub class_lock_lines : PlainProgram → SharedState → ℕ → List ℕ
class_lock_lines p s count = flat_map (λ i. lock_line p s (lock.Class (FIRST_USER_CLASS + i))) (range_with_len 0 count)

-- The clock of the next event; each static with what it holds; each thread that was started; each lock that is owned or waited
-- on, those of objects and arrays first; how many objects and arrays there are and how many words they take; how many bytes
-- were printed.
abbrev pub state_text : PlainProgram → MachineState → List ℕ
state_text p m =
    counted (codes "clock") (length m.history) ++ static_lines p m.world (length p.statics) ++ thread_lines m.world (length m.world.rows)
    ++ object_lock_lines p m.world (length m.world.heap) ++ class_lock_lines p m.world (length p.classes)
    ++ counted (codes "objects") (length m.world.heap) ++ counted (codes "words") (words_of m.world.heap) ++ counted (codes "output") (length m.world.output)
