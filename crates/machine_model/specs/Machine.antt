-- The machine: the shared world and the state of each thread that was started, turned by thread numbers.
use Rattle.std.specs.Prelude.{◌≡◌, ℕ, ◌==◌, Bool, true, false, ◌&&◌, not, if◌then◌else◌, List, [], ◌∷◌, ◌++◌, length, map, Option, Some, None, slice_get, slice_set, is_none}
use Rattle.std.specs.List.{list_any, list_all, range_with_len}
use Rattle.vm_model.specs.declared.ends.Fault.{Fault}
use Rattle.vm_model.specs.declared.ends.End.{End}
use Rattle.vm_model.specs.declared.ends.End.TheVariants as end
use Rattle.vm_model.specs.declared.op.Entry.{Entry}
use Rattle.vm_model.specs.declared.op.Op.{Op}
use Rattle.vm_model.specs.declared.op.Op.TheVariants as op
use Rattle.vm_model.specs.declared.op.Reply.{Reply}
use Rattle.vm_model.specs.declared.op.Reply.TheVariants as reply
use Rattle.vm_model.specs.Program.{PlainProgram}
use Rattle.machine_model.specs.declared.Row.{Row}
use Rattle.machine_model.specs.Declarations.{declarations_of}
use Rattle.machine_model.specs.Frames.{LocalState}
use Rattle.machine_model.specs.LocalStep.{settled, pending_operation, absorb, first_of_main, first_of_thread}
use Rattle.machine_model.specs.Shared.{SharedState, start, is_live_state}
use Rattle.machine_model.specs.Operations.{Applied, apply, entry}
use Rattle.machine_model.specs.Operations as world

-- a machine, and the events that led to it
pub record MachineState : Type 0 where
  pub world : SharedState
  -- one for each thread that was started
  pub locals : List LocalState
  pub history : List Entry

abbrev pub start_machine : PlainProgram → MachineState
start_machine p = record { world = start (declarations_of p); locals = settled p (first_of_main p) ∷ []; history = [] }

-- ---- turns

-- the states of the threads that an operation and its reply start
abbrev pub begun : PlainProgram → Op → Reply → List LocalState
begun p (op.Start target) (reply.Began thread) = settled p (first_of_thread p target) ∷ []
begun p _ _ = []

abbrev pub after_event : PlainProgram → MachineState → ℕ → LocalState → Op → Applied → MachineState
after_event p m t l o applied =
    record {
      world = applied.world;
      locals = slice_set m.locals t (settled p (absorb p l o applied.reply)) ++ begun p o applied.reply;
      history = m.history ++ entry t o applied.reply ∷ [];
    }

abbrev pub turn_with : PlainProgram → MachineState → ℕ → LocalState → Option Op → Option MachineState
turn_with p m t l None = None
turn_with p m t l (Some o) = if is_none m.world.fault && world.is_enabled (declarations_of p) m.world t o then Some (after_event p m t l o (apply (declarations_of p) m.world t o)) else None

abbrev pub turn_at : PlainProgram → MachineState → ℕ → Option LocalState → Option MachineState
turn_at p m t None = None
turn_at p m t (Some l) = turn_with p m t l (pending_operation p l)

-- the machine after one event of this thread, where the thread can make one
abbrev pub turn : PlainProgram → MachineState → ℕ → Option MachineState
turn p m t = turn_at p m t (slice_get m.locals t)

-- ---- runs

abbrev pub then_run : Option MachineState → (MachineState → Option MachineState) → Option MachineState
then_run None go = None
then_run (Some m) go = go m

-- the machine after the turns of these threads, one after another
abbrev pub run_from : PlainProgram → MachineState → List ℕ → Option MachineState
run_from p m [] = Some m
run_from p m (t ∷ ts) = then_run (turn p m t) (λ n. run_from p n ts)

abbrev pub run : PlainProgram → List ℕ → Option MachineState
run p ts = run_from p (start_machine p) ts

abbrev pub thread_of : Entry → ℕ
thread_of e = e.thread

-- the thread column of a history
abbrev pub threads_of : List Entry → List ℕ
threads_of history = map thread_of history

abbrev pub history_of : Option MachineState → List Entry
history_of None = []
history_of (Some m) = m.history

-- the events of the turns of these threads
abbrev pub history : PlainProgram → List ℕ → List Entry
history p ts = history_of (run p ts)

-- the machine is the run of the thread column of its own history
abbrev pub IsRun : PlainProgram → MachineState → Type 0
IsRun p m = run p (threads_of m.history) ≡ Some m

-- ---- ends

abbrev pub can_do : PlainProgram → MachineState → ℕ → Option Op → Bool
can_do p m t None = false
can_do p m t (Some o) = world.is_enabled (declarations_of p) m.world t o

abbrev pub can_go_on : PlainProgram → MachineState → ℕ → Option LocalState → Bool
can_go_on p m t None = false
can_go_on p m t (Some l) = can_do p m t (pending_operation p l)

-- the thread can make the next event, as far as its operation goes
abbrev pub is_enabled : PlainProgram → MachineState → ℕ → Bool
is_enabled p m t = can_go_on p m t (slice_get m.locals t)

-- the numbers of all threads that were started
abbrev pub all_threads : MachineState → List ℕ
all_threads m = range_with_len 0 (length m.world.rows)

abbrev pub has_ended : Row → Bool
has_ended row = not (is_live_state row.state)

abbrev pub first_end : Option Fault → Bool → Bool → Bool → Option End
first_end (Some f) done stuck spent = Some (end.Fault f)
first_end None true stuck spent = Some end.Done
first_end None false true spent = Some end.Stuck
first_end None false false true = Some end.Spent
first_end None false false false = None

-- how the machine ended, if it did, under a budget of so many events: a fault is marked; all threads that were started have
-- ended; none can go on; the budget is spent
abbrev pub end_of : PlainProgram → MachineState → ℕ → Option End
end_of p m budget =
    first_end m.world.fault (list_all has_ended m.world.rows) (not (list_any (is_enabled p m) (all_threads m))) (length m.history == budget)
