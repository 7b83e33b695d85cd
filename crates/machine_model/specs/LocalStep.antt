-- One thread by itself: its local steps, the operation that it asks for next, and what a reply does to it.
use Rattle.std.specs.Prelude.{ℕ, zero, suc, ◌-◌, Bool, false, if◌then◌else◌, nat_lt, List, [], ◌∷◌, ◌++◌, length, reverse, take, drop, replicate, Option, Some, None}
use Rattle.vm_model.specs.declared.limits.TheConstants.{MOST_FRAMES, MOST_LOCAL_STEPS}
use Rattle.vm_model.specs.declared.value.Value.{Value}
use Rattle.vm_model.specs.declared.value.Value.TheVariants as value
use Rattle.vm_model.specs.declared.value.Lock.{Lock}
use Rattle.vm_model.specs.declared.value.Lock.TheVariants as lock
use Rattle.vm_model.specs.declared.value.ObjRef.{ObjRef}
use Rattle.vm_model.specs.declared.ends.FaultKind.{FaultKind}
use Rattle.vm_model.specs.declared.ends.FaultKind.TheVariants as fault
use Rattle.vm_model.specs.declared.op.Op.{Op}
use Rattle.vm_model.specs.declared.op.Op.TheVariants as op
use Rattle.vm_model.specs.declared.op.Reply.{Reply}
use Rattle.vm_model.specs.declared.op.Reply.TheVariants as reply
use Rattle.vm_model.specs.Program.{PlainMethod, PlainProgram, arity_of, locals_of, method_at}
use Rattle.machine_model.specs.Frames.{Frame, Phase, Plain, Entering, Left, Waiting, Raised, LocalState, Ended, Running}
use Rattle.machine_model.specs.Operands.{Action, Goes, Calls, Gives, Asks, Fails, Undefined, next, jump}
use Rattle.machine_model.specs.Effect.{action, lock_if, run_method}

-- ---- calls and returns

abbrev pub arity_at : Option PlainMethod → ℕ
arity_at None = 0
arity_at (Some m) = arity_of m

abbrev pub locals_at : Option PlainMethod → ℕ
locals_at None = 0
locals_at (Some m) = locals_of m

-- the first frame of a call: the receiver and the arguments, and null in the other locals
abbrev pub first_frame : PlainProgram → ℕ → List Value → Option Lock → Frame
first_frame p m arguments l =
    record { method = m; place = 0; locals = arguments ++ replicate (locals_at (method_at p m) - length arguments) value.Null; stack = []; lock = l }

-- the frames after a call: its operands leave the caller's stack, the last one from the top
abbrev pub call_frames : PlainProgram → ℕ → Option Lock → Frame → List Frame → List Frame
call_frames p m l f below =
    first_frame p m (reverse (take (arity_at (method_at p m)) f.stack)) l ∷ jump f f.place (drop (arity_at (method_at p m)) f.stack) ∷ below

abbrev pub with_given : Option Value → List Value → List Value
with_given None stack = stack
with_given (Some v) stack = v ∷ stack

-- the frames after the top one gave back: the call of the caller f is done
abbrev pub return_frames : Option Value → Frame → List Frame → List Frame
return_frames given f below = next f (with_given given f.stack) ∷ below

-- ---- local steps

-- a synchronized frame first gives up its lock, and the last frame has nobody to give back to
abbrev pub moved_back : Option Value → Option Lock → List Frame → Option LocalState
moved_back given None [] = None
moved_back given None (g ∷ below) = Some (Running (return_frames given g below) Plain)
moved_back given (Some l) below = None

-- a synchronized method first enters its lock, and no thread has more than 256 frames
abbrev pub moved_in : PlainProgram → ℕ → Option Lock → Frame → List Frame → Option LocalState
moved_in p m None f below = if nat_lt (length below) (MOST_FRAMES - 1) then Some (Running (call_frames p m None f below) Plain) else None
moved_in p m (Some l) f below = None

-- the local step that an action of the top frame f makes, if it makes one
abbrev pub moved : PlainProgram → Action → Frame → List Frame → Option LocalState
moved p (Goes g) f below = Some (Running (g ∷ below) Plain)
moved p (Calls m l) f below = moved_in p m l f below
moved p (Gives given) f below = moved_back given f.lock below
moved p (Asks o n) f below = None
moved p (Fails kind) f below = None
moved p Undefined f below = None

-- one thread-local instruction, where the next instruction is one
abbrev pub local_step : PlainProgram → LocalState → Option LocalState
local_step p Ended = None
local_step p (Running [] phase) = None
local_step p (Running (f ∷ below) Plain) = moved p (action p f) f below
local_step p (Running (f ∷ below) Entering) = None
local_step p (Running (f ∷ below) Left) = None
local_step p (Running (f ∷ below) (Waiting l count)) = None
local_step p (Running (f ∷ below) (Raised kind)) = None

abbrev pub go_on : Option LocalState → LocalState → (LocalState → LocalState) → LocalState
go_on None l go = l
go_on (Some m) l go = go m

-- after at most n local steps, and fewer only where there is none any more
unfoldable pub settled_within : PlainProgram → ℕ → LocalState → LocalState
settled_within p zero l = l
settled_within p (suc n) l = go_on (local_step p l) l (settled_within p n)

-- after at most 4,096 local steps
abbrev pub settled : PlainProgram → LocalState → LocalState
settled p l = settled_within p MOST_LOCAL_STEPS l

-- ---- operations

abbrev pub fault_at : FaultKind → Frame → Op
fault_at kind f = op.Fault kind f.method f.place

-- the operation of a call that is no local step
abbrev pub asked_in : Option Lock → Frame → List Frame → Op
asked_in None f below = fault_at fault.StackOverflow f
asked_in (Some l) f below = if nat_lt (length below) (MOST_FRAMES - 1) then op.Enter l else fault_at fault.StackOverflow f

abbrev pub asked_back : Option Lock → Op
asked_back None = op.ThreadEnd
asked_back (Some l) = op.Exit l

-- the operation that an action wants, where it is no local step
abbrev pub asked : Action → Frame → List Frame → Option Op
asked (Goes g) f below = None
asked (Calls m l) f below = Some (asked_in l f below)
asked (Gives given) f below = Some (asked_back f.lock)
asked (Asks o n) f below = Some o
asked (Fails kind) f below = Some (fault_at kind f)
asked Undefined f below = None

abbrev pub tick_or : Option LocalState → Option Op → Option Op
tick_or None o = o
tick_or (Some m) o = Some op.Tick

abbrev pub entering : Option Lock → Option Op
entering None = None
entering (Some l) = Some (op.Enter l)

-- the operation that a state asks for: an ended one asks for none
abbrev pub pending_operation : PlainProgram → LocalState → Option Op
pending_operation p Ended = None
pending_operation p (Running [] phase) = None
pending_operation p (Running (f ∷ below) Plain) = tick_or (moved p (action p f) f below) (asked (action p f) f below)
pending_operation p (Running (f ∷ below) Entering) = entering f.lock
pending_operation p (Running (f ∷ below) Left) = Some op.ThreadEnd
pending_operation p (Running (f ∷ below) (Waiting l count)) = Some (op.Resume l count)
pending_operation p (Running (f ∷ below) (Raised kind)) = Some (fault_at kind f)

-- ---- replies

-- the instruction is done: its operands are gone, and the reply brought this value or none
abbrev pub with_reply : ℕ → Option Value → Frame → Frame
with_reply n brought f = next f (with_given brought (drop n f.stack))

-- the lock is given up, and the frame gives back
abbrev pub given_back : Option Value → Frame → List Frame → LocalState
given_back given f [] = Running (f ∷ []) Left
given_back given f (g ∷ below) = Running (return_frames given g below) Plain

abbrev pub completed : PlainProgram → Action → Option Value → Frame → List Frame → LocalState → LocalState
completed p (Goes g) brought f below l = l
completed p (Calls m lock) brought f below l = Running (call_frames p m lock f below) Plain
completed p (Gives given) brought f below l = given_back given f below
completed p (Asks o n) brought f below l = Running (with_reply n brought f ∷ below) Plain
completed p (Fails kind) brought f below l = l
completed p Undefined brought f below l = l

-- the reply to what the phase or the instruction asked for
abbrev pub completes : PlainProgram → LocalState → Option Value → LocalState
completes p Ended brought = Ended
completes p (Running [] phase) brought = Running [] phase
completes p (Running (f ∷ below) Plain) brought = completed p (action p f) brought f below (Running (f ∷ below) Plain)
completes p (Running (f ∷ below) Entering) brought = Running (f ∷ below) Plain
completes p (Running (f ∷ below) Left) brought = Running (f ∷ below) Left
completes p (Running (f ∷ below) (Waiting l count)) brought = completed p (action p f) brought f below (Running (f ∷ below) (Waiting l count))
completes p (Running (f ∷ below) (Raised kind)) brought = Running (f ∷ below) (Raised kind)

-- what a reply does to the thread
pub data Outcome : Type 0 where
  -- nothing
  Stays : Outcome
  Ends : Outcome
  Raises : FaultKind → Outcome
  StartsWaiting : Lock → ℕ → Outcome
  -- what was asked for is done, with this value or none
  Completes : Option Value → Outcome

abbrev pub unit_outcome : Op → Outcome
unit_outcome op.Tick = Stays
unit_outcome (op.Fault kind method at) = Stays
unit_outcome op.ThreadEnd = Ends
unit_outcome _ = Completes None

abbrev pub waits_outcome : Op → ℕ → Outcome
waits_outcome (op.Wait l) count = StartsWaiting l count
waits_outcome _ count = Completes None

abbrev pub outcome : Op → Reply → Outcome
outcome o reply.Unit = unit_outcome o
outcome o (reply.Got v) = Completes (Some v)
outcome o (reply.Made v) = Completes (Some v)
outcome o (reply.Began thread) = Completes None
outcome o (reply.Waits count) = waits_outcome o count
outcome o (reply.Raise kind) = Raises kind

abbrev pub in_phase : LocalState → Phase → LocalState
in_phase Ended phase = Ended
in_phase (Running frames old) phase = Running frames phase

abbrev pub after_outcome : PlainProgram → LocalState → Outcome → LocalState
after_outcome p l Stays = l
after_outcome p l Ends = Ended
after_outcome p l (Raises kind) = in_phase l (Raised kind)
after_outcome p l (StartsWaiting lock count) = in_phase l (Waiting lock count)
after_outcome p l (Completes brought) = completes p l brought

-- the state after the reply to its pending operation
abbrev pub absorb : PlainProgram → LocalState → Op → Reply → LocalState
absorb p l o r = after_outcome p l (outcome o r)

-- ---- first states

abbrev pub is_synchronized : Option PlainMethod → Bool
is_synchronized None = false
is_synchronized (Some m) = m.is_synchronized

abbrev pub class_of : Option PlainMethod → ℕ
class_of None = 0
class_of (Some m) = m.class

abbrev pub first_phase : Option Lock → Phase
first_phase None = Plain
first_phase (Some l) = Entering

-- a thread at the begin of this method
abbrev pub begun_in : PlainProgram → ℕ → List Value → Option Lock → LocalState
begun_in p m arguments l = Running (first_frame p m arguments l ∷ []) (first_phase l)

-- the main thread before its first step: main has one argument, which is null here
abbrev pub first_of_main : PlainProgram → LocalState
first_of_main p = begun_in p p.main (value.Null ∷ []) (lock_if (is_synchronized (method_at p p.main)) (lock.Class (class_of (method_at p p.main))))

-- a started thread before its first step
abbrev pub first_of_thread : PlainProgram → ObjRef → LocalState
first_of_thread p target =
    let m = run_method p target.class in
    begun_in p m (value.Obj target.id target.class ∷ []) (lock_if (is_synchronized (method_at p m)) (lock.Object target.id))
