-- The state that the fields of a thread stand for, and what it asks for.
use Rattle.std.specs.Prelude.{◌≡◌, ℕ, ◌+◌, ◌-◌, Bool, true, false, if◌then◌else◌, nat_lt, List, ◌∷◌, Option, Some, None}
use Rattle.vm_model.specs.declared.limits.TheConstants.{MOST_FRAMES, MOST_LOCAL_STEPS}
use Rattle.vm_model.specs.declared.value.Lock.{Lock}
use Rattle.vm_model.specs.declared.op.Op.{Op}
use Rattle.vm_model.specs.declared.op.Op.TheVariants as op
use Rattle.vm_model.specs.declared.ends.FaultKind.TheVariants as fault
use Rattle.vm_model.specs.Program.{PlainProgram}
use Rattle.machine_model.specs.Frames as model
use Rattle.machine_model.specs.Effect.{action}
use Rattle.machine_model.specs.LocalStep.{entering, fault_at, pending_operation, settled_within}
use Rattle.frame_actions.specs.declared.acted.Acted.{Acted}
use Rattle.frame_actions.specs.declared.acted.Acted.TheVariants as acted
use Rattle.local_machine.specs.declared.completion.Ready.{Ready}
use Rattle.local_machine.specs.declared.completion.Completion.TheVariants as code
use Rattle.frame_actions.specs.Acts.{acted_of}
use Rattle.frame_actions.specs.declared.frame.Frame.{Frame}
use Rattle.local_machine.specs.declared.phase.Phase.{Phase}
use Rattle.local_machine.specs.declared.phase.Phase.TheVariants as phase
use Rattle.local_machine.specs.Completions.{Completion, Nothing, completion}
use Rattle.local_machine.specs.Fields.{HasRoomFor, Stands, completion_of, frames_of}
use Rattle.local_machine.specs.LocalView.{is_running, steps_within}
use Rattle.local_machine.specs.Steps.{IsSettled}

abbrev pub state_of : Phase → Frame → List Frame → model.LocalState
state_of phase.Plain top below = model.Running (frames_of top below) model.Plain
state_of phase.Entering top below = model.Running (frames_of top below) model.Entering
state_of phase.Left top below = model.Running (frames_of top below) model.Left
state_of (phase.Waiting lock count) top below = model.Running (frames_of top below) (model.Waiting lock count)
state_of (phase.Raised kind) top below = model.Running (frames_of top below) (model.Raised kind)
state_of phase.Ended top below = model.Ended

-- the operation of a frame whose instruction does this, with so many frames below it: a local step that is left makes a Tick
abbrev pub wanted_call : Option Lock → model.Frame → Bool → Op
wanted_call None f has_room = if has_room then op.Tick else fault_at fault.StackOverflow f
wanted_call (Some l) f has_room = if has_room then op.Enter l else fault_at fault.StackOverflow f

abbrev pub wanted_return : Option Lock → Bool → Op
wanted_return None has_caller = if has_caller then op.Tick else op.ThreadEnd
wanted_return (Some l) has_caller = op.Exit l

abbrev pub wanted : Acted → model.Frame → ℕ → Option Op
wanted acted.Goes f below = Some op.Tick
wanted (acted.Calls m l) f below = Some (wanted_call l f (nat_lt below (MOST_FRAMES - 1)))
wanted (acted.Gives given) f below = Some (wanted_return f.lock (nat_lt 0 below))
wanted (acted.Asks o n) f below = Some o
wanted (acted.Fails kind) f below = Some (fault_at kind f)
wanted acted.Undefined f below = None

abbrev pub pending_in : Option Ready → Option Op
pending_in None = None
pending_in (Some r) = r.op

abbrev pub completion_in : Option Ready → Completion
completion_in None = Nothing
completion_in (Some r) = completion_of r.completion

abbrev pub HasRoomIn : Option Ready → Frame → List Frame → ℕ → ℕ → Type 0
HasRoomIn None top below count room = Unit {0}
HasRoomIn (Some r) top below count room = HasRoomFor r.completion top below count room

-- what a state asks for, and nothing where it is ended
abbrev pub IsAskedBy : PlainProgram → model.LocalState → Option Ready → Type 0
IsAskedBy p l None = is_running l ≡ false
IsAskedBy p l (Some r) = (is_running l ≡ true) × (r.op ≡ pending_operation p l) × (completion_of r.completion ≡ completion p l)

-- the state that another leads to was reached, and this is what it asks for
pub record IsReached (p : PlainProgram) (old : model.LocalState) (steps : ℕ) (new : model.LocalState) (steps' : ℕ) (r : Option Ready) : Type 0 where
  pub state : new ≡ settled_within p (MOST_LOCAL_STEPS - steps) old
  pub count : steps' ≡ steps + steps_within p (MOST_LOCAL_STEPS - steps) old
  pub asked : IsAskedBy p new r

-- nothing was done, and the thread stands at no instruction
abbrev pub IsElsewhere : model.Frame → List model.Frame → ℕ → model.Frame → List model.Frame → ℕ → Option Acted → Type 0
IsElsewhere f below steps g below' steps' a = (a ≡ None) × (g ≡ f) × (below' ≡ below) × (steps' ≡ steps)

-- what the instruction does at which the frame g stands, on which f came by its own steps; a thread that waits makes none
abbrev pub StandsAt : PlainProgram → Phase → model.Frame → List model.Frame → ℕ → model.Frame → List model.Frame → ℕ → Option Acted → Type 0
StandsAt p phase.Plain f below steps g below' steps' (Some a) = IsSettled p (model.Running (f ∷ below) model.Plain) steps g below' steps' a
StandsAt p phase.Plain f below steps g below' steps' None = ⊥
StandsAt p (phase.Waiting l k) f below steps g below' steps' (Some a) = (g ≡ f) × (below' ≡ below) × (steps' ≡ steps) × (a ≡ acted_of (action p f))
StandsAt p (phase.Waiting l k) f below steps g below' steps' None = ⊥
StandsAt p phase.Entering f below steps g below' steps' a = IsElsewhere f below steps g below' steps' a
StandsAt p phase.Left f below steps g below' steps' a = IsElsewhere f below steps g below' steps' a
StandsAt p (phase.Raised kind) f below steps g below' steps' a = IsElsewhere f below steps g below' steps' a
StandsAt p phase.Ended f below steps g below' steps' a = IsElsewhere f below steps g below' steps' a

abbrev pub StandsIn : Option Acted → Frame → Type 0
StandsIn None f = Unit {0}
StandsIn (Some a) f = Stands a f

-- what a thread asks for that stands at no instruction
abbrev pub ready_elsewhere : Phase → model.Frame → Option Ready
ready_elsewhere phase.Entering f = Some (record { op = entering f.lock; completion = code.Begins })
ready_elsewhere phase.Left f = Some (record { op = Some op.ThreadEnd; completion = code.Nothing })
ready_elsewhere (phase.Raised kind) f = Some (record { op = Some (fault_at kind f); completion = code.Nothing })
ready_elsewhere phase.Ended f = None
ready_elsewhere phase.Plain f = None
ready_elsewhere (phase.Waiting l k) f = None

-- one that waits takes its lock again first
abbrev pub ready_at : Phase → Ready → Ready
ready_at (phase.Waiting l k) r = record r { op = Some (op.Resume l k) }
ready_at phase.Plain r = r
ready_at phase.Entering r = r
ready_at phase.Left r = r
ready_at (phase.Raised kind) r = r
ready_at phase.Ended r = r
