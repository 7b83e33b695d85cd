-- When the state of a thread fits a table of shapes.
use Rattle.std.specs.Prelude.{◌≡◌, ◌≢◌, ℕ, Bool, true, List, [], ◌∷◌, Option, Some, None}
use Rattle.vm_model.specs.declared.value.Value.{Value}
use Rattle.vm_model.specs.declared.value.Lock.{Lock}
use Rattle.vm_model.specs.declared.value.Kind.{Kind}
use Rattle.vm_model.specs.declared.op.Op.{Op}
use Rattle.vm_model.specs.declared.op.Op.TheVariants as op
use Rattle.vm_model.specs.declared.op.Reply.{Reply}
use Rattle.vm_model.specs.declared.op.Reply.TheVariants as reply
use Rattle.vm_model.specs.declared.instr.Instr.{Instr}
use Rattle.vm_model.specs.Program.{PlainMethod, PlainProgram, instr_at, method_at}
use Rattle.machine_model.specs.Frames.{Frame, Phase, Plain, Entering, Left, Waiting, Raised, LocalState, Ended, Running}
use Rattle.machine_model.specs.Operands.{Asks, next}
use Rattle.machine_model.specs.Effect.{action}
use Rattle.machine_model.specs.LocalStep.{with_given, with_reply}
use Rattle.machine_model.specs.Shapes.{Shape, Table, Refused, flow, given_kind}
use Rattle.shape_laws.specs.Linked.{has_thread_run}
use Rattle.shape_laws.specs.Fitting.{has_objects, is_made, is_of, FitsAt, FitsShape}

-- what a method gives back is of the kind that it is declared to give
abbrev pub GivenFits : PlainProgram → Option Value → Option Kind → Type 0
GivenFits p None None = Unit {0}
GivenFits p None (Some k) = ⊥
GivenFits p (Some v) None = ⊥
GivenFits p (Some v) (Some k) = is_of p v k ≡ true

-- a frame of a method of the program that fits the table at its place
pub record FitsFrame (p : PlainProgram) (table : Table) (f : Frame) : Type 0 where
  pub method : PlainMethod
  pub is_method : method_at p f.method ≡ Some method
  pub at : FitsAt p table f

-- The instruction of the frame is there and finds what it takes: the operands and the locals are of the kinds of a shape
-- that it doesn't refuse.
pub record FindsOperands (p : PlainProgram) (f : Frame) : Type 0 where
  pub shape : Shape
  pub instruction : Instr
  pub is_there : instr_at p f.method f.place ≡ Some instruction
  pub fits_it : FitsShape p shape f
  pub taken : flow p f.method instruction shape ≢ Refused

-- a frame that stands at a call fits the table after it, whatever its callee gives back
abbrev pub Awaits : PlainProgram → Table → Option Kind → Frame → Type 0
Awaits p table gives f = (given : Option Value) → GivenFits p given gives → FitsFrame p table (next f (with_given given f.stack))

-- each frame below the top awaits what the one above it gives
abbrev pub AllAwait : PlainProgram → Table → ℕ → List Frame → Type 0
AllAwait p table callee [] = Unit {0}
AllAwait p table callee (f ∷ below) = Awaits p table (given_kind (method_at p callee)) f × AllAwait p table f.method below

-- a wait that is done leaves a frame that fits
pub record IsWaiting (p : PlainProgram) (table : Table) (f : Frame) : Type 0 where
  pub operation : Op
  pub count : ℕ
  pub asks : action p f ≡ Asks operation count
  pub behind : FitsFrame p table (with_reply count None f)

pub record IsEntering (p : PlainProgram) (table : Table) (f : Frame) : Type 0 where
  pub lock : Lock
  pub has : f.lock ≡ Some lock
  pub fits : FitsFrame p table f

abbrev pub FitsPhase : PlainProgram → Table → Frame → Phase → Type 0
FitsPhase p table f Plain = FitsFrame p table f
FitsPhase p table f Entering = IsEntering p table f
FitsPhase p table f Left = Unit {0}
FitsPhase p table f (Waiting l count) = IsWaiting p table f
FitsPhase p table f (Raised kind) = Unit {0}

-- each frame of the state fits the table at its place
abbrev pub FitsTable : PlainProgram → Table → LocalState → Type 0
FitsTable p table Ended = Unit {0}
FitsTable p table (Running [] phase) = ⊥
FitsTable p table (Running (f ∷ below) phase) = FitsPhase p table f phase × AllAwait p table f.method below

-- a reply whose value a run may make
abbrev pub is_made_reply : Reply → Bool
is_made_reply reply.Unit = true
is_made_reply (reply.Got v) = is_made v
is_made_reply (reply.Made v) = is_made v
is_made_reply (reply.Began thread) = true
is_made_reply (reply.Waits count) = true
is_made_reply (reply.Raise kind) = true

-- what only some operations ask of a program: an object that is made is of a class that has some, and where a thread is
-- started Thread's own run is there
abbrev pub is_made_op : PlainProgram → Op → Bool
is_made_op p (op.New class) = has_objects class
is_made_op p (op.Start target) = has_thread_run p
is_made_op p _ = true
