-- Why a lane left.
use Rattle.std.specs.Prelude.{◌≡◌, ◌⊎◌, ℕ, ◌+◌, ◌%◌, ◌<◌, ◌≤◌, true, List, Contains, Some}
use Rattle.std.specs.List.{AllByRecursion}
use Rattle.vm_model.specs.declared.limits.TheConstants.{MOST_THREADS}
use Rattle.vm_model.specs.declared.value.ObjRef.{ObjRef}
use Rattle.vm_model.specs.declared.op.Op.TheVariants as op
use Rattle.vm_model.specs.Program.{PlainProgram}
use Rattle.built_in_classes.specs.declared.numbers.TheConstants.{THREAD}
use Rattle.machine_model.specs.Declarations.{Declarations, declarations_of}
use Rattle.machine_model.specs.Kinds.{extends}
use Rattle.machine_model.specs.Operations.{fits_reply}
use Rattle.machine_model.specs.Shapes.{IsVerified}
use Rattle.shape_laws.specs.Fitting.{has_objects}
use Rattle.shape_laws.specs.Linked.{IsWellLinked, has_thread_run}
use Rattle.shape_laws.specs.States.{is_made_reply}
use Rattle.gate_core.specs.Seats.{Placed, SeatView}
use Rattle.lane_core.specs.Parts.{IsToldOff}
use Rattle.lane_core.specs.declared.pace.TheConstants.{MOST_IDLE}
use Rattle.lane_core.specs.declared.pace.LaneEnd.{LaneEnd}
use Rattle.lane_core.specs.declared.pace.LaneEnd.TheVariants as ends

-- the reply of an entry is one to its operation
pub record FitsEntry (d : Declarations) (e : Placed) : Type 0 where
  pub fits : fits_reply d e.entry.op e.entry.reply ≡ true
  pub made : is_made_reply e.entry.reply ≡ true

-- a program may start a thread for this object
pub record IsStartable (p : PlainProgram) (target : ObjRef) : Type 0 where
  pub objects : has_objects target.class ≡ true
  pub is_thread : extends (declarations_of p) target.class THREAD ≡ true
  pub has_run : has_thread_run p ≡ true

-- a run of the program may have told the seat what it has: replies are such as a world gives, and threads were started for
-- thread objects
pub record FitsSeat (p : PlainProgram) (seat : SeatView) : Type 0 where
  pub replies : (lane : ℕ) → Contains seat.lanes lane → AllByRecursion (FitsEntry (declarations_of p)) (seat.own lane)
  pub targets : (t : ℕ) (target : ObjRef) → seat.targets t ≡ Some target → IsStartable p target

-- the program was linked and verified
pub record IsSound (p : PlainProgram) : Type 0 where
  pub linked : IsWellLinked p
  pub verified : IsVerified p

-- the thread made its last event
abbrev pub HasEnd : ℕ → List Placed → Type 0
HasEnd t es = (e : Placed) × Contains es e × (e.entry.thread ≡ t) × (e.entry.op ≡ op.ThreadEnd)

-- each thread number of a lane made its last event
abbrev pub AllThreadsEnd : ℕ → ℕ → SeatView → Type 0
AllThreadsEnd lanes number seat = (t : ℕ) → t < MOST_THREADS → t % lanes ≡ number → HasEnd t (seat.own number)

-- A lane leaves only where, after this call began, it was told off, or looked at the gate in vain at least so often, or where
-- all its threads have ended.
abbrev pub LeftBy : LaneEnd → PlainProgram → ℕ → ℕ → SeatView → SeatView → Type 0
LeftBy ends.Left p lanes number old new = IsToldOff old new ⊎ (old.tries + MOST_IDLE ≤ new.tries) ⊎ (FitsSeat p new → AllThreadsEnd lanes number new)
LeftBy ends.NoMemory p lanes number old new = Unit {0}
