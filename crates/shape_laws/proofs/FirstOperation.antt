-- The first operation of a verified program can be done in the world with which it starts.
use Rattle.std.proofs.Common.{◌≡◌, ℕ, zero, suc, ◌-◌, ◌≤◌, Bool, true, false, List, [], ◌∷◌, length, replicate, Option, Some, None, refl, sym, ap, subst, arith}
use Rattle.std.specs.Prelude.{◌==◌, ◌||◌, not, nat_lt, nat_le, is_some, slice_get, if◌then◌else◌}
use Rattle.std.proofs.lemmas.Bool.{false≢true}
use Rattle.std.proofs.lemmas.Bool.Decides.{nat_tests}
use Rattle.vm_model.specs.declared.value.Lock.{Lock}
use Rattle.vm_model.specs.declared.value.Lock.TheVariants as lock
use Rattle.vm_model.specs.declared.ends.FaultKind.TheVariants as fault
use Rattle.vm_model.specs.declared.op.Op.{Op}
use Rattle.vm_model.specs.declared.op.Op.TheVariants as op
use Rattle.vm_model.specs.Program.{PlainClass, PlainProgram, class_at}
use Rattle.machine_model.specs.Declarations.{declarations_of}
use Rattle.machine_model.specs.Frames.{Frame, Plain, Entering, Left, Waiting, Raised, LocalState, Ended, Running}
use Rattle.machine_model.specs.Operands.{Action, Goes, Calls, Gives, Asks, Fails, Undefined}
use Rattle.machine_model.specs.Effect.{action}
use Rattle.machine_model.specs.LocalStep.{call_frames, moved, moved_back, asked, asked_back, fault_at, tick_or, entering, settled, pending_operation, first_of_main}
use Rattle.machine_model.specs.Shared.{Monitor, free_monitor, monitor_at, start}
use Rattle.machine_model.specs.Operations.{free_for}
use Rattle.machine_model.specs.Machine.{end_of, first_end, start_machine, can_do}
use Rattle.machine_model.specs.Shapes.{Table, IsShapeTable, IsVerified}
use Rattle.shape_laws.specs.States.{FitsTable}
use Rattle.shape_laws.specs.Linked.{NamesWhatIsThere, IsWellLinked}
use Rattle.shape_laws.proofs.Actions.{Keeps, frame_keeps}
use Rattle.shape_laws.proofs.Kept.{settled_fits, main_fits}
use Rattle.shape_laws.proofs.EarlyFrames.{IsEarlyLock}
use Rattle.shape_laws.proofs.EarlyActions.{CanBegin, IsEarlyAction, action_early}
use Rattle.shape_laws.proofs.EarlySteps.{IsEarlyState, settled_early, main_early}

-- there is an operation, and it can be done at the start
abbrev Begins : PlainProgram → Option Op → Type 0
Begins p None = ⊥
Begins p (Some o) = CanBegin p o

-- ---- locks

-- each class has a free lock at the start
free_at : (classes : List PlainClass) (n : ℕ) → is_some (slice_get classes n) ≡ true → slice_get (replicate (length classes) free_monitor) n ≡ Some free_monitor
free_at [] n e = absurd (false≢true e)
free_at (c ∷ classes) zero e = refl
free_at (c ∷ classes) (suc n) e = free_at classes n e

class_free : (p : PlainProgram) (class : ℕ) → is_some (class_at p class) ≡ true → monitor_at (start (declarations_of p)).monitors (lock.Class class) ≡ Some free_monitor
class_free p class e = by (nat_le 32 class) e
  where
    by : (b : Bool) → is_some (if b then slice_get p.classes (class - 32) else None) ≡ true → (if b then slice_get (replicate (length p.classes) free_monitor) (class - 32) else None) ≡ Some free_monitor
    by true e' = free_at p.classes (class - 32) e'
    by false e' = absurd (false≢true e')

enter_begins : (p : PlainProgram) (l : Lock) → IsEarlyLock p (Some l) → CanBegin p (op.Enter l)
enter_begins p (lock.Object id) is = absurd is
enter_begins p (lock.Class class) is = ap (λ (o : Option Monitor). free_for o 0) (class_free p class is)

exit_begins : (p : PlainProgram) (l : Lock) → IsEarlyLock p (Some l) → CanBegin p (op.Exit l)
exit_begins p (lock.Object id) is = absurd is
exit_begins p (lock.Class class) is = ap is_some (class_free p class is)

-- ---- the first operation

-- the operation that an action wants, or a tick
action_begins : (p : PlainProgram) (table : Table) (f : Frame) (below : List Frame) (a : Action) → Keeps p table f a → IsEarlyAction p a → IsEarlyLock p f.lock → Begins p (tick_or (moved p a f below) (asked a f below))
action_begins p table f below (Goes g) keep is kept = refl
action_begins p table f below (Calls callee None) keep is kept = by (nat_lt (length below) 255)
  where
    by : (b : Bool) → Begins p (tick_or (if b then Some (Running (call_frames p callee None f below) Plain) else None) (Some (fault_at fault.StackOverflow f)))
    by true = refl
    by false = refl
action_begins p table f below (Calls callee (Some l)) keep is kept = by (nat_lt (length below) 255)
  where
    by : (b : Bool) → Begins p (Some (if b then op.Enter l else fault_at fault.StackOverflow f))
    by true = enter_begins p l is
    by false = refl
action_begins p table f below (Gives given) keep is kept = by f.lock below kept
  where
    by : (l : Option Lock) (fs : List Frame) → IsEarlyLock p l → Begins p (tick_or (moved_back given l fs) (Some (asked_back l)))
    by None [] kept' = refl
    by None (g ∷ fs) kept' = refl
    by (Some l) fs kept' = exit_begins p l kept'
action_begins p table f below (Asks o n) keep is kept = is
action_begins p table f below (Fails kind) keep is kept = refl
action_begins p table f below Undefined keep is kept = absurd keep

-- the operation of a state without objects
state_begins : (p : PlainProgram) (table : Table) (l : LocalState) → IsWellLinked p → NamesWhatIsThere p → IsShapeTable p table → FitsTable p table l → IsEarlyState p l → Begins p (pending_operation p l)
state_begins p table Ended linked names shapes fit early = absurd early
state_begins p table (Running [] phase) linked names shapes fit early = absurd fit
state_begins p table (Running (f ∷ below) Plain) linked names shapes fit early =
    action_begins p table f below (action p f) (frame_keeps p table f linked shapes fit.0) (action_early p table f linked names shapes fit.0 early.0.0) early.0.0.lock
state_begins p table (Running (f ∷ below) Entering) linked names shapes fit early =
    subst (λ (o : Option Lock). Begins p (entering o)) (sym fit.0.has) (enter_begins p fit.0.lock (subst (IsEarlyLock p) fit.0.has early.0.0.lock))
state_begins p table (Running (f ∷ below) Left) linked names shapes fit early = absurd early.1
state_begins p table (Running (f ∷ below) (Waiting l count)) linked names shapes fit early = absurd early.1
state_begins p table (Running (f ∷ below) (Raised kind)) linked names shapes fit early = absurd early.1

-- the operation of the main thread, after its first local steps
main_begins : (p : PlainProgram) → IsWellLinked p → NamesWhatIsThere p → IsVerified p → Begins p (pending_operation p (settled p (first_of_main p)))
main_begins p linked names verified =
    let fit = main_fits p verified.0 linked verified.1 in
    state_begins p verified.0 (settled p (first_of_main p)) linked names verified.1 (settled_fits 4096 p verified.0 (first_of_main p) linked verified.1 fit)
    (settled_early 4096 p verified.0 (first_of_main p) linked names verified.1 fit (main_early p linked names))

-- ---- the end

-- there is no end where a thread can go on and the budget is not spent
open_end : (stuck spent : Bool) → stuck ≡ false → spent ≡ false → first_end None false stuck spent ≡ None
open_end stuck spent e g = rw (e, g) refl

goes_on : (p : PlainProgram) (o : Option Op) → Begins p o → not (can_do p (start_machine p) 0 o || false) ≡ false
goes_on p None h = absurd h
goes_on p (Some o) h = ap (λ (b : Bool). not (b || false)) h

-- the machine of a verified program has no end before its first event
pub program_begins : (p : PlainProgram) (budget : ℕ) → IsWellLinked p → NamesWhatIsThere p → IsVerified p → 1 ≤ budget → end_of p (start_machine p) budget ≡ None
program_begins p budget linked names verified some =
    open_end (not (can_do p (start_machine p) 0 (pending_operation p (settled p (first_of_main p))) || false)) (0 == budget)
    (goes_on p (pending_operation p (settled p (first_of_main p))) (main_begins p linked names verified)) (grind (arith, nat_tests))
