-- The state of a thread of a verified program fits the table at each moment, and has a next operation until it is ended.
use Rattle.std.proofs.Common.{◌≡◌, ◌≢◌, ℕ, zero, suc, Bool, true, false, List, [], ◌∷◌, length, Option, Some, None, refl, sym, ◌∙◌, ap, subst, inl}
use Rattle.std.specs.Prelude.{nat_lt, is_some, if◌then◌else◌}
use Rattle.std.proofs.lemmas.Bool.{false≢true}
use Rattle.vm_model.specs.declared.value.Value.{Value}
use Rattle.vm_model.specs.declared.value.Value.TheVariants as value
use Rattle.vm_model.specs.declared.value.Lock.{Lock}
use Rattle.vm_model.specs.declared.value.Lock.TheVariants as lock
use Rattle.vm_model.specs.declared.value.ObjRef.{ObjRef}
use Rattle.vm_model.specs.declared.value.Kind.TheVariants as kind
use Rattle.vm_model.specs.declared.ends.FaultKind.{FaultKind}
use Rattle.vm_model.specs.declared.ends.FaultKind.TheVariants as fault
use Rattle.vm_model.specs.declared.op.Op.{Op}
use Rattle.vm_model.specs.declared.op.Op.TheVariants as op
use Rattle.vm_model.specs.declared.op.Reply.{Reply}
use Rattle.vm_model.specs.declared.op.Reply.TheVariants as reply
use Rattle.vm_model.specs.Program.{PlainMethod, PlainProgram, method_at}
use Rattle.machine_model.specs.Declarations.{declarations_of}
use Rattle.machine_model.specs.Kinds.{extends}
use Rattle.machine_model.specs.Frames.{Frame, Plain, Entering, Left, Waiting, Raised, LocalState, Ended, Running}
use Rattle.machine_model.specs.Operands.{Action, Goes, Calls, Gives, Asks, Fails, Undefined}
use Rattle.machine_model.specs.Effect.{action, lock_if, run_method}
use Rattle.machine_model.specs.LocalStep.{Outcome, Stays, Ends, Raises, StartsWaiting, Completes, outcome, call_frames, return_frames, moved, moved_in, moved_back, local_step, go_on, settled_within, asked, asked_in, asked_back, fault_at, tick_or, entering, pending_operation, given_back, completed, after_outcome, absorb, is_synchronized, class_of, begun_in, first_of_main, first_of_thread}
use Rattle.machine_model.specs.Operations.{fits_reply, is_unit}
use Rattle.machine_model.specs.Shapes.{Table, given_kind, parameters, IsShapeTable}
use Rattle.shape_laws.specs.Fitting.{has_objects, is_of, FitsKinds}
use Rattle.shape_laws.specs.States.{GivenFits, FitsFrame, AllAwait, FitsTable, is_made_op, is_made_reply}
use Rattle.shape_laws.specs.Linked.{has_thread_run, HasLinkedMain, IsWellLinked}
use Rattle.shape_laws.proofs.Tests.{on_left, joined}
use Rattle.shape_laws.proofs.Calls.{run_by}
use Rattle.shape_laws.proofs.Actions.{DoneAt, CallKeeps, Keeps, frame_keeps, begins_fit}

-- ---- local steps

abbrev FitsMaybe : PlainProgram → Table → Option LocalState → Type 0
FitsMaybe p table None = Unit {0}
FitsMaybe p table (Some l) = FitsTable p table l

-- the frames of a call
call_fits : (p : PlainProgram) (table : Table) (f : Frame) (below : List Frame) (callee : ℕ) (l : Option Lock) → CallKeeps p table f callee → AllAwait p table f.method below → FitsTable p table (Running (call_frames p callee l f below) Plain)
call_fits p table f below callee l call wait = (call.begins l, (call.awaits, wait))

-- the frames after a return
return_fits : (p : PlainProgram) (table : Table) (f g : Frame) (below : List Frame) (given : Option Value) → GivenFits p given (given_kind (method_at p f.method)) → AllAwait p table f.method (g ∷ below) → FitsTable p table (Running (return_frames given g below) Plain)
return_fits p table f g below given fits wait = (wait.0 given fits, wait.1)

moved_fits : (p : PlainProgram) (table : Table) (f : Frame) (below : List Frame) (a : Action) → Keeps p table f a → AllAwait p table f.method below → FitsMaybe p table (moved p a f below)
moved_fits p table f below (Goes g) keep wait = (keep.1, subst (λ (m : ℕ). AllAwait p table m below) (sym keep.0) wait)
moved_fits p table f below (Calls callee None) keep wait = by (nat_lt (length below) 255)
  where
    by : (b : Bool) → FitsMaybe p table (if b then Some (Running (call_frames p callee None f below) Plain) else None)
    by true = call_fits p table f below callee None keep wait
    by false = tt
moved_fits p table f below (Calls callee (Some l)) keep wait = tt
moved_fits p table f below (Gives given) keep wait = by f.lock below wait
  where
    by : (l : Option Lock) (fs : List Frame) → AllAwait p table f.method fs → FitsMaybe p table (moved_back given l fs)
    by None [] w = tt
    by None (g ∷ fs) w = return_fits p table f g fs given keep w
    by (Some l) fs w = tt
moved_fits p table f below (Asks o n) keep wait = tt
moved_fits p table f below (Fails kind) keep wait = tt
moved_fits p table f below Undefined keep wait = tt

step_maybe : (p : PlainProgram) (table : Table) (l : LocalState) → IsWellLinked p → IsShapeTable p table → FitsTable p table l → FitsMaybe p table (local_step p l)
step_maybe p table Ended linked shapes fit = tt
step_maybe p table (Running [] phase) linked shapes fit = tt
step_maybe p table (Running (f ∷ below) Plain) linked shapes fit = moved_fits p table f below (action p f) (frame_keeps p table f linked shapes fit.0) fit.1
step_maybe p table (Running (f ∷ below) Entering) linked shapes fit = tt
step_maybe p table (Running (f ∷ below) Left) linked shapes fit = tt
step_maybe p table (Running (f ∷ below) (Waiting l count)) linked shapes fit = tt
step_maybe p table (Running (f ∷ below) (Raised kind)) linked shapes fit = tt

-- a local step leads to a state that fits
pub step_fits : (p : PlainProgram) (table : Table) (l m : LocalState) → IsWellLinked p → IsShapeTable p table → FitsTable p table l → local_step p l ≡ Some m → FitsTable p table m
step_fits p table l m linked shapes fit e = subst (FitsMaybe p table) e (step_maybe p table l linked shapes fit)

go_on_fits : (p : PlainProgram) (table : Table) (o : Option LocalState) (l : LocalState) (go : LocalState → LocalState) → FitsMaybe p table o → FitsTable p table l
    → ((m : LocalState) → FitsTable p table m → FitsTable p table (go m)) → FitsTable p table (go_on o l go)
go_on_fits p table None l go one fit more = fit
go_on_fits p table (Some m) l go one fit more = more m one

-- so do many
pub settled_fits : (n : ℕ) (p : PlainProgram) (table : Table) (l : LocalState) → IsWellLinked p → IsShapeTable p table → FitsTable p table l → FitsTable p table (settled_within p n l)
unfolding settled_within
settled_fits zero p table l linked shapes fit = fit
settled_fits (suc n) p table l linked shapes fit =
    go_on_fits p table (local_step p l) l (settled_within p n) (step_maybe p table l linked shapes fit) fit (λ m h. settled_fits n p table m linked shapes h)

-- ---- the next operation

has_action : (p : PlainProgram) (table : Table) (f : Frame) (below : List Frame) (a : Action) → Keeps p table f a → is_some (tick_or (moved p a f below) (asked a f below)) ≡ true
has_action p table f below (Goes g) keep = refl
has_action p table f below (Calls callee None) keep = by (nat_lt (length below) 255)
  where
    by : (b : Bool) → is_some (tick_or (if b then Some (Running (call_frames p callee None f below) Plain) else None) (Some (fault_at fault.StackOverflow f))) ≡ true
    by true = refl
    by false = refl
has_action p table f below (Calls callee (Some l)) keep = refl
has_action p table f below (Gives given) keep = by f.lock below
  where
    by : (l : Option Lock) (fs : List Frame) → is_some (tick_or (moved_back given l fs) (Some (asked_back l))) ≡ true
    by None [] = refl
    by None (g ∷ fs) = refl
    by (Some l) fs = refl
has_action p table f below (Asks o n) keep = refl
has_action p table f below (Fails kind) keep = refl
has_action p table f below Undefined keep = absurd keep

-- a state that isn't ended asks for an operation
pub has_operation : (p : PlainProgram) (table : Table) (l : LocalState) → IsWellLinked p → IsShapeTable p table → FitsTable p table l → l ≢ Ended → is_some (pending_operation p l) ≡ true
has_operation p table Ended linked shapes fit open' = absurd (open' refl)
has_operation p table (Running [] phase) linked shapes fit open' = absurd fit
has_operation p table (Running (f ∷ below) Plain) linked shapes fit open' = has_action p table f below (action p f) (frame_keeps p table f linked shapes fit.0)
has_operation p table (Running (f ∷ below) Entering) linked shapes fit open' = rw fit.0.has refl
has_operation p table (Running (f ∷ below) Left) linked shapes fit open' = refl
has_operation p table (Running (f ∷ below) (Waiting l count)) linked shapes fit open' = refl
has_operation p table (Running (f ∷ below) (Raised kind)) linked shapes fit open' = refl

-- the instruction of the top frame finds its operands
pub is_defined : (p : PlainProgram) (table : Table) (f : Frame) → IsWellLinked p → IsShapeTable p table → FitsFrame p table f → action p f ≢ Undefined
is_defined p table f linked shapes fit e = subst (Keeps p table f) e (frame_keeps p table f linked shapes fit)

-- ---- replies

-- each reply that fits the operation leaves a state that fits
abbrev Absorbs : PlainProgram → Table → LocalState → Op → Type 0
Absorbs p table l o = (is_made_op p o ≡ true) × ((r : Reply) → fits_reply (declarations_of p) o r ≡ true → is_made_reply r ≡ true → FitsTable p table (after_outcome p l (outcome o r)))

-- an operation whose only reply is Unit
unit_replies : (p : PlainProgram) (table : Table) (l : LocalState) (o : Op) → ((r : Reply) → fits_reply (declarations_of p) o r ≡ true → is_unit r ≡ true) → FitsTable p table (after_outcome p l (outcome o reply.Unit)) → (r : Reply) → fits_reply (declarations_of p) o r ≡ true → is_made_reply r ≡ true → FitsTable p table (after_outcome p l (outcome o r))
unit_replies p table l o only fit reply.Unit h made = fit
unit_replies p table l o only fit (reply.Got v) h made = absurd (false≢true (only (reply.Got v) h))
unit_replies p table l o only fit (reply.Made v) h made = absurd (false≢true (only (reply.Made v) h))
unit_replies p table l o only fit (reply.Began thread) h made = absurd (false≢true (only (reply.Began thread) h))
unit_replies p table l o only fit (reply.Waits count) h made = absurd (false≢true (only (reply.Waits count) h))
unit_replies p table l o only fit (reply.Raise kind) h made = absurd (false≢true (only (reply.Raise kind) h))

unit_absorbs : (p : PlainProgram) (table : Table) (l : LocalState) (o : Op) → is_made_op p o ≡ true → ((r : Reply) → fits_reply (declarations_of p) o r ≡ true → is_unit r ≡ true) → FitsTable p table (after_outcome p l (outcome o reply.Unit)) → Absorbs p table l o
unit_absorbs p table l o made only fit = (made, unit_replies p table l o only fit)

tick_absorbs : (p : PlainProgram) (table : Table) (l : LocalState) → FitsTable p table l → Absorbs p table l op.Tick
tick_absorbs p table l fit = unit_absorbs p table l op.Tick refl (λ r h. h) fit

fault_absorbs : (p : PlainProgram) (table : Table) (l : LocalState) (kind : FaultKind) (f : Frame) → FitsTable p table l → Absorbs p table l (fault_at kind f)
fault_absorbs p table l kind f fit = unit_absorbs p table l (fault_at kind f) refl (λ r h. h) fit

calls_absorb : (p : PlainProgram) (table : Table) (f : Frame) (below : List Frame) (callee : ℕ) (lk : Option Lock) (o : Op) → action p f ≡ Calls callee lk → CallKeeps p table f callee → FitsTable p table (Running (f ∷ below) Plain)
    → tick_or (moved_in p callee lk f below) (Some (asked_in lk f below)) ≡ Some o → Absorbs p table (Running (f ∷ below) Plain) o
calls_absorb p table f below callee None o e keep fit asks = by (nat_lt (length below) 255) asks
  where
    by : (b : Bool) → tick_or (if b then Some (Running (call_frames p callee None f below) Plain) else None) (Some (fault_at fault.StackOverflow f)) ≡ Some o → Absorbs p table (Running (f ∷ below) Plain) o
    by true asks' = let is : op.Tick ≡ o = cc in subst (Absorbs p table (Running (f ∷ below) Plain)) is (tick_absorbs p table (Running (f ∷ below) Plain) fit)
    by false asks' = let is : fault_at fault.StackOverflow f ≡ o = cc in subst (Absorbs p table (Running (f ∷ below) Plain)) is (fault_absorbs p table (Running (f ∷ below) Plain) fault.StackOverflow f fit)
calls_absorb p table f below callee (Some lk) o e keep fit asks = by (nat_lt (length below) 255) asks
  where
    by : (b : Bool) → Some (if b then op.Enter lk else fault_at fault.StackOverflow f) ≡ Some o → Absorbs p table (Running (f ∷ below) Plain) o
    by true asks' =
        let is : op.Enter lk ≡ o = cc in
        subst (Absorbs p table (Running (f ∷ below) Plain)) is
        (unit_absorbs p table (Running (f ∷ below) Plain) (op.Enter lk) refl (λ r h. h)
        (subst (λ (a : Action). FitsTable p table (completed p a None f below (Running (f ∷ below) Plain))) (sym e) (call_fits p table f below callee (Some lk) keep fit.1)))
    by false asks' = let is : fault_at fault.StackOverflow f ≡ o = cc in subst (Absorbs p table (Running (f ∷ below) Plain)) is (fault_absorbs p table (Running (f ∷ below) Plain) fault.StackOverflow f fit)

given_back_fits : (p : PlainProgram) (table : Table) (f : Frame) (below : List Frame) (given : Option Value) → GivenFits p given (given_kind (method_at p f.method)) → AllAwait p table f.method below → FitsTable p table (given_back given f below)
given_back_fits p table f [] given keep wait = (tt, tt)
given_back_fits p table f (g ∷ below) given keep wait = return_fits p table f g below given keep wait

exit_replies : (p : PlainProgram) (table : Table) (f : Frame) (below : List Frame) (given : Option Value) (lk : Lock) → action p f ≡ Gives given → GivenFits p given (given_kind (method_at p f.method)) → FitsTable p table (Running (f ∷ below) Plain)
    → (r : Reply) → fits_reply (declarations_of p) (op.Exit lk) r ≡ true → is_made_reply r ≡ true → FitsTable p table (after_outcome p (Running (f ∷ below) Plain) (outcome (op.Exit lk) r))
exit_replies p table f below given lk e keep fit reply.Unit h made =
    subst (λ (a : Action). FitsTable p table (completed p a None f below (Running (f ∷ below) Plain))) (sym e) (given_back_fits p table f below given keep fit.1)
exit_replies p table f below given lk e keep fit (reply.Got v) h made = absurd (false≢true h)
exit_replies p table f below given lk e keep fit (reply.Made v) h made = absurd (false≢true h)
exit_replies p table f below given lk e keep fit (reply.Began thread) h made = absurd (false≢true h)
exit_replies p table f below given lk e keep fit (reply.Waits count) h made = absurd (false≢true h)
exit_replies p table f below given lk e keep fit (reply.Raise kind) h made = (tt, fit.1)

gives_absorb : (p : PlainProgram) (table : Table) (f : Frame) (below : List Frame) (given : Option Value) (lk : Option Lock) (o : Op) → action p f ≡ Gives given → GivenFits p given (given_kind (method_at p f.method)) → FitsTable p table (Running (f ∷ below) Plain)
    → tick_or (moved_back given lk below) (Some (asked_back lk)) ≡ Some o → Absorbs p table (Running (f ∷ below) Plain) o
gives_absorb p table f [] given None o e keep fit asks = let is : op.ThreadEnd ≡ o = cc in subst (Absorbs p table (Running (f ∷ []) Plain)) is (unit_absorbs p table (Running (f ∷ []) Plain) op.ThreadEnd refl (λ r h. h) tt)
gives_absorb p table f (g ∷ below) given None o e keep fit asks = let is : op.Tick ≡ o = cc in subst (Absorbs p table (Running (f ∷ g ∷ below) Plain)) is (tick_absorbs p table (Running (f ∷ g ∷ below) Plain) fit)
gives_absorb p table f below given (Some lk) o e keep fit asks = let is : op.Exit lk ≡ o = cc in subst (Absorbs p table (Running (f ∷ below) Plain)) is (refl, exit_replies p table f below given lk e keep fit)

-- what an outcome leaves of a state that asked for an operation
done_fits : (p : PlainProgram) (table : Table) (f : Frame) (below : List Frame) (o : Op) (n : ℕ) (x : Outcome) → action p f ≡ Asks o n → FitsTable p table (Running (f ∷ below) Plain) → DoneAt p table f n x
    → FitsTable p table (after_outcome p (Running (f ∷ below) Plain) x)
done_fits p table f below o n Stays e fit done = fit
done_fits p table f below o n Ends e fit done = tt
done_fits p table f below o n (Raises kind) e fit done = (tt, fit.1)
done_fits p table f below o n (StartsWaiting l count) e fit done = (record { operation = o; count = n; asks = e; behind = done }, fit.1)
done_fits p table f below o n (Completes brought) e fit done =
    subst (λ (a : Action). FitsTable p table (completed p a brought f below (Running (f ∷ below) Plain))) (sym e) (done, fit.1)

action_absorbs : (p : PlainProgram) (table : Table) (f : Frame) (below : List Frame) (a : Action) (o : Op) → action p f ≡ a → Keeps p table f a → FitsTable p table (Running (f ∷ below) Plain)
    → tick_or (moved p a f below) (asked a f below) ≡ Some o → Absorbs p table (Running (f ∷ below) Plain) o
action_absorbs p table f below (Goes g) o e keep fit asks = let is : op.Tick ≡ o = cc in subst (Absorbs p table (Running (f ∷ below) Plain)) is (tick_absorbs p table (Running (f ∷ below) Plain) fit)
action_absorbs p table f below (Calls callee lk) o e keep fit asks = calls_absorb p table f below callee lk o e keep fit asks
action_absorbs p table f below (Gives given) o e keep fit asks = gives_absorb p table f below given f.lock o e keep fit asks
action_absorbs p table f below (Asks o' n) o e keep fit asks =
    let is : o' ≡ o = cc in subst (Absorbs p table (Running (f ∷ below) Plain)) is (keep.0, λ r h made. done_fits p table f below o' n (outcome o' r) e fit (keep.1 r h made))
action_absorbs p table f below (Fails kind) o e keep fit asks =
    let is : fault_at kind f ≡ o = cc in subst (Absorbs p table (Running (f ∷ below) Plain)) is (fault_absorbs p table (Running (f ∷ below) Plain) kind f fit)
action_absorbs p table f below Undefined o e keep fit asks = absurd keep

absorbs : (p : PlainProgram) (table : Table) (l : LocalState) (o : Op) → IsWellLinked p → IsShapeTable p table → FitsTable p table l → pending_operation p l ≡ Some o → Absorbs p table l o
absorbs p table Ended o linked shapes fit asks = absurd (cc)
absorbs p table (Running [] phase) o linked shapes fit asks = absurd fit
absorbs p table (Running (f ∷ below) Plain) o linked shapes fit asks = action_absorbs p table f below (action p f) o refl (frame_keeps p table f linked shapes fit.0) fit asks
absorbs p table (Running (f ∷ below) Entering) o linked shapes fit asks =
    let is : op.Enter fit.0.lock ≡ o = some_same (sym (ap entering fit.0.has) ∙ asks) in
    subst (Absorbs p table (Running (f ∷ below) Entering)) is (unit_absorbs p table (Running (f ∷ below) Entering) (op.Enter fit.0.lock) refl (λ r h. h) (fit.0.fits, fit.1))
  where
    some_same : {a b : Op} → Some a ≡ Some b → a ≡ b
    some_same e = cc
absorbs p table (Running (f ∷ below) Left) o linked shapes fit asks = let is : op.ThreadEnd ≡ o = cc in subst (Absorbs p table (Running (f ∷ below) Left)) is (unit_absorbs p table (Running (f ∷ below) Left) op.ThreadEnd refl (λ r h. h) tt)
absorbs p table (Running (f ∷ below) (Waiting lk count)) o linked shapes fit asks =
    let is : op.Resume lk count ≡ o = cc in
    subst (Absorbs p table (Running (f ∷ below) (Waiting lk count))) is
    (unit_absorbs p table (Running (f ∷ below) (Waiting lk count)) (op.Resume lk count) refl (λ r h. h)
    (subst (λ (a : Action). FitsTable p table (completed p a None f below (Running (f ∷ below) (Waiting lk count)))) (sym fit.0.asks) (fit.0.behind, fit.1)))
absorbs p table (Running (f ∷ below) (Raised kind)) o linked shapes fit asks =
    let is : fault_at kind f ≡ o = cc in subst (Absorbs p table (Running (f ∷ below) (Raised kind))) is (fault_absorbs p table (Running (f ∷ below) (Raised kind)) kind f fit)

-- a reply that fits leads to a state that fits
pub absorb_fits : (p : PlainProgram) (table : Table) (l : LocalState) (o : Op) (r : Reply) → IsWellLinked p → IsShapeTable p table → FitsTable p table l → pending_operation p l ≡ Some o → fits_reply (declarations_of p) o r ≡ true
    → is_made_reply r ≡ true → FitsTable p table (absorb p l o r)
absorb_fits p table l o r linked shapes fit asks h made = (absorbs p table l o linked shapes fit asks).1 r h made

-- a state asks for operations that a run makes alone
pub operation_made : (p : PlainProgram) (table : Table) (l : LocalState) (o : Op) → IsWellLinked p → IsShapeTable p table → FitsTable p table l → pending_operation p l ≡ Some o → is_made_op p o ≡ true
operation_made p table l o linked shapes fit asks = (absorbs p table l o linked shapes fit asks).0

-- ---- first states

begun_fits : (p : PlainProgram) (table : Table) (n : ℕ) (m : PlainMethod) (arguments : List Value) (lk : Option Lock) → IsShapeTable p table → method_at p n ≡ Some m → FitsKinds p arguments (parameters m) → FitsTable p table (begun_in p n arguments lk)
begun_fits p table n m arguments None shapes is fit = (begins_fit p table n m arguments None shapes is fit, tt)
begun_fits p table n m arguments (Some l) shapes is fit = (record { lock = l; has = refl; fits = begins_fit p table n m arguments (Some l) shapes is fit }, tt)

pub main_fits : (p : PlainProgram) (table : Table) → IsWellLinked p → IsShapeTable p table → FitsTable p table (first_of_main p)
main_fits p table linked shapes = by (method_at p p.main) refl linked.main
  where
    by : (o : Option PlainMethod) → method_at p p.main ≡ o → HasLinkedMain o → FitsTable p table (first_of_main p)
    by None e main = absurd main
    by (Some m) e main =
        let kinds : parameters m ≡ kind.Args ∷ [] = rw (main.is_static, main.params) refl in
        begun_fits p table p.main m (value.Null ∷ []) (lock_if (is_synchronized (method_at p p.main)) (lock.Class (class_of (method_at p p.main)))) shapes e
        (subst (FitsKinds p (value.Null ∷ [])) (sym kinds) (refl, tt))

-- the object that is started is of a class that extends Thread
pub thread_fits : (p : PlainProgram) (table : Table) (target : ObjRef) → IsWellLinked p → IsShapeTable p table → has_thread_run p ≡ true → has_objects target.class ≡ true → extends (declarations_of p) target.class 1 ≡ true → FitsTable p table (first_of_thread p target)
thread_fits p table target linked shapes runs made under =
    let r = run_by p linked runs target.class made (inl under) in
    let kinds : parameters r.method ≡ kind.Ref r.method.class ∷ [] = rw (r.run.is_method, r.run.params) refl in
    let receiver : is_of p (value.Obj target.id target.class) (kind.Ref r.method.class) ≡ true = joined (has_objects target.class) _ made (on_left (extends (declarations_of p) target.class r.method.class) false r.receiver) in
    begun_fits p table (run_method p target.class) r.method (value.Obj target.id target.class ∷ []) (lock_if (is_synchronized (method_at p (run_method p target.class))) (lock.Object target.id)) shapes r.is
    (subst (FitsKinds p (value.Obj target.id target.class ∷ [])) (sym kinds) (receiver, tt))
