-- Local steps before the first event keep that there are no objects.
use Rattle.std.proofs.Common.{◌≡◌, ℕ, zero, suc, Bool, true, false, List, [], ◌∷◌, length, Option, Some, None, refl}
use Rattle.std.specs.Prelude.{nat_lt, if◌then◌else◌}
use Rattle.std.specs.List.{AllByRecursion}
use Rattle.vm_model.specs.declared.value.Value.TheVariants as value
use Rattle.vm_model.specs.declared.value.Lock.{Lock}
use Rattle.vm_model.specs.declared.value.Lock.TheVariants as lock
use Rattle.vm_model.specs.Program.{PlainMethod, PlainProgram, method_at}
use Rattle.machine_model.specs.Frames.{Frame, Phase, Plain, Entering, Left, Waiting, Raised, LocalState, Ended, Running}
use Rattle.machine_model.specs.Operands.{Action, Goes, Calls, Gives, Asks, Fails, Undefined}
use Rattle.machine_model.specs.Effect.{action, lock_if}
use Rattle.machine_model.specs.LocalStep.{arity_at, call_frames, moved, moved_back, local_step, go_on, settled_within, is_synchronized, class_of, begun_in, first_of_main}
use Rattle.machine_model.specs.Shapes.{Table, IsShapeTable}
use Rattle.shape_laws.specs.States.{FitsTable}
use Rattle.shape_laws.specs.Linked.{HasLinkedMain, NamesWhatIsThere, IsWellLinked}
use Rattle.shape_laws.proofs.Kept.{step_fits}
use Rattle.shape_laws.proofs.EarlyFrames.{IsEarlyLock, IsEarlyFrame, first_frame_early, callee_early, caller_early, given_early}
use Rattle.shape_laws.proofs.EarlyActions.{IsEarlyAction, action_early, class_lock, method_names}

-- the thread goes on by steps of its own, or enters the lock of main
abbrev pub IsEarlyPhase : Phase → Type 0
IsEarlyPhase Plain = Unit {0}
IsEarlyPhase Entering = Unit {0}
IsEarlyPhase Left = ⊥
IsEarlyPhase (Waiting l count) = ⊥
IsEarlyPhase (Raised kind) = ⊥

abbrev pub IsEarlyState : PlainProgram → LocalState → Type 0
IsEarlyState p Ended = ⊥
IsEarlyState p (Running frames phase) = AllByRecursion (IsEarlyFrame p) frames × IsEarlyPhase phase

abbrev IsEarlyNext : PlainProgram → Option LocalState → Type 0
IsEarlyNext p None = Unit {0}
IsEarlyNext p (Some l) = IsEarlyState p l

-- the state after the local step of an action
moved_early : (p : PlainProgram) (f : Frame) (below : List Frame) (a : Action) → IsEarlyAction p a → IsEarlyFrame p f → AllByRecursion (IsEarlyFrame p) below → IsEarlyNext p (moved p a f below)
moved_early p f below (Goes g) is early all = ((is, all), tt)
moved_early p f below (Calls m None) is early all = by (nat_lt (length below) 255)
  where
    by : (b : Bool) → IsEarlyNext p (if b then Some (Running (call_frames p m None f below) Plain) else None)
    by true = ((callee_early p m None f early tt, (caller_early p (arity_at (method_at p m)) f early, all)), tt)
    by false = tt
moved_early p f below (Calls m (Some l)) is early all = tt
moved_early p f below (Gives given) is early all = by f.lock below all
  where
    by : (l : Option Lock) (fs : List Frame) → AllByRecursion (IsEarlyFrame p) fs → IsEarlyNext p (moved_back given l fs)
    by None [] each = tt
    by None (g ∷ fs) each = ((given_early p given g each.0 is, each.1), tt)
    by (Some l) fs each = tt
moved_early p f below (Asks o n) is early all = tt
moved_early p f below (Fails kind) is early all = tt
moved_early p f below Undefined is early all = tt

-- the state after a local step
step_early : (p : PlainProgram) (table : Table) (l : LocalState) → IsWellLinked p → NamesWhatIsThere p → IsShapeTable p table → FitsTable p table l → IsEarlyState p l → IsEarlyNext p (local_step p l)
step_early p table Ended linked names shapes fit early = tt
step_early p table (Running [] phase) linked names shapes fit early = tt
step_early p table (Running (f ∷ below) Plain) linked names shapes fit early =
    moved_early p f below (action p f) (action_early p table f linked names shapes fit.0 early.0.0) early.0.0 early.0.1
step_early p table (Running (f ∷ below) Entering) linked names shapes fit early = tt
step_early p table (Running (f ∷ below) Left) linked names shapes fit early = tt
step_early p table (Running (f ∷ below) (Waiting l count)) linked names shapes fit early = tt
step_early p table (Running (f ∷ below) (Raised kind)) linked names shapes fit early = tt

go_on_early : (p : PlainProgram) (o : Option LocalState) (l : LocalState) (go : LocalState → LocalState) → IsEarlyNext p o → IsEarlyState p l
    → ((m : LocalState) → o ≡ Some m → IsEarlyState p m → IsEarlyState p (go m)) → IsEarlyState p (go_on o l go)
go_on_early p None l go one early more = early
go_on_early p (Some m) l go one early more = more m refl one

-- after many local steps there are no objects yet
pub settled_early : (n : ℕ) (p : PlainProgram) (table : Table) (l : LocalState) → IsWellLinked p → NamesWhatIsThere p → IsShapeTable p table → FitsTable p table l → IsEarlyState p l → IsEarlyState p (settled_within p n l)
unfolding settled_within
settled_early zero p table l linked names shapes fit early = early
settled_early (suc n) p table l linked names shapes fit early =
    go_on_early p (local_step p l) l (settled_within p n) (step_early p table l linked names shapes fit early) early
    (λ m e h. settled_early n p table m linked names shapes (step_fits p table l m linked shapes fit e) h)

-- main begins with null
pub main_early : (p : PlainProgram) → IsWellLinked p → NamesWhatIsThere p → IsEarlyState p (first_of_main p)
main_early p linked names = begun (lock_if (is_synchronized (method_at p p.main)) (lock.Class (class_of (method_at p p.main)))) (kept (method_at p p.main) refl linked.main)
  where
    begun : (l : Option Lock) → IsEarlyLock p l → IsEarlyState p (begun_in p p.main (value.Null ∷ []) l)
    begun None is = ((first_frame_early p p.main (value.Null ∷ []) None (refl, tt) is, tt), tt)
    begun (Some l) is = ((first_frame_early p p.main (value.Null ∷ []) (Some l) (refl, tt) is, tt), tt)

    kept : (o : Option PlainMethod) → method_at p p.main ≡ o → HasLinkedMain o → IsEarlyLock p (lock_if (is_synchronized o) (lock.Class (class_of o)))
    kept None e main = absurd main
    kept (Some m) e main = class_lock p m (method_names p p.main m names e) main.is_static
