-- Each machine that a run of a verified program leads to fits its table of shapes.
use Rattle.std.proofs.Common.{◌≡◌, ◌≢◌, ℕ, Bool, true, false, List, [], ◌∷◌, Option, Some, None, refl, subst}
use Rattle.std.specs.Prelude.{◌&&◌, slice_get, is_none, is_some, if◌then◌else◌}
use Rattle.std.specs.List.{AllByRecursion}
use Rattle.vm_model.specs.declared.value.ObjRef.{ObjRef}
use Rattle.vm_model.specs.declared.op.Op.{Op}
use Rattle.vm_model.specs.declared.op.Op.TheVariants as op
use Rattle.vm_model.specs.declared.op.Reply.{Reply}
use Rattle.vm_model.specs.declared.op.Reply.TheVariants as reply
use Rattle.vm_model.specs.Program.{PlainProgram}
use Rattle.machine_model.specs.Declarations.{declarations_of}
use Rattle.machine_model.specs.Frames.{LocalState, Ended}
use Rattle.machine_model.specs.LocalStep.{absorb, settled, pending_operation, first_of_main, first_of_thread}
use Rattle.machine_model.specs.Operations.{Applied, apply}
use Rattle.machine_model.specs.Operations as world
use Rattle.machine_model.specs.Machine.{MachineState, start_machine, begun, after_event, turn_with, turn_at, turn, then_run, run_from, run}
use Rattle.machine_model.specs.Shapes.{Table, IsShapeTable, IsVerified}
use Rattle.shape_laws.specs.States.{FitsTable, is_made_op}
use Rattle.shape_laws.specs.Linked.{IsWellLinked}
use Rattle.shape_laws.specs.Worlds.{FitsMachine}
use Rattle.shape_laws.proofs.Tests.{all_there, all_set, all_both}
use Rattle.shape_laws.proofs.Kept.{settled_fits, absorb_fits, operation_made, has_operation, main_fits, thread_fits}
use Rattle.shape_laws.proofs.Worlds.{reply_fits, world_fits, startable, start_fits}

-- the states of threads that an operation starts
begun_fits : (p : PlainProgram) (table : Table) (o : Op) (r : Reply) → ((target : ObjRef) → o ≡ op.Start target → FitsTable p table (settled p (first_of_thread p target))) → AllByRecursion (FitsTable p table) (begun p o r)
begun_fits p table (op.Start target) (reply.Began thread) starts = (starts target refl, tt)
begun_fits p table (op.Start target) reply.Unit starts = tt
begun_fits p table (op.Start target) (reply.Got v) starts = tt
begun_fits p table (op.Start target) (reply.Made v) starts = tt
begun_fits p table (op.Start target) (reply.Waits count) starts = tt
begun_fits p table (op.Start target) (reply.Raise kind) starts = tt
begun_fits p table _ r starts = tt

event_fits : (p : PlainProgram) (table : Table) (m : MachineState) (t : ℕ) (l : LocalState) (o : Op) → IsWellLinked p → IsShapeTable p table → FitsMachine p table m → FitsTable p table l → pending_operation p l ≡ Some o
    → world.is_enabled (declarations_of p) m.world t o ≡ true → FitsMachine p table (after_event p m t l o (apply (declarations_of p) m.world t o))
event_fits p table m t l o linked shapes fit here asks enabled =
    let made = operation_made p table l o linked shapes here asks in
    let replies = reply_fits p m.world t o fit.world made enabled in
    let absorbed = absorb_fits p table l o (apply (declarations_of p) m.world t o).reply linked shapes here asks replies.0 replies.1 in
    record {
      world = world_fits p m.world t o fit.world made enabled;
      locals = all_both (FitsTable p table) _ _
          (all_set (FitsTable p table) m.locals t (settled p (absorb p l o (apply (declarations_of p) m.world t o).reply)) fit.locals (settled_fits 4096 p table (absorb p l o (apply (declarations_of p) m.world t o).reply) linked shapes absorbed))
          (begun_fits p table o (apply (declarations_of p) m.world t o).reply
          (λ target e. let start = startable p m.world t target fit.world (subst (λ (x : Op). world.is_enabled (declarations_of p) m.world t x ≡ true) e enabled) in
          settled_fits 4096 p table (first_of_thread p target) linked shapes (thread_fits p table target linked shapes (subst (λ (x : Op). is_made_op p x ≡ true) e made) start.made start.under)));
    }

none_some : {A : Type 0} (x : A) → None ≡ Some x → ⊥
none_some x e = cc

-- an event leads from a machine that fits to one that fits
pub turn_fits : (p : PlainProgram) (table : Table) (m n : MachineState) (t : ℕ) → IsWellLinked p → IsShapeTable p table → FitsMachine p table m → turn p m t ≡ Some n → FitsMachine p table n
turn_fits p table m n t linked shapes fit e = by_local (slice_get m.locals t) refl e
  where
    by_enabled : (l : LocalState) (o : Op) → FitsTable p table l → pending_operation p l ≡ Some o → (b : Bool) → world.is_enabled (declarations_of p) m.world t o ≡ b → (c : Bool)
        → (if c && b then Some (after_event p m t l o (apply (declarations_of p) m.world t o)) else None) ≡ Some n → FitsMachine p table n
    by_enabled l o here asks true enabled true e' =
        let same : after_event p m t l o (apply (declarations_of p) m.world t o) ≡ n = cc in
        subst (FitsMachine p table) same (event_fits p table m t l o linked shapes fit here asks enabled)
    by_enabled l o here asks true enabled false e' = absurd (none_some n e')
    by_enabled l o here asks false enabled true e' = absurd (none_some n e')
    by_enabled l o here asks false enabled false e' = absurd (none_some n e')

    by_operation : (l : LocalState) → FitsTable p table l → (o : Option Op) → pending_operation p l ≡ o → turn_with p m t l o ≡ Some n → FitsMachine p table n
    by_operation l here None asks e' = absurd (none_some n e')
    by_operation l here (Some o) asks e' = by_enabled l o here asks (world.is_enabled (declarations_of p) m.world t o) refl (is_none m.world.fault) e'

    by_local : (x : Option LocalState) → slice_get m.locals t ≡ x → turn_at p m t x ≡ Some n → FitsMachine p table n
    by_local None at e' = absurd (none_some n e')
    by_local (Some l) at e' = by_operation l (all_there (FitsTable p table) m.locals t l fit.locals at) (pending_operation p l) refl e'

pub run_from_fits : (p : PlainProgram) (table : Table) (m n : MachineState) (ts : List ℕ) → IsWellLinked p → IsShapeTable p table → FitsMachine p table m → run_from p m ts ≡ Some n → FitsMachine p table n
run_from_fits p table m n [] linked shapes fit e = let same : m ≡ n = cc in subst (FitsMachine p table) same fit
run_from_fits p table m n (t ∷ ts) linked shapes fit e = by (λ next h e'. run_from_fits p table next n ts linked shapes h e') (turn p m t) refl e
  where
    by : ((next : MachineState) → FitsMachine p table next → run_from p next ts ≡ Some n → FitsMachine p table n) → (x : Option MachineState) → turn p m t ≡ x → then_run x (λ next. run_from p next ts) ≡ Some n → FitsMachine p table n
    by more None turned e' = absurd (none_some n e')
    by more (Some next) turned e' = more next (turn_fits p table m next t linked shapes fit turned) e'

pub start_machine_fits : (p : PlainProgram) (table : Table) → IsWellLinked p → IsShapeTable p table → FitsMachine p table (start_machine p)
start_machine_fits p table linked shapes = record { world = start_fits p linked; locals = (settled_fits 4096 p table (first_of_main p) linked shapes (main_fits p table linked shapes), tt) }

-- each run leads to a machine that fits
pub run_fits : (p : PlainProgram) (table : Table) (m : MachineState) (ts : List ℕ) → IsWellLinked p → IsShapeTable p table → run p ts ≡ Some m → FitsMachine p table m
run_fits p table m ts linked shapes e = run_from_fits p table (start_machine p) m ts linked shapes (start_machine_fits p table linked shapes) e

-- after each run, each thread that isn't ended asks for an operation
pub threads_ask : (p : PlainProgram) (m : MachineState) (ts : List ℕ) (t : ℕ) (l : LocalState) → IsWellLinked p → IsVerified p → run p ts ≡ Some m → slice_get m.locals t ≡ Some l → l ≢ Ended → is_some (pending_operation p l) ≡ true
threads_ask p m ts t l linked verified e at open' =
    let fit = run_fits p verified.0 m ts linked verified.1 e in
    has_operation p verified.0 l linked verified.1 (all_there (FitsTable p verified.0) m.locals t l fit.locals at) open'
