-- A thread of a verified program that asks for nothing has made its last event.
use Rattle.std.proofs.Common.{◌≡◌, ◌⊎◌, inl, inr, ℕ, zero, suc, ◌<◌, Bool, true, false, cond, List, [], ◌∷◌, length, get_or, Option, Some, None, refl, arith, sym, ◌∙◌, subst}
use Rattle.std.specs.Prelude.{◌==◌, nat_lt, is_some, Contains, if◌then◌else◌}
use Rattle.std.specs.List.{AllByRecursion}
use Rattle.vm_model.specs.declared.value.Lock.{Lock}
use Rattle.vm_model.specs.declared.value.Value.{Value}
use Rattle.vm_model.specs.declared.value.ObjRef.{ObjRef}
use Rattle.vm_model.specs.declared.op.Op.{Op}
use Rattle.vm_model.specs.declared.op.Op.TheVariants as op
use Rattle.vm_model.specs.declared.op.Reply.{Reply}
use Rattle.vm_model.specs.declared.op.Reply.TheVariants as reply
use Rattle.vm_model.specs.declared.op.Entry.{Entry}
use Rattle.vm_model.specs.Program.{PlainProgram}
use Rattle.machine_model.specs.Declarations.{Declarations, declarations_of}
use Rattle.machine_model.specs.Frames.{Frame, Plain, Entering, Left, Waiting, Raised, LocalState, Ended, Running}
use Rattle.machine_model.specs.Operands.{Action, Goes, Calls, Gives, Asks, Fails, Undefined}
use Rattle.machine_model.specs.Effect.{action}
use Rattle.machine_model.specs.LocalStep.{Outcome, Stays, Ends, Raises, StartsWaiting, Completes, absorb, after_outcome, call_frames, completed, completes, first_of_main, first_of_thread, go_on, local_step, moved, moved_back, outcome, pending_operation, settled, settled_within}
use Rattle.machine_model.specs.Shapes.{IsShapeTable, Table}
use Rattle.local_machine.specs.LocalView.{is_running}
use Rattle.projection_laws.specs.Projections.{GoesAlone, GoesFrom, begun_for}
use Rattle.projection_laws.proofs.Places.{equal}
use Rattle.shape_laws.specs.Linked.{IsWellLinked}
use Rattle.shape_laws.specs.States.{FitsTable}
use Rattle.shape_laws.proofs.Kept.{absorb_fits, has_operation, main_fits, settled_fits, thread_fits}
use Rattle.gate_core.specs.Seats.{Placed, SeatView, entries_of, first_seen, of_thread}
use Rattle.lane_core.specs.Parts.{AsksNothing, FollowsAt, IsPart}
use Rattle.lane_core.specs.Slots.{AllFollow, AllQuiet, threads_in}
use Rattle.lane_core.specs.Lanes.{AreThreads, EndsSo, Follows, LaneView, LeftSo}
use Rattle.lane_core.specs.Leaving.{AllThreadsEnd, FitsEntry, FitsSeat, HasEnd, IsSound, IsStartable, LeftBy}
use Rattle.lane_core.specs.declared.part.Part.{Part}
use Rattle.lane_core.specs.declared.slot.Slot.{Slot}
use Rattle.lane_core.specs.declared.pace.LaneEnd.{LaneEnd}
use Rattle.lane_core.specs.declared.pace.LaneEnd.TheVariants as ends

-- ---- only the last event ends a thread

abbrev RunsMaybe : Option LocalState → Type 0
RunsMaybe None = Unit {0}
RunsMaybe (Some l) = is_running l ≡ true

moved_runs : (p : PlainProgram) (a : Action) (f : Frame) (below : List Frame) → RunsMaybe (moved p a f below)
moved_runs p (Goes g) f below = refl
moved_runs p (Calls callee None) f below = by (nat_lt (length below) 255)
  where
    by : (b : Bool) → RunsMaybe (if b then Some (Running (call_frames p callee None f below) Plain) else None)
    by true = refl
    by false = tt
moved_runs p (Calls callee (Some l)) f below = tt
moved_runs p (Gives given) f below = by f.lock below
  where
    by : (l : Option Lock) (fs : List Frame) → RunsMaybe (moved_back given l fs)
    by None [] = tt
    by None (g ∷ fs) = refl
    by (Some l) fs = tt
moved_runs p (Asks o n) f below = tt
moved_runs p (Fails kind) f below = tt
moved_runs p Undefined f below = tt

step_runs : (p : PlainProgram) (l : LocalState) → RunsMaybe (local_step p l)
step_runs p Ended = tt
step_runs p (Running [] phase) = tt
step_runs p (Running (f ∷ below) Plain) = moved_runs p (action p f) f below
step_runs p (Running (f ∷ below) Entering) = tt
step_runs p (Running (f ∷ below) Left) = tt
step_runs p (Running (f ∷ below) (Waiting l count)) = tt
step_runs p (Running (f ∷ below) (Raised kind)) = tt

go_on_runs : (o : Option LocalState) (l : LocalState) (go : LocalState → LocalState) → RunsMaybe o → is_running l ≡ true → ((m : LocalState) → is_running m ≡ true → is_running (go m) ≡ true) → is_running (go_on o l go) ≡ true
go_on_runs None l go one runs more = runs
go_on_runs (Some m) l go one runs more = more m one

settled_runs : (n : ℕ) (p : PlainProgram) (l : LocalState) → is_running l ≡ true → is_running (settled_within p n l) ≡ true
unfolding settled_within
settled_runs zero p l runs = runs
settled_runs (suc n) p l runs = go_on_runs (local_step p l) l (settled_within p n) (step_runs p l) runs (λ m h. settled_runs n p m h)

completed_runs : (p : PlainProgram) (a : Action) (brought : Option Value) (f : Frame) (below : List Frame) (l : LocalState) → is_running l ≡ true → is_running (completed p a brought f below l) ≡ true
completed_runs p (Goes g) brought f below l runs = runs
completed_runs p (Calls m lk) brought f below l runs = refl
completed_runs p (Gives given) brought f [] l runs = refl
completed_runs p (Gives given) brought f (g ∷ below) l runs = refl
completed_runs p (Asks o n) brought f below l runs = refl
completed_runs p (Fails kind) brought f below l runs = runs
completed_runs p Undefined brought f below l runs = runs

completes_runs : (p : PlainProgram) (l : LocalState) (brought : Option Value) → is_running l ≡ true → is_running (completes p l brought) ≡ true
completes_runs p Ended brought runs = absurd (cc)
completes_runs p (Running [] phase) brought runs = refl
completes_runs p (Running (f ∷ below) Plain) brought runs = completed_runs p (action p f) brought f below (Running (f ∷ below) Plain) refl
completes_runs p (Running (f ∷ below) Entering) brought runs = refl
completes_runs p (Running (f ∷ below) Left) brought runs = refl
completes_runs p (Running (f ∷ below) (Waiting l count)) brought runs = completed_runs p (action p f) brought f below (Running (f ∷ below) (Waiting l count)) refl
completes_runs p (Running (f ∷ below) (Raised kind)) brought runs = refl

-- an outcome that isn't the end
abbrev GoesOn : Outcome → Type 0
GoesOn Stays = Unit {0}
GoesOn Ends = ⊥
GoesOn (Raises kind) = Unit {0}
GoesOn (StartsWaiting l count) = Unit {0}
GoesOn (Completes brought) = Unit {0}

outcome_runs : (p : PlainProgram) (l : LocalState) (x : Outcome) → is_running l ≡ true → GoesOn x → is_running (after_outcome p l x) ≡ true
outcome_runs p l Stays runs on = runs
outcome_runs p l Ends runs on = absurd on
outcome_runs p Ended (Raises kind) runs on = absurd (cc)
outcome_runs p (Running fs phase) (Raises kind) runs on = refl
outcome_runs p Ended (StartsWaiting l count) runs on = absurd (cc)
outcome_runs p (Running fs phase) (StartsWaiting l count) runs on = refl
outcome_runs p l (Completes brought) runs on = completes_runs p l brought runs

-- it is the last event, or the outcome isn't the end
last_or_on : (o : Op) (r : Reply) → (o ≡ op.ThreadEnd) ⊎ GoesOn (outcome o r)
last_or_on op.ThreadEnd r = inl refl
last_or_on op.Tick reply.Unit = inr tt
last_or_on (op.Fault kind m at) reply.Unit = inr tt
last_or_on (op.Wait l) (reply.Waits count) = inr tt
last_or_on o (reply.Got v) = inr tt
last_or_on o (reply.Made v) = inr tt
last_or_on o (reply.Began t) = inr tt
last_or_on o (reply.Raise kind) = inr tt
last_or_on o (reply.Waits count) = inr tt
last_or_on o reply.Unit = inr tt

-- ---- along the entries of a thread

abbrev EndIn : List Entry → Type 0
EndIn [] = ⊥
EndIn (e ∷ es) = (e.op ≡ op.ThreadEnd) ⊎ EndIn es

ends_along : (p : PlainProgram) (l : LocalState) (es : List Entry) → is_running l ≡ true → GoesAlone p l es Ended → EndIn es
ends_along p l [] runs goes = let no : is_running Ended ≡ true = subst (λ (m : LocalState). is_running m ≡ true) goes runs in absurd (cc)
ends_along p l (e ∷ es) runs goes = by (last_or_on e.op e.reply) (λ r. ends_along p (settled p (absorb p l e.op e.reply)) es r goes.1)
  where
    by : (e.op ≡ op.ThreadEnd) ⊎ GoesOn (outcome e.op e.reply) → (is_running (settled p (absorb p l e.op e.reply)) ≡ true → EndIn es) → EndIn (e ∷ es)
    by (inl last) more = inl last
    by (inr on) more = inr (more (settled_runs 4096 p (absorb p l e.op e.reply) (outcome_runs p l (outcome e.op e.reply) runs on)))

fits_along : (p : PlainProgram) (table : Table) (l end : LocalState) (es : List Placed) → IsWellLinked p → IsShapeTable p table → AllByRecursion (FitsEntry (declarations_of p)) es → FitsTable p table l → GoesAlone p l (entries_of es) end → FitsTable p table end
fits_along p table l end [] linked shapes all fit goes = subst (FitsTable p table) goes fit
fits_along p table l end (e ∷ es) linked shapes all fit goes =
    fits_along p table (settled p (absorb p l e.entry.op e.entry.reply)) end es linked shapes all.1
    (settled_fits 4096 p table (absorb p l e.entry.op e.entry.reply) linked shapes (absorb_fits p table l e.entry.op e.entry.reply linked shapes fit goes.0 all.0.fits all.0.made)) goes.1

of_thread_fits : (d : Declarations) (t : ℕ) (es : List Placed) → AllByRecursion (FitsEntry d) es → AllByRecursion (FitsEntry d) (of_thread t es)
of_thread_fits d t [] all = tt
of_thread_fits d t (e ∷ es) all = by (e.entry.thread == t) (of_thread_fits d t es all.1)
  where
    by : (b : Bool) → AllByRecursion (FitsEntry d) (of_thread t es) → AllByRecursion (FitsEntry d) (cond b (e ∷ of_thread t es) (of_thread t es))
    by true rest = (all.0, rest)
    by false rest = rest

contains_more : (x : Placed) (xs : List Placed) (t : ℕ) → HasEnd t xs → HasEnd t (x ∷ xs)
contains_more x xs t has = let at = has.1 in (has.0, (suc at.0, omega (arith, at.1), at.2), has.2, has.3)

has_end : (t : ℕ) (xs : List Placed) → EndIn (entries_of (of_thread t xs)) → HasEnd t xs
has_end t [] in' = absurd in'
has_end t (x ∷ xs) in' = by (x.entry.thread == t) refl in' (λ rest. has_end t xs rest)
  where
    by : (b : Bool) → (x.entry.thread == t) ≡ b → EndIn (entries_of (cond b (x ∷ of_thread t xs) (of_thread t xs))) → (EndIn (entries_of (of_thread t xs)) → HasEnd t xs) → HasEnd t (x ∷ xs)
    by true same (inl last) more = (x, (zero, omega arith, refl), equal x.entry.thread t same, last)
    by true same (inr rest) more = contains_more x xs t (more rest)
    by false other rest more = contains_more x xs t (more rest)

-- ---- a thread that asks for nothing

asks_none : (o : Option Op) → o ≡ None → is_some o ≡ true → ⊥
asks_none None e some = cc
asks_none (Some o) e some = cc

is_ended : (p : PlainProgram) (table : Table) (l : LocalState) → IsWellLinked p → IsShapeTable p table → FitsTable p table l → pending_operation p l ≡ None → l ≡ Ended
is_ended p table Ended linked shapes fit quiet = refl
is_ended p table (Running fs phase) linked shapes fit quiet =
    let asks : is_some (pending_operation p (Running fs phase)) ≡ true = has_operation p table (Running fs phase) linked shapes fit (λ e. cc) in
    absurd (asks_none (pending_operation p (Running fs phase)) quiet asks)

from_end : (p : PlainProgram) (table : Table) (l : LocalState) (end : LocalState) (es : List Placed) → IsWellLinked p → IsShapeTable p table → AllByRecursion (FitsEntry (declarations_of p)) es → FitsTable p table l → is_running l ≡ true
    → GoesAlone p l (entries_of es) end → pending_operation p end ≡ None → EndIn (entries_of es)
from_end p table l end es linked shapes all fit runs goes quiet =
    let ended : end ≡ Ended = is_ended p table end linked shapes (fits_along p table l end es linked shapes all fit goes) quiet in
    ends_along p l (entries_of es) runs (subst (λ (m : LocalState). GoesAlone p l (entries_of es) m) ended goes)

target_end : (p : PlainProgram) (table : Table) (x : Option ObjRef) (end : LocalState) (es : List Placed) → IsSound p → IsShapeTable p table → AllByRecursion (FitsEntry (declarations_of p)) es → ((target : ObjRef) → x ≡ Some target → IsStartable p target)
    → GoesFrom p (begun_for p x) (entries_of es) end → pending_operation p end ≡ None → EndIn (entries_of es)
target_end p table None end es sound shapes all targets goes quiet = absurd goes
target_end p table (Some target) end es sound shapes all targets goes quiet =
    let made = targets target refl in
    from_end p table (settled p (first_of_thread p target)) end es sound.linked shapes all
    (settled_fits 4096 p table (first_of_thread p target) sound.linked shapes (thread_fits p table target sound.linked shapes made.has_run made.objects made.is_thread))
    (settled_runs 4096 p (first_of_thread p target) refl) goes quiet

seen_end : (p : PlainProgram) (table : Table) (seat : SeatView) (t : ℕ) (end : LocalState) (es : List Placed) → IsSound p → IsShapeTable p table → FitsSeat p seat → AllByRecursion (FitsEntry (declarations_of p)) es
    → GoesFrom p (first_seen p seat t) (entries_of es) end → pending_operation p end ≡ None → EndIn (entries_of es)
seen_end p table seat zero end es sound shapes fit all goes quiet =
    from_end p table (settled p (first_of_main p)) end es sound.linked shapes all (settled_fits 4096 p table (first_of_main p) sound.linked shapes (main_fits p table sound.linked shapes)) (settled_runs 4096 p (first_of_main p) refl) goes quiet
seen_end p table seat (suc t) end es sound shapes fit all goes quiet = target_end p table (seat.targets (suc t)) end es sound shapes all (λ target e. fit.targets (suc t) target e) goes quiet

part_end : (p : PlainProgram) (seat : SeatView) (lane t : ℕ) (part : Part) → IsSound p → Contains seat.lanes lane → FitsSeat p seat → IsPart p seat lane t part → part.local.pending ≡ None → HasEnd t (seat.own lane)
part_end p seat lane t part sound has fit is quiet =
    has_end t (seat.own lane)
    (seen_end p sound.verified.0 seat t part.local.state (of_thread t (seat.own lane)) sound sound.verified.1 fit (of_thread_fits (declarations_of p) t (seat.own lane) (fit.replies lane has)) is.goes (sym is.ready.pending ∙ quiet))

slot_end : (p : PlainProgram) (seat : SeatView) (lane t : ℕ) (part : Option Part) → IsSound p → Contains seat.lanes lane → FitsSeat p seat → FollowsAt p seat lane t part → AsksNothing part → HasEnd t (seat.own lane)
slot_end p seat lane t None sound has fit follows quiet = absurd quiet
slot_end p seat lane t (Some part) sound has fit follows quiet = part_end p seat lane t part sound has fit follows quiet

slots_end : (p : PlainProgram) (seat : SeatView) (lane t : ℕ) (xs : List Slot) (k : ℕ) → IsSound p → Contains seat.lanes lane → FitsSeat p seat → AllFollow p seat lane xs → AllQuiet xs → k < length (threads_in xs) → get_or (threads_in xs) k t ≡ t → HasEnd t (seat.own lane)
slots_end p seat lane t [] k sound has fit all quiet within at = absurd (omega (arith, within))
slots_end p seat lane t (x ∷ xs) zero sound has fit all quiet within at = subst (λ (n : ℕ). HasEnd n (seat.own lane)) at (slot_end p seat lane x.thread x.part sound has fit all.0 quiet.0)
slots_end p seat lane t (x ∷ xs) (suc k) sound has fit all quiet within at = slots_end p seat lane t xs k sound has fit all.1 quiet.1 (omega (arith, within)) at

all_end : (p : PlainProgram) (seat : SeatView) (lane : LaneView) → IsSound p → Contains seat.lanes lane.number → FitsSeat p seat → Follows p seat lane → AllQuiet lane.slots → AreThreads lane.number lane.lanes (threads_in lane.slots) → AllThreadsEnd lane.lanes lane.number seat
all_end p seat lane sound has fit follows quiet threads =
    λ t low of_lane. let at = threads.whole t low of_lane in slots_end p seat lane.number t lane.slots at.0 sound has fit follows.each quiet at.1 at.2

-- ---- why it left

left_by : (p : PlainProgram) (old new : SeatView) (lane : LaneView) → IsSound p → Contains new.lanes lane.number → Follows p new lane → LeftSo old new lane → LeftBy ends.Left p lane.lanes lane.number old new
left_by p old new lane sound has follows (inl off) = inl off
left_by p old new lane sound has follows (inr (inl tries)) = inr (inl tries)
left_by p old new lane sound has follows (inr (inr quiet)) = inr (inr (λ fit. all_end p new lane sound has fit follows quiet.0 quiet.1))

pub ends_by : (p : PlainProgram) (old new : SeatView) (lane : LaneView) (end : LaneEnd) → IsSound p → Contains new.lanes lane.number → (end ≡ ends.Left → Follows p new lane) → EndsSo end old new lane → LeftBy end p lane.lanes lane.number old new
ends_by p old new lane ends.Left sound has follows so = left_by p old new lane sound has (follows refl) so
ends_by p old new lane ends.NoMemory sound has follows so = tt
