-- One more entry of a thread, and entries of other threads.
use Rattle.std.proofs.Common.{◌≡◌, ◌≢◌, ℕ, zero, suc, ◌<◌, ◌≤◌, Bool, true, false, List, [], ◌∷◌, ◌++◌, Option, Some, None, refl, arith, ap, sym, ◌∙◌, subst, cond}
use Rattle.std.specs.Prelude.{◌==◌, All}
use Rattle.std.proofs.lemmas.List.{append-nil, map-append}
use Rattle.vm_model.specs.declared.value.ObjRef.{ObjRef}
use Rattle.vm_model.specs.declared.op.Entry.{Entry}
use Rattle.vm_model.specs.declared.op.Op.{Op}
use Rattle.vm_model.specs.declared.op.Reply.{Reply}
use Rattle.vm_model.specs.Program.{PlainProgram}
use Rattle.machine_model.specs.Frames.{LocalState}
use Rattle.machine_model.specs.LocalStep.{settled, pending_operation, absorb}
use Rattle.machine_model.specs.Operations.{entry}
use Rattle.local_machine.specs.LocalView.{LocalView, IsReady, absorbed_by, advanced, fresh}
use Rattle.schedule_log.specs.Foldings.{IsMaximal}
use Rattle.schedule_log.specs.Intervals.{clocks}
use Rattle.projection_laws.specs.Projections.{GoesAlone, GoesFrom, begun_for}
use Rattle.projection_laws.proofs.Places.{same_self, differ}
use Rattle.gate_core.specs.Seats.{Placed, SeatView, SeesMore, entries_of, entry_of, first_seen, of_thread, placed, position_of, positions_of}
use Rattle.gate_core.specs.Gates.{Adds}
use Rattle.lane_core.specs.Parts.{IsOnlyOf, IsPart}
use Rattle.lane_core.specs.declared.part.Part.{Part}

-- ---- the entries of a thread

more : (b : Bool) (x : Placed) (zs us vs : List Placed) → zs ≡ us ++ vs → cond b (x ∷ zs) zs ≡ cond b (x ∷ us) us ++ vs
more true x zs us vs e = ap (λ ws. x ∷ ws) e
more false x zs us vs e = e

pub of_thread-append : (t : ℕ) (xs ys : List Placed) → of_thread t (xs ++ ys) ≡ of_thread t xs ++ of_thread t ys
of_thread-append t [] ys = refl
of_thread-append t (x ∷ xs) ys = more (x.entry.thread == t) x (of_thread t (xs ++ ys)) (of_thread t xs) (of_thread t ys) (of_thread-append t xs ys)

one : (b : Bool) (x : Placed) → b ≡ true → cond b (x ∷ []) [] ≡ x ∷ []
one true x e = refl
one false x e = absurd (cc)

none : (b : Bool) (x : Placed) → b ≡ false → cond b (x ∷ []) [] ≡ []
none true x e = absurd (cc)
none false x e = refl

pub own_added : (t n : ℕ) (o : Op) (r : Reply) (xs ys : List Placed) → ys ≡ xs ++ placed n (entry t o r) ∷ [] → of_thread t ys ≡ of_thread t xs ++ placed n (entry t o r) ∷ []
own_added t n o r xs ys e =
    ap (of_thread t) e ∙ of_thread-append t xs (placed n (entry t o r) ∷ [])
    ∙ ap (λ zs. of_thread t xs ++ zs) (one (t == t) (placed n (entry t o r)) (same_self t))

pub other_added : (t u n : ℕ) (o : Op) (r : Reply) (xs ys : List Placed) → ys ≡ xs ++ placed n (entry t o r) ∷ [] → u ≢ t → of_thread u ys ≡ of_thread u xs
other_added t u n o r xs ys e apart =
    ap (of_thread u) e ∙ of_thread-append u xs (placed n (entry t o r) ∷ [])
    ∙ ap (λ zs. of_thread u xs ++ zs) (none (t == u) (placed n (entry t o r)) (differ t u (λ same. apart (sym same)))) ∙ append-nil (of_thread u xs)

-- ---- where they lead

alone_more : (p : PlainProgram) (l : LocalState) (es : List Entry) (end : LocalState) (t : ℕ) (o : Op) (r : Reply) → GoesAlone p l es end → pending_operation p end ≡ Some o → GoesAlone p l (es ++ entry t o r ∷ []) (settled p (absorb p end o r))
alone_more p l [] end t o r goes asks = (subst (λ (m : LocalState). pending_operation p m ≡ Some o) (sym goes) asks, ap (λ (m : LocalState). settled p (absorb p m o r)) goes)
alone_more p l (e ∷ es) end t o r goes asks = (goes.0, alone_more p (settled p (absorb p l e.op e.reply)) es end t o r goes.1 asks)

pub goes_more : (p : PlainProgram) (x : Option LocalState) (es : List Entry) (end : LocalState) (t : ℕ) (o : Op) (r : Reply) → GoesFrom p x es end → pending_operation p end ≡ Some o → GoesFrom p x (es ++ entry t o r ∷ []) (settled p (absorb p end o r))
goes_more p None es end t o r goes asks = absurd goes
goes_more p (Some l) es end t o r goes asks = alone_more p l es end t o r goes asks

pub target_kept : (p : PlainProgram) (x y : Option ObjRef) (es : List Entry) (end : LocalState) → ((target : ObjRef) → x ≡ Some target → y ≡ Some target) → GoesFrom p (begun_for p x) es end → GoesFrom p (begun_for p y) es end
target_kept p None y es end sees goes = absurd goes
target_kept p (Some target) y es end sees goes = subst (λ (z : Option ObjRef). GoesFrom p (begun_for p z) es end) (sym (sees target refl)) goes

-- a thread that was seen to begin is still seen so
pub goes_kept : (p : PlainProgram) (old new : SeatView) (t : ℕ) (es : List Entry) (end : LocalState) → SeesMore old new → GoesFrom p (first_seen p old t) es end → GoesFrom p (first_seen p new t) es end
goes_kept p old new zero es end sees goes = goes
goes_kept p old new (suc t) es end sees goes = target_kept p (old.targets (suc t)) (new.targets (suc t)) es end (λ target e. sees (suc t) target e) goes

-- ---- parts

-- a thread of which there is no new entry stays a part
pub part_kept : (p : PlainProgram) (old new : SeatView) (lane t : ℕ) (part : Part) → SeesMore old new → of_thread t (new.own lane) ≡ of_thread t (old.own lane) → IsPart p old lane t part → IsPart p new lane t part
part_kept p old new lane t part sees same is = record {
  ready = is.ready;
  goes = subst (λ (es : List Placed). GoesFrom p (first_seen p new t) (entries_of es) part.local.state) (sym same) (goes_kept p old new t (entries_of (of_thread t (old.own lane))) part.local.state sees is.goes);
  thread_is = is.thread_is;
  maximal = is.maximal;
  noted = is.noted ∙ ap positions_of (sym same);
}

-- after an entry of its own a thread is a part, once it has gone on to its next operation
pub part_added : (p : PlainProgram) (old new : SeatView) (lane t clock : ℕ) (o : Op) (r : Reply) (before after : Part) → SeesMore old new → Adds lane clock t o r old new → IsPart p old lane t before → before.local.pending ≡ Some o
    → after.local.state ≡ settled p (absorb p before.local.state o r) → IsReady p after.local → after.folding.thread ≡ before.folding.thread → IsMaximal after.folding → clocks after.folding.intervals ≡ clocks before.folding.intervals ++ clock ∷ [] → IsPart p new lane t after
part_added p old new lane t clock o r before after sees adds is asks state ready thread maximal noted =
    let added : of_thread t (new.own lane) ≡ of_thread t (old.own lane) ++ placed clock (entry t o r) ∷ [] = own_added t clock o r (old.own lane) (new.own lane) adds.added in
    let entries : entries_of (of_thread t (new.own lane)) ≡ entries_of (of_thread t (old.own lane)) ++ entry t o r ∷ [] = ap entries_of added ∙ map-append entry_of (of_thread t (old.own lane)) (placed clock (entry t o r) ∷ []) in
    let positions : positions_of (of_thread t (new.own lane)) ≡ positions_of (of_thread t (old.own lane)) ++ clock ∷ [] = ap positions_of added ∙ map-append position_of (of_thread t (old.own lane)) (placed clock (entry t o r) ∷ []) in
    let goes : GoesFrom p (first_seen p new t) (entries_of (of_thread t (old.own lane)) ++ entry t o r ∷ []) (settled p (absorb p before.local.state o r)) =
    goes_more p (first_seen p new t) (entries_of (of_thread t (old.own lane))) before.local.state t o r (goes_kept p old new t (entries_of (of_thread t (old.own lane))) before.local.state sees is.goes) (sym is.ready.pending ∙ asks) in
    record {
      ready = ready;
      goes = subst (λ (es : List Entry). GoesFrom p (first_seen p new t) es after.local.state) (sym entries) (subst (λ (l : LocalState). GoesFrom p (first_seen p new t) (entries_of (of_thread t (old.own lane)) ++ entry t o r ∷ []) l) (sym state) goes);
      thread_is = thread ∙ is.thread_is;
      maximal = maximal;
      noted = noted ∙ ap (λ ns. ns ++ clock ∷ []) is.noted ∙ sym positions;
    }

-- ---- the seat

pub only_added : (t lane clock : ℕ) (o : Op) (r : Reply) (old new : SeatView) → new.lanes ≡ old.lanes → SeesMore old new → old.tries ≤ new.tries → Adds lane clock t o r old new → IsOnlyOf t lane old new
only_added t lane clock o r old new lanes sees tries adds = record { lanes = lanes; sees = sees; others = λ u apart. other_added t u clock o r (old.own lane) (new.own lane) adds.added apart; other_lanes = adds.others; tries = tries }

-- two calls on behalf of the same thread
pub only_then : (t lane : ℕ) (old mid new : SeatView) → IsOnlyOf t lane old mid → IsOnlyOf t lane mid new → IsOnlyOf t lane old new
only_then t lane old mid new first second = record {
  lanes = second.lanes ∙ first.lanes;
  sees = λ u target e. second.sees u target (first.sees u target e);
  others = λ u apart. second.others u apart ∙ first.others u apart;
  other_lanes = λ other apart. second.other_lanes other apart ∙ first.other_lanes other apart;
  tries = omega (arith, first.tries, second.tries);
}

-- ---- clocks

below_more : (clock n : ℕ) (ns : List ℕ) → n < clock → All (λ m. m < clock) ns → All (λ m. m < clock) (n ∷ ns)
below_more clock n ns low h zero d within = low
below_more clock n ns low h (suc k) d within = h k d (omega (arith, within))

below_rest : (clock : ℕ) (x : Placed) (xs : List Placed) → All (λ (e : Placed). e.position < clock) (x ∷ xs) → All (λ (e : Placed). e.position < clock) xs
below_rest clock x xs h k d within = h (suc k) d (omega (arith, within))

below_if : (b : Bool) (clock : ℕ) (x : Placed) (zs : List Placed) → x.position < clock → All (λ m. m < clock) (positions_of zs) → All (λ m. m < clock) (positions_of (cond b (x ∷ zs) zs))
below_if true clock x zs low h = below_more clock x.position (positions_of zs) low h
below_if false clock x zs low h = h

-- the clocks of a thread are lower than a clock that all of its lane are lower than
pub noted_below : (t clock : ℕ) (xs : List Placed) → All (λ (e : Placed). e.position < clock) xs → All (λ n. n < clock) (positions_of (of_thread t xs))
noted_below t clock [] h = λ k d within. absurd (omega (arith, within))
noted_below t clock (x ∷ xs) h = below_if (x.entry.thread == t) clock x (of_thread t xs) (h zero x (omega arith)) (noted_below t clock xs (below_rest clock x xs h))

-- ---- a thread that goes on

-- a fresh thread that went on is at its next operation
pub fresh_ready : (p : PlainProgram) (l : LocalState) (new : LocalView) → new ≡ advanced p (fresh l) → (new.state ≡ settled p l) × IsReady p new
fresh_ready p l new e = (ap (λ (v : LocalView). v.state) e, subst (IsReady p) (sym e) (record { is_ready = refl; pending = refl; completion = refl }))

-- the same after the reply to what it asked for
pub replied_ready : (p : PlainProgram) (l : LocalView) (o : Op) (r : Reply) (absorbed new : LocalView) → l.pending ≡ Some o → absorbed ≡ fresh (absorbed_by p l.pending l.state r) → new ≡ advanced p absorbed
    → (new.state ≡ settled p (absorb p l.state o r)) × IsReady p new
replied_ready p l o r absorbed new asks is e = fresh_ready p (absorb p l.state o r) new (e ∙ ap (advanced p) (is ∙ ap (λ (q : Option Op). fresh (absorbed_by p q l.state r)) asks))
