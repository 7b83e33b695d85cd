-- What a seat keeps of a lane's thread is what the history has of the thread.
use Rattle.std.proofs.Common.{◌≡◌, ℕ, zero, suc, ◌+◌, ◌%◌, Bool, true, false, cond, List, [], ◌∷◌, Some, refl, ap, sym, ◌∙◌, subst}
use Rattle.std.specs.Prelude.{◌==◌}
use Rattle.vm_model.specs.declared.value.ObjRef.{ObjRef}
use Rattle.vm_model.specs.declared.op.Entry.{Entry}
use Rattle.vm_model.specs.Program.{PlainProgram}
use Rattle.machine_model.specs.Frames.{LocalState}
use Rattle.machine_model.specs.Machine.{threads_of}
use Rattle.schedule_log.specs.Parts as log
use Rattle.projection_laws.specs.Projections.{GoesFrom, IsProjection, first_in, own, target_in}
use Rattle.projection_laws.proofs.Places.{equal, unequal}
use Rattle.gate_core.specs.Seats.{Placed, SeatView, entries_of, first_seen, of_thread, placed, positions_of}
use Rattle.lane_core.specs.Parts.{IsPart}
use Rattle.lane_core.specs.declared.part.Part.{Part}
use Rattle.lane_core.proofs.Following.{target_kept}
use Rattle.gate_core.specs.Histories.{numbered, of_lane}
use Rattle.lane_driver.specs.Histories.{Closes}

-- ---- entries

entry_if : (b : Bool) (x : Placed) (xs : List Placed) (es : List Entry) → entries_of xs ≡ es → entries_of (cond b (x ∷ xs) xs) ≡ cond b (x.entry ∷ es) es
entry_if true x xs es e = ap (λ (ys : List Entry). x.entry ∷ ys) e
entry_if false x xs es e = e

skip : {X : Type 0} (b : Bool) (x : X) (xs : List X) → b ≡ false → cond b (x ∷ xs) xs ≡ xs
skip true x xs e = absurd (cc)
skip false x xs e = refl

apart : (t u W : ℕ) → (t % W == u % W) ≡ false → (t == u) ≡ false
apart t u W e = by (t == u) refl
  where
    by : (b : Bool) → (t == u) ≡ b → b ≡ false
    by true same = let no = unequal (t % W) (u % W) e in absurd (no (ap (λ (n : ℕ). n % W) (equal t u same)))
    by false other = refl

pub own_of_lane : (t W n : ℕ) (h : List Entry) → entries_of (of_thread t (of_lane W (t % W) (numbered n h))) ≡ own t h
own_of_lane t W n [] = refl
own_of_lane t W n (e ∷ es) = by (e.thread % W == t % W) refl (own_of_lane t W (n + 1) es)
  where
    by : (b : Bool) → (e.thread % W == t % W) ≡ b → entries_of (of_thread t (of_lane W (t % W) (numbered (n + 1) es))) ≡ own t es
        → entries_of (of_thread t (cond b (placed n e ∷ of_lane W (t % W) (numbered (n + 1) es)) (of_lane W (t % W) (numbered (n + 1) es)))) ≡ cond (e.thread == t) (e ∷ own t es) (own t es)
    by true of rest = entry_if (e.thread == t) (placed n e) (of_thread t (of_lane W (t % W) (numbered (n + 1) es))) (own t es) rest
    by false of rest = rest ∙ sym (skip (e.thread == t) e (own t es) (apart e.thread t W of))

-- ---- positions

position_if : (b : Bool) (x : Placed) (xs : List Placed) (ns : List ℕ) → positions_of xs ≡ ns → positions_of (cond b (x ∷ xs) xs) ≡ cond b (x.position ∷ ns) ns
position_if true x xs ns e = ap (λ (ms : List ℕ). x.position ∷ ms) e
position_if false x xs ns e = e

pub positions_of_lane : (t W n : ℕ) (h : List Entry) → positions_of (of_thread t (of_lane W (t % W) (numbered n h))) ≡ log.positions_from n t (threads_of h)
positions_of_lane t W n [] = refl
positions_of_lane t W n (e ∷ es) = by (e.thread % W == t % W) refl (positions_of_lane t W (n + 1) es)
  where
    by : (b : Bool) → (e.thread % W == t % W) ≡ b → positions_of (of_thread t (of_lane W (t % W) (numbered (n + 1) es))) ≡ log.positions_from (n + 1) t (threads_of es)
        → positions_of (of_thread t (cond b (placed n e ∷ of_lane W (t % W) (numbered (n + 1) es)) (of_lane W (t % W) (numbered (n + 1) es)))) ≡ cond (e.thread == t) (n ∷ log.positions_from (n + 1) t (threads_of es)) (log.positions_from (n + 1) t (threads_of es))
    by true of rest = position_if (e.thread == t) (placed n e) (of_thread t (of_lane W (t % W) (numbered (n + 1) es))) (log.positions_from (n + 1) t (threads_of es)) rest
    by false of rest = rest ∙ sym (skip (e.thread == t) n (log.positions_from (n + 1) t (threads_of es)) (apart e.thread t W of))

-- ---- a part of a lane

goes_in : (p : PlainProgram) (seat : SeatView) (h : List Entry) (t : ℕ) (es : List Entry) (end : LocalState) → ((u : ℕ) (target : ObjRef) → seat.targets u ≡ Some target → target_in h u ≡ Some target)
    → GoesFrom p (first_seen p seat t) es end → GoesFrom p (first_in p h t) es end
goes_in p seat h zero es end targets goes = goes
goes_in p seat h (suc t) es end targets goes = target_kept p (seat.targets (suc t)) (target_in h (suc t)) es end (λ target e. targets (suc t) target e) goes

pub part_projects : (p : PlainProgram) (lanes : ℕ) (seat : SeatView) (h : List Entry) (t : ℕ) (part : Part) → Closes lanes seat h (t % lanes) → IsPart p seat (t % lanes) t part → IsProjection p h t part.local.state
part_projects p lanes seat h t part closes is =
    let same : entries_of (of_thread t (seat.own (t % lanes))) ≡ own t h = ap (λ (es : List Placed). entries_of (of_thread t es)) (sym closes.entries) ∙ own_of_lane t lanes 0 h in
    subst (λ (es : List Entry). GoesFrom p (first_in p h t) es part.local.state) same (goes_in p seat h t (entries_of (of_thread t (seat.own (t % lanes)))) part.local.state closes.targets is.goes)

pub part_noted : (p : PlainProgram) (lanes : ℕ) (seat : SeatView) (h : List Entry) (t : ℕ) (part : Part) → Closes lanes seat h (t % lanes) → IsPart p seat (t % lanes) t part → log.IsPart (threads_of h) t part.folding
part_noted p lanes seat h t part closes is = record {
  of_thread = is.thread_is;
  maximal = is.maximal;
  noted = is.noted ∙ ap (λ (es : List Placed). positions_of (of_thread t es)) (sym closes.entries) ∙ positions_of_lane t lanes 0 h;
}

-- a thread of which the seat has no entry has none in the history
pub none_own : (lanes : ℕ) (seat : SeatView) (h : List Entry) (t : ℕ) → Closes lanes seat h (t % lanes) → of_thread t (seat.own (t % lanes)) ≡ [] → own t h ≡ []
none_own lanes seat h t closes none = sym (own_of_lane t lanes 0 h) ∙ ap (λ (es : List Placed). entries_of (of_thread t es)) closes.entries ∙ ap entries_of none

pub none_noted : (lanes : ℕ) (seat : SeatView) (h : List Entry) (t : ℕ) → Closes lanes seat h (t % lanes) → of_thread t (seat.own (t % lanes)) ≡ [] → log.positions t (threads_of h) ≡ []
none_noted lanes seat h t closes none = sym (positions_of_lane t lanes 0 h) ∙ ap (λ (es : List Placed). positions_of (of_thread t es)) closes.entries ∙ ap positions_of none
