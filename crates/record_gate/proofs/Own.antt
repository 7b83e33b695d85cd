-- A seat's own entries, and what it has seen.
use Rattle.std.proofs.Common.{◌≡◌, inl, inr, ℕ, ◌+◌, ◌%◌, eqb, Bool, true, false, if◌then◌else◌, List, [], ◌∷◌, ◌++◌, length, refl, sym, ap, ◌∙◌, subst, arith, eqb-true, append_assoc}
use Rattle.std.specs.Prelude.{Option, Some, None, slice_get, is_some, ◌||◌}
use Rattle.std.specs.List.{list_all}
use mathlib.Core.List.{IsPrefix}
use Rattle.vm_model.specs.declared.value.ObjRef.{ObjRef}
use Rattle.machine_model.specs.Declarations.{Declarations}
use Rattle.machine_model.specs.Kinds.{is_thread_class}
use Rattle.machine_model.specs.Machine.{has_ended}
use Rattle.projection_laws.specs.Projections.{target_in}
use Rattle.gate_core.specs.Seats.{Placed, placed}
use Rattle.projection_laws.proofs.Targets.{legal_target, legal_class}
use Rattle.vm_model.specs.declared.op.Op.{Op}
use Rattle.vm_model.specs.declared.op.Reply.{Reply}
use Rattle.vm_model.specs.declared.op.Entry.{Entry}
use Rattle.machine_model.specs.Operations.{apply, entry, target_of}
use Rattle.shared_world.specs.Worlds.{WorldState}
use Rattle.gate_core.specs.declared.gate.Begun.{Begun}
use Rattle.record_gate.specs.declared.answers.Committing.{Committing}
use Rattle.record_gate.specs.declared.answers.Committing.TheVariants as answer
use Rattle.record_gate.specs.declared.rule.RecordView.{RecordView}
use Rattle.gate_core.specs.Histories.{numbered, of_lane, entries_of_lane}
use Rattle.record_gate.specs.Lanes.{has, HasNone}
use Rattle.record_gate.specs.Calls.{Tried, Asked, KeepsOwn, OwnAfter, TellsTarget}
use Rattle.record_gate.specs.Judging.{begun_from, FitsTarget}
use Rattle.record_gate.specs.Steps.{Finds, Extends, Unites}
use Rattle.record_gate.specs.Views.{tried, given, choosing, both, merged, longer}
use Rattle.record_gate.proofs.Lists.{clash, false_unless, with_nothing}

-- ---- entries of a lane

-- those in a part of a history that begins at this position
abbrev pub own_from : ℕ → ℕ → ℕ → List Entry → List Placed
own_from n l at es = of_lane n l (numbered at es)

own_more : (n l at : ℕ) (e : Entry) (xs ys : List Entry) (b : Bool) → own_from n l (at + 1) (xs ++ ys) ≡ own_from n l (at + 1) xs ++ own_from n l (at + 1 + length xs) ys
    → (if b then placed at e ∷ own_from n l (at + 1) (xs ++ ys) else own_from n l (at + 1) (xs ++ ys)) ≡ (if b then placed at e ∷ own_from n l (at + 1) xs else own_from n l (at + 1) xs) ++ own_from n l (at + length (e ∷ xs)) ys
own_more n l at e xs ys true h = let k : at + 1 + length xs ≡ at + length (e ∷ xs) = omega arith in ap (λ z. placed at e ∷ z) h ∙ ap (λ (m : ℕ). placed at e ∷ (own_from n l (at + 1) xs ++ own_from n l m ys)) k
own_more n l at e xs ys false h = let k : at + 1 + length xs ≡ at + length (e ∷ xs) = omega arith in h ∙ ap (λ (m : ℕ). own_from n l (at + 1) xs ++ own_from n l m ys) k

own_append : (n l at : ℕ) (xs ys : List Entry) → own_from n l at (xs ++ ys) ≡ own_from n l at xs ++ own_from n l (at + length xs) ys
own_append n l at [] ys = let k : at ≡ at + 0 = omega arith in ap (λ (m : ℕ). own_from n l m ys) k
own_append n l at (e ∷ xs) ys = own_more n l at e xs ys (eqb (e.thread % n) l) (own_append n l (at + 1) xs ys)

own_nothing : (n l at : ℕ) (lanes : List ℕ) (es : List Entry) → HasNone n lanes es → has lanes l ≡ true → own_from n l at es ≡ []
own_nothing n l at lanes [] none mine = refl
own_nothing n l at lanes (e ∷ es) none mine =
    let other : eqb (e.thread % n) l ≡ false = false_unless _ (λ is. clash (has lanes (e.thread % n)) none.0 (subst (λ (z : ℕ). has lanes z ≡ true) (sym (eqb-true (e.thread % n) l is)) mine)) in
    subst (λ b. (if b then placed at e ∷ own_from n l (at + 1) es else own_from n l (at + 1) es) ≡ []) (sym other) (own_nothing n l (at + 1) lanes es none.1 mine)

-- ---- what the world that was found has

pub found_own : (v : RecordView) (w : WorldState) → Finds v w → KeepsOwn v w.history
found_own v w f lane mine =
    let n : ℕ = v.lane_count in
    ap (own_from n lane 0) f.begins
    ∙ (own_append n lane 0 v.seen f.more ∙ (ap (λ z. own_from n lane 0 v.seen ++ z) (own_nothing n lane (0 + length v.seen) v.lanes f.more f.others mine) ∙ sym (with_nothing (own_from n lane 0 v.seen))))

pub found_prefix : (v : RecordView) (w : WorldState) → Finds v w → IsPrefix v.seen w.history
found_prefix v w f = (f.more, sym f.begins)

further : (xs ys zs : List Entry) → IsPrefix xs ys → IsPrefix xs (ys ++ zs)
further xs ys zs p = (p.0 ++ zs, sym (append_assoc xs p.0 zs) ∙ ap (λ z. z ++ zs) p.1)

-- ---- after a call

committed_own : (v : RecordView) (w : WorldState) (t : ℕ) (o : Op) (clock : ℕ) (r : Reply) → Finds v w → clock ≡ length w.history → r ≡ (apply w.declarations w.shared t o).reply
    → OwnAfter v (tried v (w.history ++ entry t o (apply w.declarations w.shared t o).reply ∷ [])) t o (answer.Committed clock r)
committed_own v w t o clock r f at is lane mine =
    let n : ℕ = v.lane_count in
    let e : Entry = entry t o (apply w.declarations w.shared t o).reply in
    let from : 0 + length w.history ≡ clock = omega (arith, at) in
    own_append n lane 0 w.history (e ∷ [])
    ∙ (ap (λ z. z ++ own_from n lane (0 + length w.history) (e ∷ [])) (found_own v w f lane mine)
    ∙ (λ i. entries_of_lane n lane v.seen ++ (if eqb (t % n) lane then placed (from i) (entry t o (sym is i)) ∷ [] else [])))

pub tried_own : (v v' : RecordView) (t : ℕ) (o : Op) (a : Committing) → Tried v v' t o a → OwnAfter v v' t o a
tried_own v v' t o (answer.Committed clock r) x = subst (λ (u : RecordView). OwnAfter v u t o (answer.Committed clock r)) (sym x.3) (committed_own v x.0 t o clock r x.1 x.2.1 x.2.2)
tried_own v v' t o answer.Busy x = λ lane mine. ap (λ (u : RecordView). entries_of_lane v.lane_count lane u.seen) x
tried_own v v' t o answer.Blocked x = subst (λ (u : RecordView). KeepsOwn v u.seen) (sym x.3) (found_own v x.0 x.1)
tried_own v v' t o (answer.Over e) x = subst (λ (u : RecordView). KeepsOwn v u.seen) (sym x.3) (found_own v x.0 x.1)
tried_own v v' t o answer.Spent x = subst (λ (u : RecordView). KeepsOwn v u.seen) (sym x.3) (found_own v x.0 x.1)
tried_own v v' t o answer.NoMemory x = subst (λ (u : RecordView). KeepsOwn v u.seen) (sym x.3) (found_own v x.0 x.1)

pub tried_prefix : (v v' : RecordView) (t : ℕ) (o : Op) (a : Committing) → Tried v v' t o a → IsPrefix v.seen v'.seen
tried_prefix v v' t o (answer.Committed clock r) x = subst (λ (u : RecordView). IsPrefix v.seen u.seen) (sym x.3) (further v.seen x.0.history (entry t o (apply x.0.declarations x.0.shared t o).reply ∷ []) (found_prefix v x.0 x.1))
tried_prefix v v' t o answer.Busy x = ([], sym (with_nothing v.seen) ∙ sym (ap (λ (u : RecordView). u.seen) x))
tried_prefix v v' t o answer.Blocked x = subst (λ (u : RecordView). IsPrefix v.seen u.seen) (sym x.3) (found_prefix v x.0 x.1)
tried_prefix v v' t o (answer.Over e) x = subst (λ (u : RecordView). IsPrefix v.seen u.seen) (sym x.3) (found_prefix v x.0 x.1)
tried_prefix v v' t o answer.Spent x = subst (λ (u : RecordView). IsPrefix v.seen u.seen) (sym x.3) (found_prefix v x.0 x.1)
tried_prefix v v' t o answer.NoMemory x = subst (λ (u : RecordView). IsPrefix v.seen u.seen) (sym x.3) (found_prefix v x.0 x.1)

pub asked_own : (v v' : RecordView) (t : ℕ) (b : Begun) → Asked v v' t b → KeepsOwn v v'.seen
asked_own v v' t b (inl x) = subst (λ (u : RecordView). KeepsOwn v u.seen) (sym x.3) (found_own v x.0 x.1)
asked_own v v' t b (inr x) = λ lane mine. ap (λ (u : RecordView). entries_of_lane v.lane_count lane u.seen) x.1

pub asked_prefix : (v v' : RecordView) (t : ℕ) (b : Begun) → Asked v v' t b → IsPrefix v.seen v'.seen
asked_prefix v v' t b (inl x) = subst (λ (u : RecordView). IsPrefix v.seen u.seen) (sym x.3) (found_prefix v x.0 x.1)
asked_prefix v v' t b (inr x) = ([], sym (with_nothing v.seen) ∙ sym (ap (λ (u : RecordView). u.seen) x.1))

-- ---- the targets that are told

told_from : (h : List Entry) (t : ℕ) (v : RecordView) (o : Option ObjRef) (over : Bool) → v.seen ≡ h → o ≡ target_in h t → TellsTarget v t (begun_from o over)
told_from h t v (Some target) over is e = ap (λ z. target_in z t) is ∙ sym e
told_from h t v None true is e = tt
told_from h t v None false is e = tt

pub asked_target : (v v' : RecordView) (t : ℕ) (b : Begun) → Asked v v' t b → TellsTarget v' t b
asked_target v v' t b (inl x) =
    subst (TellsTarget v' t) (sym x.2) (told_from x.0.history t v' (target_of (slice_get x.0.shared.rows t)) (is_some x.0.shared.fault || list_all has_ended x.0.shared.rows) (ap (λ (u : RecordView). u.seen) x.3) (legal_target x.0.declarations x.0.history x.0.shared x.1.legal t))
asked_target v v' t b (inr x) = subst (TellsTarget v' t) (sym x.0) tt

-- ---- split and join

pub split_unused : (v u : RecordView) (lane : ℕ) → u ≡ given (choosing v lane) → HasNone v.lane_count v.spare v.seen → has v.spare lane ≡ true → entries_of_lane u.lane_count lane u.seen ≡ []
split_unused v u lane is none may = ap (λ (x : RecordView). entries_of_lane x.lane_count lane x.seen) is ∙ own_nothing v.lane_count lane 0 v.spare v.seen none may

extends_own : (n : ℕ) (lanes : List ℕ) (xs ys : List Entry) (lane : ℕ) → Extends n lanes xs ys → has lanes lane ≡ true → entries_of_lane n lane ys ≡ entries_of_lane n lane xs
extends_own n lanes xs ys lane x mine =
    ap (own_from n lane 0) x.is ∙ (own_append n lane 0 xs x.more ∙ (ap (λ z. own_from n lane 0 xs ++ z) (own_nothing n lane (0 + length xs) lanes x.more x.others mine) ∙ sym (with_nothing (own_from n lane 0 xs))))

pub joined_own : (v w m : RecordView) → m ≡ merged (both v w) → Unites (both v w) → w.lane_count ≡ v.lane_count → KeepsOwn v m.seen × KeepsOwn w m.seen
joined_own v w m is u count = (
  (λ lane mine. ap (λ (x : RecordView). entries_of_lane v.lane_count lane x.seen) is ∙ extends_own v.lane_count v.lanes v.seen (longer v.seen w.seen) lane u.mine mine),
  λ lane mine. subst (λ (n : ℕ). entries_of_lane n lane m.seen ≡ entries_of_lane n lane w.seen) (sym count)
      (ap (λ (x : RecordView). entries_of_lane v.lane_count lane x.seen) is ∙ extends_own v.lane_count w.lanes w.seen (longer v.seen w.seen) lane u.heard mine),
)

fits_from : (d : Declarations) (o : Option ObjRef) (over : Bool) → ((x : ObjRef) → o ≡ Some x → is_thread_class d x.class ≡ true) → FitsTarget d (begun_from o over)
fits_from d (Some x) over f = f x refl
fits_from d None true f = tt
fits_from d None false f = tt

pub asked_fits : (d : Declarations) (v v' : RecordView) (t : ℕ) (b : Begun) → v.start ≡ d → Asked v v' t b → FitsTarget d b
asked_fits d v v' t b told (inl x) =
    let w : WorldState = x.0 in
    let same : w.declarations ≡ d = x.1.declarations ∙ told in
    subst (FitsTarget d) (sym x.2)
    (fits_from d (target_of (slice_get w.shared.rows t)) (is_some w.shared.fault || list_all has_ended w.shared.rows)
    (λ y is. subst (λ z. is_thread_class z y.class ≡ true) same (legal_class w.declarations w.history w.shared x.1.legal t y (sym (legal_target w.declarations w.history w.shared x.1.legal t) ∙ is))))
asked_fits d v v' t b told (inr x) = subst (FitsTarget d) (sym x.0) tt
