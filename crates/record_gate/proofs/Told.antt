-- What lanes are told is what the calls of the gate tell.
use Rattle.std.proofs.Common.{◌≡◌, ◌≢◌, ℕ, ◌+◌, ◌%◌, ◌<◌, ◌≤◌, eqb, Bool, true, false, if◌then◌else◌, List, [], ◌∷◌, ◌++◌, length, Option, Some, None, refl, sym, ap, ◌∙◌, subst, arith, append-nil, eq-eqb, ne_eqb, eqb-true}
use Rattle.std.specs.List.{All, AllByRecursion, Contains, list_all}
use Rattle.std.proofs.lemmas.Grind.{common_steps}
use Rattle.std.proofs.lemmas.List.Elements.{All-from_recursion}
use mathlib.Core.List.{IsPrefix}
use Rattle.vm_model.specs.declared.value.ObjRef.{ObjRef}
use Rattle.vm_model.specs.declared.ends.Fault.{Fault}
use Rattle.vm_model.specs.declared.op.Op.{Op}
use Rattle.vm_model.specs.declared.op.Reply.{Reply}
use Rattle.vm_model.specs.declared.op.Entry.{Entry}
use Rattle.machine_model.specs.Machine.{has_ended}
use Rattle.machine_model.specs.Operations.{entry, is_enabled}
use Rattle.projection_laws.specs.Projections.{target_by, target_or, target_in}
use Rattle.shared_world.specs.Worlds.{WorldState}
use Rattle.gate_core.specs.Seats.{Placed, placed, SeesMore}
use Rattle.gate_core.specs.Gates.{EntriesAfter, Adds, StandsBelow}
use Rattle.gate_core.specs.declared.gate.Offer.{Offer}
use Rattle.record_gate.specs.declared.answers.Committing.{Committing}
use Rattle.record_gate.specs.declared.answers.Committing.TheVariants as answer
use Rattle.record_gate.specs.declared.rule.RecordView.{RecordView}
use Rattle.gate_core.specs.Histories.{entries_of_lane}
use Rattle.record_gate.specs.Lanes.{has}
use Rattle.record_gate.specs.Calls.{Tried, KeepsOwn, OwnAfter}
use Rattle.record_gate.specs.Judging.{first_refusal}
use Rattle.record_gate.specs.Offers.{offer_of, own_of, told_of}
use Rattle.record_gate.specs.Seats.{SeatState}
use Rattle.record_gate.specs.Steps.{Finds}
use Rattle.record_gate.proofs.Lists.{clash, no}
use Rattle.record_gate.proofs.Own.{own_from}

-- ---- targets

kept_by : (o a b : Option ObjRef) (target : ObjRef) → (a ≡ Some target → b ≡ Some target) → target_or o a ≡ Some target → target_or o b ≡ Some target
kept_by None a b target f is = f is
kept_by (Some x) a b target f is = is

pub kept_in : (xs ys : List Entry) (t : ℕ) (target : ObjRef) → target_in xs t ≡ Some target → target_in (xs ++ ys) t ≡ Some target
kept_in [] ys t target is = absurd cc
kept_in (e ∷ xs) ys t target is = kept_by (target_by e.op e.reply t) (target_in xs t) (target_in (xs ++ ys) t) target (kept_in xs ys t target) is

pub more_targets : (s s' : SeatState) (zs : List Entry) → IsPrefix s.view.seen zs → s'.view.seen ≡ zs → SeesMore (told_of s) (told_of s')
more_targets s s' zs p is t target found = subst (λ (h : List Entry). target_in h t ≡ Some target) (p.1 ∙ sym is) (kept_in s.view.seen p.0 t target found)

-- ---- entries

below : (n l at bound : ℕ) (es : List Entry) → at + length es ≤ bound → AllByRecursion (λ (e : Placed). e.position < bound) (own_from n l at es)
below n l at bound [] h = tt
below n l at bound (e ∷ es) h = by_lane (eqb (e.thread % n) l) (omega arith) (below n l (at + 1) bound es (omega arith))
  where
    by_lane : (b : Bool) → at < bound → AllByRecursion (λ (e : Placed). e.position < bound) (own_from n l (at + 1) es) → AllByRecursion (λ (e : Placed). e.position < bound) (if b then placed at e ∷ own_from n l (at + 1) es else own_from n l (at + 1) es)
    by_lane true here rest = (here, rest)
    by_lane false here rest = rest

chosen : (b : Bool) (xs ys : List Placed) → (b ≡ true → xs ≡ ys) → (if b then xs else []) ≡ (if b then ys else [])
chosen true xs ys f = f refl
chosen false xs ys f = refl

pub taken : (b : Bool) (xs : List Placed) → b ≡ true → (if b then xs else []) ≡ xs
taken true xs is = refl
taken false xs is = absurd (no is)

own_below : (v : RecordView) (clock lane : ℕ) → length v.seen ≤ clock → has v.lanes lane ≡ true → All (λ (e : Placed). e.position < clock) (own_of v lane)
own_below v clock lane seen mine =
    let own : List Placed = entries_of_lane v.lane_count lane v.seen in
    subst (λ (es : List Placed). All (λ (e : Placed). e.position < clock) es) (sym (taken (has v.lanes lane) own mine))
    (All-from_recursion (λ (e : Placed). e.position < clock) own (below v.lane_count lane 0 clock v.seen (omega (arith, seen))))

-- what the seat has seen changes, and its lanes don't
record Stays (v v' : RecordView) : Type 0 where
  lanes : v'.lanes ≡ v.lanes
  count : v'.lane_count ≡ v.lane_count

renamed : (v v' : RecordView) (lane : ℕ) → Stays v v' → own_of v' lane ≡ (if has v.lanes lane then entries_of_lane v.lane_count lane v'.seen else [])
renamed v v' lane same = λ i. if has (same.lanes i) lane then entries_of_lane (same.count i) lane v'.seen else []

same_own : (v v' : RecordView) → Stays v v' → KeepsOwn v v'.seen → (lane : ℕ) → own_of v' lane ≡ own_of v lane
same_own v v' same kept lane = renamed v v' lane same ∙ chosen (has v.lanes lane) (entries_of_lane v.lane_count lane v'.seen) (entries_of_lane v.lane_count lane v.seen) (kept lane)

room_left : (f : Option Fault) (done spent enabled : Bool) → first_refusal f done spent enabled ≡ None → spent ≡ false
room_left (Some f) done spent enabled e = absurd cc
room_left None true spent enabled e = absurd cc
room_left None false true enabled e = absurd cc
room_left None false false enabled e = refl

differs : (a b : ℕ) → eqb a b ≡ false → a ≢ b
differs a b e is = clash (eqb a b) e (eq-eqb a b is)

adds : (n : ℕ) (s s' : SeatState) (t : ℕ) (o : Op) (clock : ℕ) (r : Reply) → s.view.lane_count ≡ n → has s.view.lanes (t % n) ≡ true → Stays s.view s'.view → Tried s.view s'.view t o (answer.Committed clock r)
    → OwnAfter s.view s'.view t o (answer.Committed clock r) → Adds (t % n) clock t o r (told_of s) (told_of s')
adds n s s' t o clock r count lane same x own =
    let v = s.view in
    let w : WorldState = x.0 in
    let finds : Finds v w = x.1 in
    let left : length w.history ≢ w.budget = differs (length w.history) w.budget (room_left w.shared.fault (list_all has_ended w.shared.rows) (eqb (length w.history) w.budget) (is_enabled w.declarations w.shared t o) x.2.0) in
    let at : clock ≡ length w.history = x.2.1 in
    let seen : length v.seen ≤ clock = omega (arith, at, ap length finds.begins, Rattle.std.proofs.Common.length-append v.seen finds.more) in
    let here : t % v.lane_count ≡ t % n = ap (λ (m : ℕ). t % m) count in
    record {
      low = omega (arith, at, left, finds.within, finds.limit);
      rising = own_below v clock (t % n) seen lane;
      added = renamed v s'.view (t % n) same
          ∙ (taken (has v.lanes (t % n)) (entries_of_lane v.lane_count (t % n) s'.view.seen) lane
          ∙ (own (t % n) lane
          ∙ (ap (λ b. entries_of_lane v.lane_count (t % n) v.seen ++ (if b then placed clock (entry t o r) ∷ [] else [])) (eq-eqb (t % v.lane_count) (t % n) here)
          ∙ ap (λ z. z ++ placed clock (entry t o r) ∷ []) (sym (taken (has v.lanes (t % n)) (entries_of_lane v.lane_count (t % n) v.seen) lane)))));
      others = λ other not. renamed v s'.view other same
          ∙ chosen (has v.lanes other) (entries_of_lane v.lane_count other s'.view.seen) (entries_of_lane v.lane_count other v.seen)
          (λ mine. own other mine ∙ (ap (λ b. entries_of_lane v.lane_count other v.seen ++ (if b then placed clock (entry t o r) ∷ [] else [])) (ne_eqb (t % v.lane_count) other (λ is. not (sym is ∙ here))) ∙ append-nil (entries_of_lane v.lane_count other v.seen)));
    }

after : (n : ℕ) (s s' : SeatState) (t : ℕ) (o : Op) (a : Committing) → s.view.lane_count ≡ n → has s.view.lanes (t % n) ≡ true → Stays s.view s'.view → Tried s.view s'.view t o a → OwnAfter s.view s'.view t o a → EntriesAfter (t % n) t o (told_of s) (offer_of a) (told_of s')
after n s s' t o (answer.Committed clock r) count lane same x own = adds n s s' t o clock r count lane same x own
after n s s' t o answer.Busy count lane same x own = same_own s.view s'.view same own
after n s s' t o answer.Blocked count lane same x own = same_own s.view s'.view same own
after n s s' t o (answer.Over e) count lane same x own = same_own s.view s'.view same own
after n s s' t o answer.Spent count lane same x own = same_own s.view s'.view same own
after n s s' t o answer.NoMemory count lane same x own = same_own s.view s'.view same own

pub entries_after : (n : ℕ) (s s' s'' : SeatState) (t : ℕ) (o : Op) (a : Committing) (f : Offer) → s.view.lane_count ≡ n → has s.view.lanes (t % n) ≡ true → s'.view.lanes ≡ s.view.lanes → s'.view.lane_count ≡ n
    → Tried s.view s'.view t o a → OwnAfter s.view s'.view t o a → s''.view ≡ s'.view → f ≡ offer_of a → EntriesAfter (t % n) t o (told_of s) f (told_of s'')
entries_after n s s' s'' t o a f count lane lanes count' x own is offered =
    subst (λ (z : Offer). EntriesAfter (t % n) t o (told_of s) z (told_of s'')) (sym offered)
    (after n s s'' t o a count lane (record { lanes = ap (λ (u : RecordView). u.lanes) is ∙ lanes; count = ap (λ (u : RecordView). u.lane_count) is ∙ (count' ∙ sym count) })
    (subst (λ (u : RecordView). Tried s.view u t o a) (sym is) x) (subst (λ (u : RecordView). OwnAfter s.view u t o a) (sym is) own))

pub listed : (xs : List ℕ) (x : ℕ) → Contains xs x → has xs x ≡ true
listed xs x h = grind (arith, common_steps)

-- a clock that isn't below the number of the events seen
pub stands_below : (s : SeatState) (clock : ℕ) → length s.view.seen ≤ clock → StandsBelow clock (told_of s)
stands_below s clock seen lane there = own_below s.view clock lane seen (listed s.view.lanes lane there)
