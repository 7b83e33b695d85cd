-- What is told of the seats that are split and joined, and of the world at the end.
use Rattle.std.proofs.Common.{◌≡◌, ◌≢◌, ℕ, ◌-◌, ◌≤◌, get_or, arith, ◌<◌, ◌||◌, eqb, Bool, true, false, if◌then◌else◌, List, [], ◌∷◌, Some, sym, ap, ◌∙◌, subst, refl, eqb-true, ⊎_elim}
use Rattle.std.specs.List.{Contains, range_with_len}
use Rattle.std.proofs.lemmas.List.FromFn.{get_or-range_with_len, length-range_with_len}
use Rattle.std.proofs.lemmas.Map.Views.{Contains-from_any}
use mathlib.Core.List.{IsPrefix}
use Rattle.vm_model.specs.declared.value.ObjRef.{ObjRef}
use Rattle.vm_model.specs.declared.op.Entry.{Entry}
use Rattle.projection_laws.specs.Projections.{target_in}
use Rattle.gate_core.specs.Histories.{entries_of_lane}
use Rattle.record_gate.specs.declared.rule.RecordView.{RecordView}
use Rattle.record_gate.specs.declared.rule.Setup.{Setup}
use Rattle.record_gate.specs.Lanes.{has, without}
use Rattle.record_gate.specs.Calls.{HasAll, KeepsOwn}
use Rattle.record_gate.specs.Offers.{own_of}
use Rattle.record_gate.specs.Views.{both, choosing, first_view, giver, merged}
use Rattle.record_gate.proofs.Lists.{either_way, has_behind, has_front, or_true}
use Rattle.record_gate.proofs.Told.{kept_in, listed, taken}

-- ---- lanes

unlisted : (xs : List ℕ) (x : ℕ) → has xs x ≡ true → Contains xs x
unlisted xs x is = Contains-from_any {eq = λ a b. eqb b a} (λ a b e. sym (eqb-true b a e)) x xs is

has_other : (l m k : ℕ) (ks : List ℕ) → m ≢ l → has (k ∷ ks) m ≡ true → (has ks m ≡ true → has (without l ks) m ≡ true) → has (if eqb k l then without l ks else k ∷ without l ks) m ≡ true
has_other l m k ks other is go = by_same (eqb k l) refl
  where
    by_same : (b : Bool) → eqb k l ≡ b → has (if b then without l ks else k ∷ without l ks) m ≡ true
    by_same true e = ⊎_elim (λ here. absurd (other (sym (eqb-true k m here) ∙ eqb-true k l e))) go (or_true (eqb k m) (has ks m) is)
    by_same false e = ⊎_elim (λ here. rw here refl) (λ h. either_way (eqb k m) (has (without l ks) m) (go h)) (or_true (eqb k m) (has ks m) is)

has_still : (l : ℕ) (ks : List ℕ) (m : ℕ) → m ≢ l → has ks m ≡ true → has (without l ks) m ≡ true
has_still l [] m other is = is
has_still l (k ∷ ks) m other is = has_other l m k ks other is (has_still l ks m other)

-- ---- the first seat

pub all_others : (k : Setup) (v : RecordView) (lane : ℕ) → v ≡ first_view k → 1 ≤ lane → lane < k.lanes → Contains v.spare lane
all_others k v lane is from low =
    let place : lane - 1 < k.lanes - 1 = omega arith in
    let there : get_or (range_with_len 1 (k.lanes - 1)) (lane - 1) lane ≡ lane = get_or-range_with_len 1 (k.lanes - 1) (lane - 1) lane place ∙ omega arith in
    subst (λ (u : RecordView). Contains u.spare lane) (sym is) (lane - 1, omega (arith, place, length-range_with_len 1 (k.lanes - 1)), there)

-- ---- split

pub still_gives : (v u : RecordView) (lane other : ℕ) → u ≡ giver (choosing v lane) → other ≢ lane → Contains v.spare other → Contains u.spare other
still_gives v u lane other is not may = unlisted u.spare other (ap (λ (x : RecordView). has x.spare other) is ∙ has_still lane v.spare other not (listed v.spare other may))

-- ---- join

-- a lane of both
kept_own : (v m : RecordView) (lane : ℕ) → m.lane_count ≡ v.lane_count → has m.lanes lane ≡ true → has v.lanes lane ≡ true → KeepsOwn v m.seen → own_of m lane ≡ own_of v lane
kept_own v m lane count found mine kept =
    taken (has m.lanes lane) (entries_of_lane m.lane_count lane m.seen) found
    ∙ (ap (λ (n : ℕ). entries_of_lane n lane m.seen) count
    ∙ (kept lane mine ∙ sym (taken (has v.lanes lane) (entries_of_lane v.lane_count lane v.seen) mine)))

pub joined_into : (v w m : RecordView) (lane : ℕ) → m ≡ merged (both v w) → Contains v.lanes lane → KeepsOwn v m.seen → own_of m lane ≡ own_of v lane
joined_into v w m lane is there kept =
    let mine : has v.lanes lane ≡ true = listed v.lanes lane there in
    kept_own v m lane (ap (λ (x : RecordView). x.lane_count) is) (ap (λ (x : RecordView). has x.lanes lane) is ∙ has_front lane v.lanes w.lanes mine) mine kept

pub joined_ended : (v w m : RecordView) (lane : ℕ) → w.lane_count ≡ v.lane_count → m ≡ merged (both v w) → Contains w.lanes lane → KeepsOwn w m.seen → own_of m lane ≡ own_of w lane
joined_ended v w m lane count is there kept =
    let mine : has w.lanes lane ≡ true = listed w.lanes lane there in
    kept_own w m lane (ap (λ (x : RecordView). x.lane_count) is ∙ sym count) (ap (λ (x : RecordView). has x.lanes lane) is ∙ has_behind lane v.lanes w.lanes mine) mine kept

-- ---- the end

pub all_had : (n : ℕ) (v : RecordView) → v.lane_count ≡ n → ((lane : ℕ) → lane < n → Contains v.lanes lane) → HasAll v
all_had n v count all lane low = subst (λ b. (b || has v.spare lane) ≡ true) (sym (listed v.lanes lane (all lane (subst (λ (x : ℕ). lane < x) count low)))) refl

pub closed_own : (n : ℕ) (v : RecordView) (history : List Entry) (lane : ℕ) → v.lane_count ≡ n → Contains v.lanes lane → KeepsOwn v history → entries_of_lane n lane history ≡ own_of v lane
closed_own n v history lane count there kept =
    let mine : has v.lanes lane ≡ true = listed v.lanes lane there in
    ap (λ (x : ℕ). entries_of_lane x lane history) (sym count) ∙ (kept lane mine ∙ sym (taken (has v.lanes lane) (entries_of_lane v.lane_count lane v.seen) mine))

pub closed_target : (seen history : List Entry) (t : ℕ) (target : ObjRef) → IsPrefix seen history → target_in seen t ≡ Some target → target_in history t ≡ Some target
closed_target seen history t target p found = subst (λ (h : List Entry). target_in h t ≡ Some target) p.1 (kept_in seen p.0 t target found)
