-- What the gate tells to lanes follows from what its calls ensure.
use Rattle.std.proofs.Common.{◌≡◌, ◌≢◌, ◌==◌, true≢false, eqb-true, ℕ, zero, suc, ◌+◌, ◌%◌, ◌<◌, ◌≤◌, Bool, true, false, cond, List, [], ◌∷◌, ◌++◌, length, refl, sym, ap, ◌∙◌, subst, ⊎_elim, arith, Option, Some, None, Contains, eq-eqb, ne_eqb, append-nil}
use Rattle.std.specs.List.{All, AllByRecursion}
use Rattle.std.proofs.lemmas.List.{length-append}
use Rattle.std.proofs.lemmas.List.Elements.{All-from_recursion}
use mathlib.Core.List.{IsPrefix}
use Rattle.vm_model.specs.declared.value.ObjRef.{ObjRef}
use Rattle.vm_model.specs.declared.op.Entry.{Entry}
use Rattle.vm_model.specs.declared.op.Op.{Op}
use Rattle.machine_model.specs.Operations.{entry}
use Rattle.projection_laws.specs.Projections.{target_by, target_or, target_in}
use Rattle.gate_core.specs.Seats.{Placed, placed}
use Rattle.gate_core.specs.Histories.{numbered, of_lane, entries_of_lane}
use Rattle.gate_core.specs.Gates.{EntriesAfter, SameEntries, StandsBelow}
use Rattle.schedule_log.proofs.Tiling.{contains_first, contains_more}
use Rattle.schedule_log.specs.Intervals.{numbers}
use Rattle.replay_gate.specs.declared.turning.Turning.{Turning}
use Rattle.replay_gate.specs.declared.turning.Turning.TheVariants as turning
use Rattle.replay_gate.specs.declared.view.ReplayView.{ReplayView}
use Rattle.replay_gate.specs.Lanes.{has, without, is_of, lane_of}
use Rattle.replay_gate.specs.Gates.{SeatState}
use Rattle.replay_gate.specs.Answers.{Turned, SameLanes, IsWithinLimit, added}
use Rattle.replay_gate.specs.Offers.{offer_of, own_of, told_of}
use Rattle.replay_gate.proofs.Lists.{has_contained, on_bool, or_left, or_parts, or_right}

-- ---- lanes

pub contained_so : (xs : List ℕ) (lane : ℕ) → has xs lane ≡ true → Contains xs lane
contained_so [] lane h = absurd (true≢false (sym h))
contained_so (x ∷ xs) lane h =
    ⊎_elim (λ is. subst (Contains (x ∷ xs)) (eqb-true x lane is) (contains_first x xs)) (λ more. contains_more x lane xs (contained_so xs lane more)) (or_parts (x == lane) (has xs lane) h)

pub numbers_so : (start count lane : ℕ) → start ≤ lane → lane < start + count → Contains (numbers start count) lane
numbers_so start zero lane low high = absurd (omega arith)
numbers_so start (suc count) lane low high = on_bool (start == lane)
    (λ here. subst (Contains (start ∷ numbers (start + 1) count)) (eqb-true start lane here) (contains_first start (numbers (start + 1) count)))
    (λ other. contains_more start lane (numbers (start + 1) count) (numbers_so (start + 1) count lane (above (λ is. true≢false (sym (eq-eqb start lane is) ∙ other))) (omega arith)))
  where
    above : start ≢ lane → start + 1 ≤ lane
    above ne = omega arith

-- the other lanes stay
pub stays_spare : (lane : ℕ) (xs : List ℕ) (other : ℕ) → other ≢ lane → Contains xs other → Contains (without lane xs) other
stays_spare lane xs other ne c = contained_so (without lane xs) other (stays xs (has_contained xs other c))
  where
    stays : (ls : List ℕ) → has ls other ≡ true → has (without lane ls) other ≡ true
    stays [] h = h
    stays (x ∷ ls) h = on_bool (x == lane)
        (λ here. subst (λ (b : Bool). has (cond b (without lane ls) (x ∷ without lane ls)) other ≡ true) (sym here)
        (⊎_elim (λ is. absurd (ne (sym (eqb-true x other is) ∙ eqb-true x lane here))) (λ more. stays ls more) (or_parts (x == other) (has ls other) h)))
        (λ away. subst (λ (b : Bool). has (cond b (without lane ls) (x ∷ without lane ls)) other ≡ true) (sym away)
        (⊎_elim (λ is. or_left (x == other) (has (without lane ls) other) is) (λ more. or_right (x == other) (has (without lane ls) other) (stays ls more)) (or_parts (x == other) (has ls other) h)))

-- ---- own entries

pub own_at : (v : ReplayView) (n lane : ℕ) → v.lane_count ≡ n → has v.lanes lane ≡ true → own_of v lane ≡ entries_of_lane n lane v.seen
own_at v n lane e h = λ i. cond (h i) (entries_of_lane (e i) lane v.seen) []

-- where two seats have the lane, and the same entries of it
pub own_alike : (v w : ReplayView) (n lane : ℕ) → v.lane_count ≡ n → w.lane_count ≡ n → has v.lanes lane ≡ true → has w.lanes lane ≡ true
    → entries_of_lane n lane w.seen ≡ entries_of_lane n lane v.seen → own_of w lane ≡ own_of v lane
own_alike v w n lane e f h k same = own_at w n lane f k ∙ same ∙ sym (own_at v n lane e h)

own_none : (v : ReplayView) (lane : ℕ) → has v.lanes lane ≡ false → own_of v lane ≡ []
own_none v lane h = λ i. cond (h i) (entries_of_lane v.lane_count lane v.seen) []

-- where the entries of the seat's lanes stay, so do its own
pub own_same : (v w : ReplayView) (n lane : ℕ) → v.lane_count ≡ n → w.lane_count ≡ n → SameLanes v w → (has v.lanes lane ≡ true → entries_of_lane n lane w.seen ≡ entries_of_lane n lane v.seen) → own_of w lane ≡ own_of v lane
own_same v w n lane e f same h = on_bool (has v.lanes lane)
    (λ yours. own_at w n lane f (ap (λ ls. has ls lane) same.0 ∙ yours) ∙ h yours ∙ sym (own_at v n lane e yours))
    (λ not. own_none w lane (ap (λ ls. has ls lane) same.0 ∙ not) ∙ sym (own_none v lane not))

below : (n lane clock bound : ℕ) (es : List Entry) → clock + length es ≤ bound → AllByRecursion (λ (p : Placed). p.position < bound) (of_lane n lane (numbered clock es))
below n lane clock bound [] l = tt
below n lane clock bound (e ∷ es) l = front (is_of n lane e) (below n lane (clock + 1) bound es (omega arith))
  where
    front : (b : Bool) → AllByRecursion (λ (p : Placed). p.position < bound) (of_lane n lane (numbered (clock + 1) es))
        → AllByRecursion (λ (p : Placed). p.position < bound) (cond b (placed clock e ∷ of_lane n lane (numbered (clock + 1) es)) (of_lane n lane (numbered (clock + 1) es)))
    front true rest = (omega arith, rest)
    front false rest = rest

own_below : (v : ReplayView) (n lane clock : ℕ) → v.lane_count ≡ n → has v.lanes lane ≡ true → length v.seen ≤ clock → All (λ (p : Placed). p.position < clock) (own_of v lane)
own_below v n lane clock count mine seen = All-from_recursion _ _ (subst (AllByRecursion (λ (p : Placed). p.position < clock)) (sym (own_at v n lane count mine)) (below n lane 0 clock v.seen (omega (arith, seen))))

-- a clock that isn't below the number of the events seen
pub stands_below : (s : SeatState) (clock : ℕ) → length s.view.seen ≤ clock → StandsBelow clock (told_of s)
stands_below s clock seen lane there = own_below s.view s.view.lane_count lane clock refl (has_contained s.view.lanes lane there) seen

-- the entries after an answer
module _ (s t : SeatState) (n thread : ℕ) (o : Op) (e : s.view.lane_count ≡ n) (f : t.view.lane_count ≡ n) (same : SameLanes s.view t.view) where
  quiet : (answer : Turning) → ((lane : ℕ) → has s.view.lanes lane ≡ true → entries_of_lane n lane t.view.seen ≡ entries_of_lane n lane s.view.seen ++ added n lane thread o answer)
      → ((lane : ℕ) → added n lane thread o answer ≡ []) → SameEntries (told_of s) (told_of t)
  quiet answer own none = λ lane. own_same s.view t.view n lane e f same (λ h. own lane h ∙ ap (λ es. entries_of_lane n lane s.view.seen ++ es) (none lane) ∙ append-nil (entries_of_lane n lane s.view.seen))

  pub entries_so : (answer : Turning) → Turned s.view t.view thread o answer → IsWithinLimit answer → has s.view.lanes (lane_of n thread) ≡ true
      → ((lane : ℕ) → has s.view.lanes lane ≡ true → entries_of_lane n lane t.view.seen ≡ entries_of_lane n lane s.view.seen ++ added n lane thread o answer)
      → EntriesAfter (thread % n) thread o (told_of s) (offer_of answer) (told_of t)
  entries_so (turning.Committed clock reply) turned limit has_lane own =
      let lane : ℕ = thread % n in
      let found = turned.had.found in
      let long : length turned.history ≡ length s.view.seen + length found.unseen = ap length found.seen ∙ length-append s.view.seen found.unseen in
      let count = found.count in
      let here = own_at s.view n lane e has_lane in
      let event : List Placed = placed clock (entry thread o reply) ∷ [] in
      record {
        low = limit;
        rising = own_below s.view n lane clock e has_lane (omega arith);
        added =
            own_at t.view n lane f (ap (λ ls. has ls lane) same.0 ∙ has_lane)
            ∙ own lane has_lane ∙ ap (λ (b : Bool). entries_of_lane n lane s.view.seen ++ cond b event []) (eq-eqb lane lane refl)
            ∙ ap (λ es. es ++ placed clock (entry thread o reply) ∷ []) (sym here);
        others = λ other ne. own_same s.view t.view n other e f same
            (λ h. own other h ∙ ap (λ (b : Bool). entries_of_lane n other s.view.seen ++ cond b event []) (ne_eqb lane other (λ is. ne (sym is))) ∙ append-nil (entries_of_lane n other s.view.seen));
      }
  entries_so (turning.NotYet clock) turned limit has_lane own = quiet (turning.NotYet clock) own (λ lane. refl)
  entries_so (turning.Differs clock) turned limit has_lane own = quiet (turning.Differs clock) own (λ lane. refl)
  entries_so turning.NoMemory turned limit has_lane own = quiet turning.NoMemory own (λ lane. refl)

-- ---- started threads

or_or : (x y z : Option ObjRef) → target_or (target_or x y) z ≡ target_or x (target_or y z)
or_or None y z = refl
or_or (Some target) y z = refl

target_in-append : (xs ys : List Entry) (u : ℕ) → target_in (xs ++ ys) u ≡ target_or (target_in xs u) (target_in ys u)
target_in-append [] ys u = refl
target_in-append (x ∷ xs) ys u = ap (target_or (target_by x.op x.reply u)) (target_in-append xs ys u) ∙ sym (or_or (target_by x.op x.reply u) (target_in xs u) (target_in ys u))

pub sees_so : (xs ys : List Entry) → IsPrefix xs ys → (u : ℕ) (target : ObjRef) → target_in xs u ≡ Some target → target_in ys u ≡ Some target
sees_so xs ys p u target e = ap (λ es. target_in es u) (sym p.1) ∙ target_in-append xs p.0 u ∙ ap (λ x. target_or x (target_in p.0 u)) e
