-- The slots of a new lane, and its parts.
use Rattle.std.proofs.Common.{◌≡◌, ℕ, zero, suc, ◌+◌, ◌%◌, ◌<◌, ◌≤◌, List, [], ◌∷◌, ◌++◌, length, get_or, Option, Some, None, refl, arith, Bool, true, false, ap, sym, ◌∙◌, subst}
use Rattle.std.specs.Prelude.{Contains, ◌==◌}
use Rattle.projection_laws.proofs.Places.{equal, unequal}
use Rattle.std.proofs.lemmas.List.{length-append}
use Rattle.std.specs.List.{AllByRecursion}
use Rattle.vm_model.specs.Program.{PlainProgram}
use Rattle.schedule_log.specs.Foldings.{PlainFolding, IsMaximal}
use Rattle.schedule_log.specs.Intervals.{clocks}
use Rattle.projection_laws.specs.Projections.{GoesFrom}
use Rattle.gate_core.specs.Gates.{SameEntries}
use Rattle.lane_core.proofs.Following.{part_kept}
use Rattle.gate_core.specs.Seats.{Placed, SeatView, SeesMore, entries_of, first_seen, of_thread, positions_of}
use Rattle.lane_core.specs.Parts.{FollowsAt}
use Rattle.lane_core.specs.Slots.{AllFollow, RisesFrom, RoundOf, threads_in}
use Rattle.lane_core.specs.Lanes.{AllNew, Follows, IsNewAt, LanePart, LaneView, part_before, parts_of}
use Rattle.lane_core.specs.declared.part.Part.{Part}
use Rattle.lane_core.specs.declared.slot.Slot.{Slot}

-- all threads are below a number
abbrev pub AllBelow : ℕ → List ℕ → Type 0
AllBelow n threads = AllByRecursion (λ (t : ℕ). t < n) threads

-- ---- the parts

parts_cons : (x s : Slot) (part : Option Part) (rest more : List LanePart) → rest ≡ more ++ part_before s.thread s.part [] → part_before x.thread part rest ≡ part_before x.thread part more ++ part_before s.thread s.part []
parts_cons x s None rest more e = e
parts_cons x s (Some part) rest more e = ap (λ (ps : List LanePart). (x.thread, part.local, part.folding) ∷ ps) e

pub parts_push : (xs : List Slot) (s : Slot) → parts_of (xs ++ s ∷ []) ≡ parts_of xs ++ part_before s.thread s.part []
parts_push [] s = refl
parts_push (x ∷ xs) s = parts_cons x s x.part (parts_of (xs ++ s ∷ [])) (parts_of xs) (parts_push xs s)

-- ---- the slots of a new lane

pub all_push : (P : ℕ → Type 0) (xs : List ℕ) (x : ℕ) → AllByRecursion P xs → P x → AllByRecursion P (xs ++ x ∷ [])
all_push P [] x all last = (last, tt)
all_push P (y ∷ xs) x all last = (all.0, all_push P xs x all.1 last)

pub new_push : (p : PlainProgram) (xs : List Slot) (s : Slot) → AllNew p xs → IsNewAt p s.thread s.part → AllNew p (xs ++ s ∷ [])
new_push p [] s all last = (last, tt)
new_push p (x ∷ xs) s all last = (all.0, new_push p xs s all.1 last)

pub below_later : (n m : ℕ) (xs : List ℕ) → n ≤ m → AllBelow n xs → AllBelow m xs
below_later n m [] le all = tt
below_later n m (x ∷ xs) le all = (omega (arith, le, all.0), below_later n m xs le all.1)

pub rises_push : (low n : ℕ) (xs : List ℕ) → low ≤ n → AllBelow n xs → RisesFrom low xs → RisesFrom low (xs ++ n ∷ [])
rises_push low n [] le below rises = (le, tt)
rises_push low n (x ∷ xs) le below rises = (rises.0, rises_push (x + 1) n xs (omega (arith, below.0)) below.1 rises.1)

front : (xs : List ℕ) (x t k : ℕ) → k < length xs → get_or xs k t ≡ t → get_or (xs ++ x ∷ []) k t ≡ t
front [] x t k low e = absurd (omega (arith, low))
front (y ∷ xs) x t zero low e = e
front (y ∷ xs) x t (suc k) low e = front xs x t k (omega (arith, low)) e

last : (xs : List ℕ) (x : ℕ) → get_or (xs ++ x ∷ []) (length xs) x ≡ x
last [] x = refl
last (y ∷ xs) x = last xs x

contains_front : (xs : List ℕ) (x t : ℕ) → Contains xs t → Contains (xs ++ x ∷ []) t
contains_front xs x t has = (has.0, omega (arith, has.1, length-append xs (x ∷ [])), front xs x t has.0 has.1 has.2)

contains_last : (xs : List ℕ) (x : ℕ) → Contains (xs ++ x ∷ []) x
contains_last xs x = (length xs, omega (arith, length-append xs (x ∷ [])), last xs x)

pub whole_push : (lanes number k : ℕ) (xs : List ℕ) → ((t : ℕ) → t < k → t % lanes ≡ number → Contains xs t) → (t : ℕ) → t < k + 1 → t % lanes ≡ number → Contains (xs ++ k ∷ []) t
whole_push lanes number k xs whole t low of_lane = by_test (t == k) refl
  where
    by_test : (b : Bool) → (t == k) ≡ b → Contains (xs ++ k ∷ []) t
    by_test true same = subst (λ (n : ℕ). Contains (xs ++ k ∷ []) n) (sym (equal t k same)) (contains_last xs k)
    by_test false other = let apart = unequal t k other in contains_front xs k t (whole t (omega (arith, low, apart)) of_lane)

pub whole_skip : (lanes number k : ℕ) (xs : List ℕ) → (k % lanes ≡ number → ⊥) → ((t : ℕ) → t < k → t % lanes ≡ number → Contains xs t) → (t : ℕ) → t < k + 1 → t % lanes ≡ number → Contains xs t
whole_skip lanes number k xs skip whole t low of_lane = by_test (t == k) refl
  where
    by_test : (b : Bool) → (t == k) ≡ b → Contains xs t
    by_test true same = absurd (skip (subst (λ (n : ℕ). n % lanes ≡ number) (equal t k same) of_lane))
    by_test false other = let apart = unequal t k other in whole t (omega (arith, low, apart)) of_lane

-- ---- a new lane follows a seat with no entry of it

new_at : (p : PlainProgram) (seat : SeatView) (lane t : ℕ) (part : Option Part) → seat.own lane ≡ [] → IsNewAt p t part → FollowsAt p seat lane t part
new_at p seat lane t None none new = (new, ap (of_thread t) none)
new_at p seat lane t (Some part) none new = record {
  ready = new.1;
  goes =
      subst (λ (es : List Placed). GoesFrom p (first_seen p seat t) (entries_of (of_thread t es)) part.local.state) (sym none)
      (subst (λ (n : ℕ). GoesFrom p (first_seen p seat n) [] part.local.state) (sym new.0) (sym new.2));
  thread_is = ap (λ (f : PlainFolding). f.thread) new.3 ∙ sym new.0;
  maximal = subst IsMaximal (sym new.3) tt;
  noted = ap (λ (f : PlainFolding). clocks f.intervals) new.3 ∙ ap (λ (es : List Placed). positions_of (of_thread t es)) (sym none);
}

pub new_follow : (p : PlainProgram) (seat : SeatView) (lane : ℕ) (xs : List Slot) → seat.own lane ≡ [] → AllNew p xs → AllFollow p seat lane xs
new_follow p seat lane [] none new = tt
new_follow p seat lane (x ∷ xs) none new = (new_at p seat lane x.thread x.part none new.0, new_follow p seat lane xs none new.1)

-- ---- a round

pub follows_round : (p : PlainProgram) (old new : SeatView) (before after : LaneView) → after.number ≡ before.number → threads_in after.slots ≡ threads_in before.slots → RoundOf (threads_in before.slots) before.number old new → Follows p old before → AllFollow p new before.number after.slots
    → Follows p new after
follows_round p old new before after number threads round follows each = record {
  each = subst (λ (n : ℕ). AllFollow p new n after.slots) (sym number) each;
  only = λ t none.
      ap (λ (n : ℕ). of_thread t (new.own n)) number
      ∙ round.others t (λ has. none (subst (λ (ts : List ℕ). Contains ts t) (sym threads) has))
      ∙ follows.only t (λ has. none (subst (λ (ts : List ℕ). Contains ts t) (sym threads) has));
}

-- ---- a look at the gate that made no entry

kept_part : (p : PlainProgram) (old new : SeatView) (lane t : ℕ) (part : Option Part) → SeesMore old new → new.own lane ≡ old.own lane → FollowsAt p old lane t part → FollowsAt p new lane t part
kept_part p old new lane t None sees same follows = (follows.0, ap (of_thread t) same ∙ follows.1)
kept_part p old new lane t (Some part) sees same follows = part_kept p old new lane t part sees (ap (of_thread t) same) follows

kept_all : (p : PlainProgram) (old new : SeatView) (lane : ℕ) (xs : List Slot) → SeesMore old new → new.own lane ≡ old.own lane → AllFollow p old lane xs → AllFollow p new lane xs
kept_all p old new lane [] sees same all = tt
kept_all p old new lane (x ∷ xs) sees same all = (kept_part p old new lane x.thread x.part sees same all.0, kept_all p old new lane xs sees same all.1)

pub follows_at : (p : PlainProgram) (old new : SeatView) (lane : LaneView) → SeesMore old new → new.own lane.number ≡ old.own lane.number → Follows p old lane → Follows p new lane
follows_at p old new lane sees same follows = record {
  each = kept_all p old new lane.number lane.slots sees same follows.each;
  only = λ t none. ap (of_thread t) same ∙ follows.only t none;
}

pub follows_seen : (p : PlainProgram) (old new : SeatView) (lane : LaneView) → SeesMore old new → SameEntries old new → Follows p old lane → Follows p new lane
follows_seen p old new lane sees same follows = follows_at p old new lane sees (same lane.number) follows
