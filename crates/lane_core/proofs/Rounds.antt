-- One slot of a lane goes on, and the others stay.
use Rattle.std.proofs.Common.{◌≡◌, ◌≢◌, ℕ, zero, suc, ◌+◌, ◌%◌, ◌<◌, ◌≤◌, List, [], ◌∷◌, length, take, get_or, Option, Some, None, refl, arith, ap, sym, ◌∙◌, subst}
use Rattle.std.specs.Prelude.{slice_get, slice_set, Contains, Result, Ok, Err}
use Rattle.std.proofs.lemmas.Option.{slice_get-get_or}
use Rattle.vm_model.specs.Program.{PlainProgram}
use Rattle.projection_laws.proofs.Places.{some_same}
use Rattle.gate_core.specs.Seats.{SeatView}
use Rattle.lane_core.specs.Parts.{AsksNothing, FollowsAt, IsOnlyOf, Paced, WithMemory}
use Rattle.lane_core.specs.Slots.{AllFollow, AllQuiet, AreOfLane, RisesFrom, RoundOf, SoFar, joined, thread_in, threads_in}
use Rattle.lane_core.specs.declared.part.Part.{Part}
use Rattle.lane_core.specs.declared.slot.Slot.{Slot}
use Rattle.lane_core.specs.declared.pace.Pace.{Pace}
use Rattle.lane_core.specs.declared.pace.Pace.TheVariants as pace
use Rattle.lane_core.specs.declared.pace.LaneEnd.{LaneEnd}
use Rattle.lane_core.specs.declared.pace.LaneEnd.TheVariants as ends
use Rattle.lane_core.proofs.Following.{part_kept}

-- ---- one slot among the slots

pub read_at : (xs : List Slot) (i : ℕ) (s : Slot) → i < length xs → s ≡ get_or xs i s → slice_get xs i ≡ Some s
read_at xs i s within e = slice_get-get_or xs i s within ∙ ap Some (sym e)

pub threads_set : (xs : List Slot) (i : ℕ) (s new : Slot) → slice_get xs i ≡ Some s → new.thread ≡ s.thread → threads_in (slice_set xs i new) ≡ threads_in xs
threads_set [] i s new at same = refl
threads_set (x ∷ xs) zero s new at same = ap (λ (n : ℕ). n ∷ threads_in xs) (same ∙ sym (ap thread_in (some_same x s at)))
threads_set (x ∷ xs) (suc i) s new at same = ap (λ (ns : List ℕ). x.thread ∷ ns) (threads_set xs i s new at same)

pub of_lane_at : (lanes lane : ℕ) (xs : List Slot) (i : ℕ) (s : Slot) → slice_get xs i ≡ Some s → AreOfLane lanes lane (threads_in xs) → s.thread % lanes ≡ lane
of_lane_at lanes lane [] i s at all = absurd (cc)
of_lane_at lanes lane (x ∷ xs) zero s at all = subst (λ (n : ℕ). n % lanes ≡ lane) (ap thread_in (some_same x s at)) all.0
of_lane_at lanes lane (x ∷ xs) (suc i) s at all = of_lane_at lanes lane xs i s at all.1

pub follows_at : (p : PlainProgram) (seat : SeatView) (lane : ℕ) (xs : List Slot) (i : ℕ) (s : Slot) → slice_get xs i ≡ Some s → AllFollow p seat lane xs → FollowsAt p seat lane s.thread s.part
follows_at p seat lane [] i s at all = absurd (cc)
follows_at p seat lane (x ∷ xs) zero s at all = subst (λ (y : Slot). FollowsAt p seat lane y.thread y.part) (some_same x s at) all.0
follows_at p seat lane (x ∷ xs) (suc i) s at all = follows_at p seat lane xs i s at all.1

above : (low : ℕ) (xs : List Slot) (i : ℕ) (s : Slot) → slice_get xs i ≡ Some s → RisesFrom low (threads_in xs) → low ≤ s.thread
above low [] i s at rises = absurd (cc)
above low (x ∷ xs) zero s at rises = subst (λ (n : ℕ). low ≤ n) (ap thread_in (some_same x s at)) rises.0
above low (x ∷ xs) (suc i) s at rises = let further = above (x.thread + 1) xs i s at rises.1 in omega (arith, further, rises.0)

kept_at : (p : PlainProgram) (old new : SeatView) (lane t u : ℕ) (part : Option Part) → IsOnlyOf t lane old new → u ≢ t → FollowsAt p old lane u part → FollowsAt p new lane u part
kept_at p old new lane t u None only apart follows = (follows.0, only.others u apart ∙ follows.1)
kept_at p old new lane t u (Some part) only apart follows = part_kept p old new lane u part only.sees (only.others u apart) follows

-- slots of higher threads
kept_above : (p : PlainProgram) (old new : SeatView) (lane t low : ℕ) (xs : List Slot) → IsOnlyOf t lane old new → t < low → RisesFrom low (threads_in xs) → AllFollow p old lane xs → AllFollow p new lane xs
kept_above p old new lane t low [] only high rises all = tt
kept_above p old new lane t low (x ∷ xs) only high rises all =
    (kept_at p old new lane t x.thread x.part only (λ e. omega (arith, e, high, rises.0)) all.0, kept_above p old new lane t (x.thread + 1) xs only (omega (arith, high, rises.0)) rises.1 all.1)

pub follow_set : (p : PlainProgram) (old new : SeatView) (lane low : ℕ) (xs : List Slot) (i : ℕ) (s s' : Slot) → slice_get xs i ≡ Some s → RisesFrom low (threads_in xs) → IsOnlyOf s.thread lane old new → AllFollow p old lane xs → FollowsAt p new lane s'.thread s'.part
    → AllFollow p new lane (slice_set xs i s')
follow_set p old new lane low [] i s s' at rises only all follows = tt
follow_set p old new lane low (x ∷ xs) zero s s' at rises only all follows =
    let is : x.thread ≡ s.thread = ap thread_in (some_same x s at) in
    (follows, kept_above p old new lane s.thread (x.thread + 1) xs only (omega (arith, is)) rises.1 all.1)
follow_set p old new lane low (x ∷ xs) (suc i) s s' at rises only all follows =
    let high : x.thread + 1 ≤ s.thread = above (x.thread + 1) xs i s at rises.1 in
    (kept_at p old new lane s.thread x.thread x.part only (λ e. omega (arith, e, high)) all.0, follow_set p old new lane (x.thread + 1) xs i s s' at rises.1 only all.1 follows)

pub contains_thread : (xs : List Slot) (i : ℕ) (s : Slot) → slice_get xs i ≡ Some s → Contains (threads_in xs) s.thread
contains_thread [] i s at = absurd (cc)
contains_thread (x ∷ xs) zero s at = (zero, omega arith, ap thread_in (some_same x s at))
contains_thread (x ∷ xs) (suc i) s at = let further = contains_thread xs i s at in (suc further.0, omega (arith, further.1), further.2)

-- ---- the round

pub round_then : (threads : List ℕ) (lane t : ℕ) (old mid new : SeatView) → Contains threads t → RoundOf threads lane old mid → IsOnlyOf t lane mid new → RoundOf threads lane old new
round_then threads lane t old mid new has round only = record {
  lanes = only.lanes ∙ round.lanes;
  sees = λ u target e. only.sees u target (round.sees u target e);
  others = λ u none. only.others u (λ e. none (subst (Contains threads) (sym e) has)) ∙ round.others u none;
  other_lanes = λ other apart. only.other_lanes other apart ∙ round.other_lanes other apart;
  tries = omega (arith, only.tries, round.tries);
}

pub told_off_same : (next : Pace) (mid new : SeatView) → Paced (Ok next) mid new → new.is_told_off ≡ mid.is_told_off
told_off_same pace.Ended mid new paced = paced
told_off_same pace.Still mid new paced = paced.0
told_off_same pace.Moved mid new paced = paced

quiet_more : (xs : List Slot) (i : ℕ) (s new : Slot) → slice_get xs i ≡ Some s → AllQuiet (take i xs) → AsksNothing new.part → AllQuiet (take (suc i) (slice_set xs i new))
quiet_more [] i s new at all quiet = absurd (cc)
quiet_more (x ∷ xs) zero s new at all quiet = (quiet, tt)
quiet_more (x ∷ xs) (suc i) s new at all quiet = (all.0, quiet_more xs i s new at all.1 quiet)

pub so_far_more : (one next : Pace) (xs : List Slot) (i : ℕ) (s s' : Slot) (old mid new : SeatView) → slice_get xs i ≡ Some s → old.tries ≤ mid.tries → mid.tries ≤ new.tries → (next ≡ pace.Ended → AsksNothing s'.part) → Paced (Ok next) mid new
    → SoFar one (take i xs) old mid → SoFar (joined one next) (take (i + 1) (slice_set xs i s')) old new
so_far_more pace.Ended pace.Ended xs i s s' old mid new at low high quiet paced so_far =
    let is : suc i ≡ i + 1 = omega arith in
    subst (λ (n : ℕ). AllQuiet (take n (slice_set xs i s'))) is (quiet_more xs i s s' at so_far (quiet refl))
so_far_more pace.Ended pace.Still xs i s s' old mid new at low high quiet paced so_far = let later = paced.1 in omega (arith, low, later)
so_far_more pace.Ended pace.Moved xs i s s' old mid new at low high quiet paced so_far = tt
so_far_more pace.Still pace.Ended xs i s s' old mid new at low high quiet paced so_far = omega (arith, so_far, high)
so_far_more pace.Still pace.Still xs i s s' old mid new at low high quiet paced so_far = omega (arith, so_far, high)
so_far_more pace.Still pace.Moved xs i s s' old mid new at low high quiet paced so_far = tt
so_far_more pace.Moved next xs i s s' old mid new at low high quiet paced so_far = tt

pub with_memory : {A : Type 0} (r : Result A LaneEnd) (F K : Type 0) → (F → K) → WithMemory r F → WithMemory r K
with_memory (Ok x) F K go f = go f
with_memory (Err ends.Left) F K go f = go f
with_memory (Err ends.NoMemory) F K go f = tt
