-- The rounds of a lane.
use Rattle.std.proofs.Common.{◌≡◌, ◌⊎◌, inl, inr, ℕ, ◌+◌, ◌<◌, ◌≤◌, arith, subst}
use Rattle.std.specs.Prelude.{Ok}
use Rattle.gate_core.specs.Seats.{SeatView}
use Rattle.lane_core.specs.Parts.{Paced}
use Rattle.lane_core.specs.declared.pace.Pace.{Pace}
use Rattle.lane_core.specs.declared.pace.Pace.TheVariants as pace

-- one more round in which nothing moved, or none
abbrev pub IdlesSo : Pace → ℕ → ℕ → Type 0
IdlesSo q idle new = (new ≡ 0) ⊎ ((q ≡ pace.Still) × (new ≡ idle + 1))

still_tries : (q : Pace) (old new : SeatView) → Paced (Ok q) old new → q ≡ pace.Still → old.tries < new.tries
still_tries q old new paced still = (subst (λ (x : Pace). Paced (Ok x) old new) still paced).1

pub idle_tries : (q : Pace) (idle idle' : ℕ) (start old mid new : SeatView) → IdlesSo q idle idle' → Paced (Ok q) old mid → start.tries + idle ≤ old.tries → old.tries ≤ mid.tries → mid.tries ≤ new.tries → start.tries + idle' ≤ new.tries
idle_tries q idle idle' start old mid new (inl none) paced so_far rises later = omega (arith, none, so_far, rises, later)
idle_tries q idle idle' start old mid new (inr more) paced so_far rises later = let risen = still_tries q old mid paced more.0 in omega (arith, more.1, so_far, risen, later)

pub idle_most : (q : Pace) (idle idle' : ℕ) → IdlesSo q idle idle' → idle < 65536 → idle' ≤ 65536
idle_most q idle idle' (inl none) few = omega (arith, none)
idle_most q idle idle' (inr more) few = omega (arith, more.1, few)
