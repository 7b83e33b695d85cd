-- Paused runs that tests go on from.
use Rattle.std.specs.Prelude.{◌≡◌, ◌⊎◌, ℕ, false, List, [], ◌∷◌, ◌++◌, All, drop}
use Rattle.vm_model.specs.Program.{PlainProgram}
use Rattle.paused_run.specs.Pauses.{IsPausedOf, PausedRun}

-- a run of the program under a budget, which can go on
pub record IsUnder (p : PlainProgram) (events : ℕ) (r : PausedRun) : Type 0 where
  pub own : IsPausedOf p r
  pub whole : r.machine.is_broken ≡ false
  pub budget : r.machine.world.budget ≡ events

abbrev pub AreUnder : PlainProgram → ℕ → List PausedRun → Type 0
AreUnder p events runs = All (IsUnder p events) runs

-- some of the first runs are no longer kept, and this one may be kept as the last
abbrev pub MayKeep : PausedRun → List PausedRun → List PausedRun → Type 0
MayKeep run before after = (n : ℕ) × ((after ≡ drop n before) ⊎ (after ≡ drop n before ++ run ∷ []))
