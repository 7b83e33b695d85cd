-- A difference that no single unit shift narrows (1-minimal: Zeller and Hildebrandt 2002; shifts of thread switches: Choi and
-- Zeller 2002).
use Rattle.std.specs.Prelude.{◌≡◌, ◌≢◌, ℕ, List}
use Rattle.schedule_model.specs.declared.outcome.Outcome.{Outcome}
use Rattle.schedule_model.specs.declared.outcome.Outcome.TheVariants.{Pass, Fail}
use Rattle.dd_isolator.specs.Shifts.{IsBetween, IsUnitShift}

-- c and d stand between the given ones, one passes and one fails; no unit shift of c toward d passes, and none of d toward
-- c fails
pub record IsOneMinimal (outcome : List ℕ → Outcome) (passing failing c d : List ℕ) : Type 0 where
  pub between : IsBetween passing c d failing
  pub passes : outcome c ≡ Pass
  pub fails : outcome d ≡ Fail
  pub none_passes : (i : ℕ) (shifted : List ℕ) → IsUnitShift i c d shifted → outcome shifted ≢ Pass
  pub none_fails : (i : ℕ) (shifted : List ℕ) → IsUnitShift i d c shifted → outcome shifted ≢ Fail
