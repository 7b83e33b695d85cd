-- A failing schedule of which no single switch can be left out (1-minimal: Zeller and Hildebrandt 2002).
use Rattle.std.specs.Prelude.{◌≡◌, ◌≢◌, ◌≤◌, ◌<◌, ℕ, List, length}
use Rattle.std.specs.List.{remove}
use Rattle.schedule_model.specs.declared.outcome.Outcome.{Outcome}
use Rattle.schedule_model.specs.declared.outcome.Outcome.TheVariants.{Fail}
use Rattle.schedule_model.specs.Schedules.{occurrences}

-- c has no time more often than the given schedule, fails alike, and without any one of its times doesn't
pub record IsReduced (outcome : List ℕ → Outcome) (given c : List ℕ) : Type 0 where
  pub no_more : (time : ℕ) → occurrences c time ≤ occurrences given time
  pub fails : outcome c ≡ Fail
  pub minimal : (i : ℕ) → i < length c → outcome (remove c i) ≢ Fail
