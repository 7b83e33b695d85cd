use Rattle.std.proofs.Common.{◌≡◌, ℕ, List, sym, subst, ◌∙◌}
use Rattle.std.specs.Prelude.{IfSome}
use Rattle.std.specs.List.{HoldsAt}
use Rattle.schedule_model.specs.Schedules.{Agree}
use Rattle.paused_run.specs.Pauses.{clock_of, PausedRun}
use Rattle.outcome_test.specs.Resumed.{AreUnder}
use Rattle.outcome_test.proofs.Resumed.{kept_under}
use Rattle.outcome_test.proofs.resuming.Resumed.end_of.Goals as goal

pub begun-requires-clause-agrees : goal.begun-requires-clause-agrees
begun-requires-clause-agrees c =
    let Agrees : List ℕ → PausedRun → Type 0 = λ times r. Agree (clock_of r) r.times times in
    let runs : c.deref.result.now ≡ c.deref-5.result.now = c.deref.ensures.value ∙ sym c.deref-5.ensures.value in
    let found = c.latest-from.ensures.agrees in
    subst (λ (rs : List PausedRun). IfSome c.latest-from.result (HoldsAt (Agrees c.args.times.items) rs)) runs
    (subst (λ (times : List ℕ). IfSome c.latest-from.result (HoldsAt (Agrees times) c.deref.result.now)) c.deref-2.ensures.value found)
