use Rattle.std.proofs.Common.{◌≡◌, ℕ, List, ap, subst, ◌∙◌}
use Rattle.std.specs.Prelude.{MatchOption}
use Rattle.paused_run.specs.Partings.{AreAlike, PartAt}
use Rattle.paused_run.specs.Pauses.{PausedRun}
use Rattle.paused_run.proofs.paused.Paused.parting.Goals as goal

pub returns : goal.returns
returns c =
    let same : c.deref.result.now ≡ c.args.self.now.times = c.deref.ensures.value ∙ ap (λ (r : PausedRun). r.times) c.self.view_is in
    subst (λ (times : List ℕ). MatchOption c.parting.result (AreAlike times c.args.times.now) (λ time. PartAt time times c.args.times.now)) same c.parting.ensures
