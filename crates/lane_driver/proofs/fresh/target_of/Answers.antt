use Rattle.std.proofs.Common.{◌∙◌}
use Rattle.projection_laws.proofs.Targets.{legal_target}
use Rattle.lane_driver.proofs.Started.{started_some}
use Rattle.lane_driver.proofs.fresh.target_of.Goals as goal

pub returns-clause-value : goal.returns-clause-value
returns-clause-value c = let w = c.args.world.now in c.target.ensures ∙ legal_target w.declarations w.history w.shared c.history-history.ensures.legal c.args.thread

pub returns-clause-some : goal.returns-clause-some
returns-clause-some c = λ other low.
    let w = c.args.world.now in
    started_some w.declarations w.history w.shared c.args.thread c.target.result c.history-history.ensures.legal (c.target.ensures ∙ legal_target w.declarations w.history w.shared c.history-history.ensures.legal c.args.thread) other low
