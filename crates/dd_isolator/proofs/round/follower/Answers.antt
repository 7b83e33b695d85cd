use Rattle.std.proofs.Common.{subst}
use Rattle.dd_isolator.specs.Answers.{Decides}
use Rattle.dd_isolator.proofs.Deciding.{follower_some, follower_none}
use Rattle.dd_isolator.proofs.round.follower.Goals as goal

pub returns-in_ok-after-in-Some-clause-next : goal.returns-in_ok-after-in-Some-clause-next
returns-in_ok-after-in-Some-clause-next g c =
    let decides = subst (Decides (g.R.Rounds.outcome c.args.rounds.now) c.args.state.now) c.in-Some.is c.in_ok-decision.ensures.decides in
    follower_some (g.R.Rounds.outcome c.args.rounds.now) c.args.state.now c.in_ok-after-in-Some.field-0 c.in-Some.decision decides c.in_ok-after-in-Some.ensures

pub returns-in_ok-refined-in-None-clause-next : goal.returns-in_ok-refined-in-None-clause-next
returns-in_ok-refined-in-None-clause-next g c =
    let decides = subst (Decides (g.R.Rounds.outcome c.args.rounds.now) c.args.state.now) c.in-None.is c.in_ok-decision.ensures.decides in
    follower_none (g.R.Rounds.outcome c.args.rounds.now) c.args.state.now c.in_ok-refined-in-None.field-0 decides c.in_ok-refined-in-None.ensures
