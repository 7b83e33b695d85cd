use Rattle.schedule_model.specs.Outcomes.{outcome_of}
use Rattle.outcome_test.proofs.Shown.{shown_holds}
use Rattle.outcome_test.proofs.side.shown_at.Goals as goal

pub returns : goal.returns
returns c = shown_holds (outcome_of c.args.plain.now c.args.events c.args.fault.now) c.args.tests.now c.args.shown.now c.args.i c.requires.each c.requires.within _
