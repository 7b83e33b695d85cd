use Rattle.std.proofs.Common.{sym, ◌∙◌}
use Rattle.outcome_test.proofs.Showing.{outcome_is}
use Rattle.outcome_test.proofs.judging.outcome_of.Goals as goal

pub returns : goal.returns
returns c = outcome_is c.args.plain.now c.args.schedule.now c.args.events c.args.fault.now c.in_ok-ran.ran.intervals.items c.in_ok-ran.ran.clock c.in_ok-ran.ran.output.items c.in_ok-ran.ran.end c.in_ok-ran.ensures.run ∙ sym c.outcome.ensures
