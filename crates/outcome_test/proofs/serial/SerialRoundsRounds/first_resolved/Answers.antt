use Rattle.outcome_test.specs.SerialView.{view_of}
use Rattle.outcome_test.proofs.Showing.{resolved_grows, none_grows}
use Rattle.outcome_test.proofs.serial.SerialRoundsRounds.first_resolved.Goals as goal

pub returns-in-Resolved-clause-unresolved : goal.returns-in-Resolved-clause-unresolved
returns-in-Resolved-clause-unresolved c = resolved_grows (view_of c.self.inside) c.args.self.now c.args.tests.now c.in_ok-found.found c.in-Resolved.at c.from.result c.in-Resolved.outcome c.self.view_is c.in-Resolved.is c.from.ensures c.in_ok-found.ensures.first

pub returns-in-NoneResolved-clause-unresolved : goal.returns-in-NoneResolved-clause-unresolved
returns-in-NoneResolved-clause-unresolved c = none_grows (view_of c.self.inside) c.args.self.now c.args.tests.now c.in_ok-found.found c.self.view_is c.in-NoneResolved.is c.in_ok-found.ensures.first
