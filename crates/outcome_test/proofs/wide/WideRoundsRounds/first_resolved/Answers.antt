use Rattle.outcome_test.specs.WideView.{view_of}
use Rattle.outcome_test.proofs.Showing.{resolved_grows, none_grows}
use Rattle.outcome_test.proofs.wide.WideRoundsRounds.first_resolved.Goals as goal

pub returns-in-Resolved-clause-unresolved : goal.returns-in-Resolved-clause-unresolved
returns-in-Resolved-clause-unresolved g c = resolved_grows (view_of c.self.inside) c.args.self.now c.args.tests.now c.in_ok-found.found c.in-Resolved.at c.from.result c.in-Resolved.outcome c.self.view_is c.in-Resolved.is c.from.ensures c.in_ok-found.ensures

pub returns-in-NoneResolved-clause-unresolved : goal.returns-in-NoneResolved-clause-unresolved
returns-in-NoneResolved-clause-unresolved g c = none_grows (view_of c.self.inside) c.args.self.now c.args.tests.now c.in_ok-found.found c.self.view_is c.in-NoneResolved.is c.in_ok-found.ensures
