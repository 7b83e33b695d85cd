use Rattle.outcome_test.proofs.resuming.goes_on.Goals as goal

pub returns : goal.returns
returns c = λ at_least. c.agrees.ensures.0 c.if-not-agrees.false
