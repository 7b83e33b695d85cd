use Rattle.command_line.proofs.Spelling.{spelled_not, spelled_within}
use Rattle.command_line.proofs.values.spelled.Goals as goal

pub returns-else-most-number-clause-value : goal.returns-else-most-number-clause-value
returns-else-most-number-clause-value c =
    let parsed = c.in-Ok.ensures.value.0 in
    spelled_within c.args.least c.args.most c.in-Ok.number c.args.text.now parsed.0.0 parsed.1 parsed.0.1 c.if-most-number.false.0 c.if-most-number.false.1

pub returns-in-Err-clause-value : goal.returns-in-Err-clause-value
returns-in-Err-clause-value c = spelled_not c.args.least c.args.most c.args.text.now c.in-Err.ensures.value.0
