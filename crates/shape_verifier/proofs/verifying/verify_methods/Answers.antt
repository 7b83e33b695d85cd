use Rattle.std.proofs.Common.{arith}
use Rattle.shape_verifier.specs.Passing.{HasTable}
use Rattle.shape_verifier.proofs.Tables.{verified}
use Rattle.shape_verifier.proofs.verifying.verify_methods.Goals as goal
use borrow.Author.Count.{below_more}

pub loop-number-preserved : goal.loop-number-preserved
loop-number-preserved c = below_more (HasTable c.args.program.now) c.loop-number.number c.loop-number.invariant c.in_ok-verify_method.ensures

pub returns-clause-tables : goal.returns-clause-tables
returns-clause-tables c = verified c.args.program.now (λ n below. c.loop-number.invariant n (omega (arith, c.loop-number-test.false, c.count_of-number-end.ensures)))
