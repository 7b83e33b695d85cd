use Rattle.std.proofs.Common.{sym, subst}
use Rattle.shape_verifier.specs.Verdicts.{FailsSo}
use Rattle.shape_verifier.proofs.Verdicts.{ended, stopped}
use Rattle.shape_verifier.proofs.verifying.verify_method.Goals as goal

pub returns-in-Ok : goal.returns-in-Ok
returns-in-Ok c = ended c.args.program.now c.args.number c.in-Some.method.now (sym c.in-Some.ensures) c.in-Ok.ensures

pub returns-in-Err : goal.returns-in-Err
returns-in-Err c =
    subst (λ f. FailsSo f c.args.program.now c.args.number) (sym c.fault_of.ensures)
    (stopped c.args.program.now c.args.number c.in-Some.method.now c.in-Err.error (sym c.in-Some.ensures) c.in-Err.ensures)
