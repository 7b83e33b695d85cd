use Rattle.std.proofs.Common.{arith, subst}
use Rattle.vm_model.specs.Failures.{Fails}
use Rattle.jasmin_text.specs.Pieces.{piece_at}
use Rattle.jasmin_text.proofs.Within.{broken-before}
use Rattle.jasmin_text.proofs.text.piece_there.Goals as goal

pub overflow_add-result : goal.overflow_add-result
overflow_add-result c =
    let spoilt = subst (λ e. Fails e (piece_at c.args.bytes.now)) c.in-Err-Fault.field-0-is c.in-Err-Fault.ensures in
    omega (arith, c.requires.long, c.requires.column, broken-before c.args.bytes.now c.in-Err-Fault.broken spoilt)
