use Rattle.std.proofs.Common.{◌∙◌}
use Rattle.shape_verifier.proofs.Settling.{passed_so}
use Rattle.shape_verifier.proofs.passing.pass.Goals as goal

pub returns : goal.returns
returns c =
    passed_so c.args.program.now c.args.number c.args.method.now c.deref_mut.result.now c.settle.new.state c.settle.result c.in_ok-state.ensures.begun.1 (c.deref_mut.ensures.value ∙ c.in_ok-state.ensures.begun.0) c.settle.ensures
