use Rattle.std.proofs.Common.{sym, ◌∙◌, arith}
use Rattle.shape_verifier.proofs.Calling.{none_taken}
use Rattle.shape_verifier.proofs.declared.take_all.Goals as goal

pub returns-in-None-clause-taken : goal.returns-in-None-clause-taken
returns-in-None-clause-taken c =
    sym c.loop-left.invariant.0 ∙ none_taken c.args.program.now c.args.wanted.now c.loop-left.shape.stack c.loop-left.left (omega arith) c.loop-left.invariant.2 c.in-None.ensures.stack
