use Rattle.shape_verifier.specs.Answers.{flow_to}
use Rattle.shape_verifier.proofs.Limits.{flow_locals, judged_so}
use Rattle.shape_verifier.proofs.passing.turn.Goals as goal

pub spread-requires-clause-locals : goal.spread-requires-clause-locals
spread-requires-clause-locals c =
    let h = judged_so c.args.program.now c.args.number c.args.method.now c.args.place c.in-Some.instr c.args.shape (flow_to c.in-Ok.onward c.judge.new.shape) c.requires.locals c.in-Ok.ensures in
    flow_locals c.args.method.now c.args.place (flow_to c.in-Ok.onward c.judge.new.shape) c.args.state.now h.within c.requires.within
