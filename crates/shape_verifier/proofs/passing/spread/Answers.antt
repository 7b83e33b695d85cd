use Rattle.std.proofs.Common.{◌+◌, subst, arith}
use Rattle.shape_verifier.specs.declared.flow.Onward.{Onward}
use Rattle.shape_verifier.specs.Answers.{flow_to}
use Rattle.shape_verifier.specs.Turning.{HaveLocalsOf}
use Rattle.shape_verifier.proofs.Arrivals.{arrives}
use Rattle.shape_verifier.proofs.Arriving.{copied}
use Rattle.shape_verifier.proofs.Limits.{arrives_wide}
use Rattle.shape_verifier.proofs.News.{none_arrives}
use Rattle.shape_verifier.proofs.passing.spread.Goals as goal

pub jump-requires-in-Branch-clause-locals : goal.jump-requires-in-Branch-clause-locals
jump-requires-in-Branch-clause-locals c =
    let is = copied c.in_ok-arrive_copy-in-Branch.field-0 c.args.state.now c.arrive_copy.new.state _ c.in_ok-arrive_copy-in-Branch.ensures in
    arrives_wide c.args.program.now c.args.state.now c.arrive_copy.new.state (c.args.place + 1) c.args.shape
    (subst (λ (o : Onward). HaveLocalsOf (flow_to o c.args.shape) c.args.state.now) c.in-Branch.is c.requires.locals)
    (arrives c.args.program.now c.args.state.now (c.args.place + 1) c.args.shape c.arrive_copy.new.state is)

pub jump-requires-in-Branch-clause-none : goal.jump-requires-in-Branch-clause-none
jump-requires-in-Branch-clause-none c =
    let is = copied c.in_ok-arrive_copy-in-Branch.field-0 c.args.state.now c.arrive_copy.new.state _ c.in_ok-arrive_copy-in-Branch.ensures in
    none_arrives c.args.program.now c.args.state.now c.arrive_copy.new.state (c.args.place + 1) (c.args.place + 1) c.args.shape (omega arith) c.requires.none
    (arrives c.args.program.now c.args.state.now (c.args.place + 1) c.args.shape c.arrive_copy.new.state is)
