use Rattle.std.proofs.Common.{ℕ, List, ap, ◌∙◌}
use Rattle.schedule_model.specs.declared.outcome.Outcome.{Outcome}
use Rattle.program_isolator.proofs.Ends.{fails_of}
use Rattle.program_reducer.proofs.Left.{left_of}
use Rattle.program_reducer.proofs.program.reduce_with.Goals as goal

pub reduce-requires-clause-fails : goal.reduce-requires-clause-fails
reduce-requires-clause-fails g c = ap (λ (o : List ℕ → Outcome). o c.args.fail.now) c.requires.outcome ∙ fails_of c.args._plain.now c.args.fail.now c.args._events c.args._fault c.requires.fails

pub returns-clause-left : goal.returns-clause-left
returns-clause-left g c =
    let e = c.reduce.ensures in
    left_of c.same_faults_are_equal.ensures c.args._plain.now c.args._events c.args.fail.now c.args._fault (g.R.Rounds.outcome c.args.rounds.now) c.requires.outcome c.reduce.result e.reduced e.last e.asked e.unresolved
