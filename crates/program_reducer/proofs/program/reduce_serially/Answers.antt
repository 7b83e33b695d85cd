use Rattle.program_isolator.proofs.Found.{rounds_mean}
use Rattle.program_reducer.proofs.program.reduce_serially.Goals as goal

pub reduce_with-requires-clause-outcome : goal.reduce_with-requires-clause-outcome
reduce_with-requires-clause-outcome c = rounds_mean c.in_ok-rounds.rounds c.args.plain.now c.args.events c.args.fault c.in_ok-rounds.ensures
