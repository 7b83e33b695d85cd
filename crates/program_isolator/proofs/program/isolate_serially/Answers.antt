use Rattle.program_isolator.proofs.Found.{rounds_mean}
use Rattle.program_isolator.proofs.program.isolate_serially.Goals as goal

pub isolate_with-requires-clause-outcome : goal.isolate_with-requires-clause-outcome
isolate_with-requires-clause-outcome c = rounds_mean c.in_ok-rounds.rounds c.args.plain.now c.args.events c.args.fault c.in_ok-rounds.ensures
