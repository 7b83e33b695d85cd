use Rattle.paused_run.proofs.Alike.{same_first}
use Rattle.paused_run.proofs.Resumed.{first-shared}
use Rattle.paused_run.proofs.laws.agreeing_schedules_begin_alike.Goals as goal

pub returns-clause-threads : goal.returns-clause-threads
returns-clause-threads c = same_first

pub returns-clause-machine : goal.returns-clause-machine
returns-clause-machine c = λ p budget xs ys m t agree f. first-shared p budget xs ys m agree t f
