use Rattle.switch_reducer.proofs.Within.{reduced_within}
use Rattle.switch_reducer.proofs.laws.reduced_stays_within.Goals as goal

pub returns : goal.returns
returns c = reduced_within
