use Rattle.switch_reducer.proofs.Within.{reduced_no_longer}
use Rattle.switch_reducer.proofs.laws.reduced_is_no_longer.Goals as goal

pub returns : goal.returns
returns c = reduced_no_longer
