use Rattle.machine_model.proofs.Locks.{others_stay}
use Rattle.machine_model.proofs.laws.other_locks_stay.Goals as goal

pub returns : goal.returns
returns c = others_stay
