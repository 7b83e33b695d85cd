use Rattle.machine_model.proofs.Locks.{own_is_found}
use Rattle.machine_model.proofs.laws.kept_monitor_is_found.Goals as goal

pub returns : goal.returns
returns c = own_is_found
