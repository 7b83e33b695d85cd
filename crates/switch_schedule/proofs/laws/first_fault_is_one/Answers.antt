use Rattle.switch_schedule.proofs.First.{first-fault}
use Rattle.switch_schedule.proofs.laws.first_fault_is_one.Goals as goal

pub returns : goal.returns
returns c = first-fault
