use Rattle.switch_schedule.proofs.First.{one-schedule}
use Rattle.switch_schedule.proofs.laws.one_schedule_a_file.Goals as goal

pub returns : goal.returns
returns c = one-schedule
