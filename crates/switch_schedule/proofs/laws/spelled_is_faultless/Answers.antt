use Rattle.switch_schedule.proofs.First.{spelled-faultless}
use Rattle.switch_schedule.proofs.laws.spelled_is_faultless.Goals as goal

pub returns : goal.returns
returns c = spelled-faultless
