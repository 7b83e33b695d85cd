use Rattle.switch_schedule.proofs.Reached.{least-places}
use Rattle.switch_schedule.proofs.laws.enabled_is_reached.Goals as goal

pub returns : goal.returns
returns c = least-places
