use Rattle.std.proofs.Common.{refl}
use Rattle.switch_schedule.proofs.laws.written_spells.Goals as goal

pub returns : goal.returns
returns c events times allowed = record { times_allowed = allowed; text = refl }
