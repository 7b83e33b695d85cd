use Rattle.std.proofs.Common.{refl}
use Rattle.switch_schedule.proofs.laws.cut_is_trailing.Goals as goal

pub returns : goal.returns
returns c events times rest allowed some unfed = record { before = times; rest = rest; parted = refl; right = allowed; place = refl; wrong = (some, unfed) }
