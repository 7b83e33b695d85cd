use Rattle.dd_isolator.proofs.Single.{shift_exists}
use Rattle.dd_isolator.proofs.laws.shifts_exist.Goals as goal

pub returns : goal.returns
returns c xs ys i = shift_exists i xs ys
