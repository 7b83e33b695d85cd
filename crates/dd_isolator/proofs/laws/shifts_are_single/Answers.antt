use Rattle.dd_isolator.proofs.Single.{shift_is}
use Rattle.dd_isolator.proofs.laws.shifts_are_single.Goals as goal

pub returns : goal.returns
returns c xs ys shifted i = shift_is i xs ys shifted
