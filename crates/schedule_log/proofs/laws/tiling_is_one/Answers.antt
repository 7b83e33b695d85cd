use Rattle.schedule_log.proofs.Folded.{one_tiling}
use Rattle.schedule_log.proofs.laws.tiling_is_one.Goals as goal

pub returns : goal.returns
returns c = λ a b la lb e. one_tiling a b la lb e
