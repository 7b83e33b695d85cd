use Rattle.schedule_log.proofs.Expanding.{in_order-permutation}
use Rattle.schedule_log.proofs.laws.in_order_keeps_all.Goals as goal

pub returns : goal.returns
returns c = λ is. in_order-permutation is
