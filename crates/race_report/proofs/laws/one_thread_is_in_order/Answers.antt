use Rattle.race_report.proofs.InOrder.{thread_in_order, no_race_in_one}
use Rattle.race_report.proofs.laws.one_thread_is_in_order.Goals as goal

pub returns : goal.returns
returns c = record { order = thread_in_order; race_free = no_race_in_one }
