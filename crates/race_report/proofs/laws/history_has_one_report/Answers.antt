use Rattle.race_report.proofs.InOrder.{whole_report_is_one}
use Rattle.race_report.proofs.Racing.{one_report}
use Rattle.race_report.proofs.laws.history_has_one_report.Goals as goal

pub returns : goal.returns
returns c = record { place = one_report; whole = whole_report_is_one }
