use Rattle.schedule_log.proofs.Gaps.{gap_from, gap_of}
use Rattle.schedule_log.proofs.laws.gap_is_clock_in_none.Goals as goal

pub returns : goal.returns
returns c = λ is. ((λ e. gap_from is e), (λ g. gap_of is g.0 g.1 g.2))
