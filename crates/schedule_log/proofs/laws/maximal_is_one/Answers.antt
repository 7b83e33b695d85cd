use Rattle.schedule_log.proofs.Folded.{maximal_one}
use Rattle.schedule_log.proofs.laws.maximal_is_one.Goals as goal

pub returns : goal.returns
returns c = λ t is js si sj e. maximal_one t 0 0 is js si sj e
