use Rattle.schedule_log.proofs.Spelled.{read_again}
use Rattle.schedule_log.proofs.laws.spelled_is_read.Goals as goal

pub returns : goal.returns
returns c = λ l law. read_again l law
