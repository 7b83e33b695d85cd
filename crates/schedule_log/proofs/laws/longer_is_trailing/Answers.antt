use Rattle.schedule_log.proofs.Spelled.{read_longer}
use Rattle.schedule_log.proofs.laws.longer_is_trailing.Goals as goal

pub returns : goal.returns
returns c = λ l b more law. read_longer l b more law
