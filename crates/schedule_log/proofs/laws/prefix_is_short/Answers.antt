use Rattle.schedule_log.proofs.Prefixes.{read_front}
use Rattle.schedule_log.proofs.laws.prefix_is_short.Goals as goal

pub returns : goal.returns
returns c = λ l size law lt. read_front l size law lt
