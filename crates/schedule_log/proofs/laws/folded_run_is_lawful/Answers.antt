use Rattle.schedule_log.proofs.Folded.{folded_run}
use Rattle.schedule_log.proofs.laws.folded_run_is_lawful.Goals as goal

pub returns : goal.returns
returns c = λ budget threads parts end can are. folded_run budget threads parts end can are
