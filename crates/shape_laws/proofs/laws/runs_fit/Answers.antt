use Rattle.shape_laws.proofs.Machines.{run_fits, threads_ask}
use Rattle.shape_laws.proofs.laws.runs_fit.Goals as goal

pub returns : goal.returns
returns c = record { machines = λ p table m ts linked shapes e. run_fits p table m ts linked shapes e; threads = λ p m ts t l linked verified e at open'. threads_ask p m ts t l linked verified e at open' }
