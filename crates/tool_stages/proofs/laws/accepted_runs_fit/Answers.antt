use Rattle.shape_laws.proofs.Machines.{run_fits, threads_ask}
use Rattle.tool_stages.proofs.Linked.{is_well_linked}
use Rattle.tool_stages.proofs.laws.accepted_runs_fit.Goals as goal

pub returns : goal.returns
returns c = record {
  machines = λ text p table m ts accepted shapes runs. run_fits p table m ts (is_well_linked text p accepted.links) shapes runs;
  threads = λ text p m ts t l accepted runs at open'. threads_ask p m ts t l (is_well_linked text p accepted.links) accepted.verified runs at open';
}
