use Rattle.projection_laws.proofs.Targets.{legal_target}
use Rattle.projection_laws.proofs.laws.targets_stand_in_the_history.Goals as goal

pub returns : goal.returns
returns c = legal_target
