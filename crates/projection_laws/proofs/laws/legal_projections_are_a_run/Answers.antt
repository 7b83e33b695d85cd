use Rattle.projection_laws.proofs.Projected.{projected}
use Rattle.projection_laws.proofs.laws.legal_projections_are_a_run.Goals as goal

pub returns : goal.returns
returns c = λ p h s ls legal are. projected p h s ls legal are
