use Rattle.shape_laws.proofs.Kept.{step_fits, settled_fits}
use Rattle.shape_laws.proofs.laws.local_steps_fit.Goals as goal

pub returns : goal.returns
returns c = record { one = λ p table l m linked shapes fit e. step_fits p table l m linked shapes fit e; many = λ p table l linked shapes fit. settled_fits 4096 p table l linked shapes fit }
