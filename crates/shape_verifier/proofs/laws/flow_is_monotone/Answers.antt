use Rattle.shape_verifier.proofs.Flows.{flow_carries}
use Rattle.shape_verifier.proofs.laws.flow_is_monotone.Goals as goal

pub returns : goal.returns
returns c = λ p table n place i s t a h. flow_carries p table n place s t a i h
