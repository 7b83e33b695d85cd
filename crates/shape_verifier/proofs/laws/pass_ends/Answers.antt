use Rattle.shape_verifier.proofs.Ending.{method_ends}
use Rattle.shape_verifier.proofs.laws.pass_ends.Goals as goal

pub returns : goal.returns
returns c = λ p n m. method_ends p n m
