use Rattle.shape_verifier.proofs.Ends.{one_way}
use Rattle.shape_verifier.proofs.laws.pass_ends_one_way.Goals as goal

pub returns : goal.returns
returns c = λ p n m a b ends others. one_way p n m a b ends others
