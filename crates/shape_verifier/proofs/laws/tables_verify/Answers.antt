use Rattle.shape_verifier.proofs.Tables.{verified}
use Rattle.shape_verifier.proofs.laws.tables_verify.Goals as goal

pub returns : goal.returns
returns c = λ p has. verified p has
