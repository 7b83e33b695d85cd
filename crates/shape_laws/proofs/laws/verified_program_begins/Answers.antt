use Rattle.shape_laws.proofs.FirstOperation.{program_begins}
use Rattle.shape_laws.proofs.laws.verified_program_begins.Goals as goal

pub returns : goal.returns
returns c = λ p budget linked names verified some. program_begins p budget linked names verified some
