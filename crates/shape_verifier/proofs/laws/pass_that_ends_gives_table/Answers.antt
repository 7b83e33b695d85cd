use Rattle.shape_verifier.proofs.Sound.{gives_table}
use Rattle.shape_verifier.proofs.laws.pass_that_ends_gives_table.Goals as goal

pub returns : goal.returns
returns c = λ p n m state at ends. gives_table p n m at state ends
