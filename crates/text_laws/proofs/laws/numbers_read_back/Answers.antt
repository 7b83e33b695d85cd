use Rattle.text_laws.proofs.Numbers.{number-read}
use Rattle.text_laws.proofs.laws.numbers_read_back.Goals as goal

pub returns : goal.returns
returns c = λ n small. number-read n small
