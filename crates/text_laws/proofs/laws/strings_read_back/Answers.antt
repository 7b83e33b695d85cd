use Rattle.text_laws.proofs.Strings.{string-read}
use Rattle.text_laws.proofs.laws.strings_read_back.Goals as goal

pub returns : goal.returns
returns c = λ text behind held. string-read text behind held
