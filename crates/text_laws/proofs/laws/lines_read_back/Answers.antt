use Rattle.text_laws.proofs.Lines.{has-lines}
use Rattle.text_laws.proofs.laws.lines_read_back.Goals as goal

pub returns : goal.returns
returns c = λ lines h. has-lines lines h
