use Rattle.text_laws.proofs.Whole.{reads-the-same}
use Rattle.text_laws.proofs.laws.canonical_text_reads_the_same.Goals as goal

pub returns : goal.returns
returns c = λ text tokens classes e r. reads-the-same text tokens classes e r
