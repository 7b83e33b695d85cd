use Rattle.text_laws.proofs.LineOrder.{none-before}
use Rattle.text_laws.proofs.NamedLine.{named-first, read-none}
use Rattle.text_laws.proofs.laws.named_line_is_first.Goals as goal

pub returns : goal.returns
returns c = record {
  refused = λ text tokens f. named-first text tokens f;
  before = λ text tokens f g e r there. none-before text tokens f g e r there;
  read = λ text tokens classes. read-none text tokens classes;
}
