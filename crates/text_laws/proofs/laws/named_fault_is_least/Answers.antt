use Rattle.text_laws.proofs.AloneRules.{alone-named, alone-formed}
use Rattle.text_laws.proofs.FirstFault.{line-named, line-formed, refused-first, read-faultless}
use Rattle.text_laws.proofs.LeastOfText.{refused-least}
use Rattle.text_laws.proofs.laws.named_fault_is_least.Goals as goal

pub returns : goal.returns
returns c = record {
  alone = λ n words kind. alone-named n words kind;
  said = λ n words. alone-formed n words;
  line = λ before line behind kind. line-named before line behind kind;
  formed = λ before line behind. line-formed before line behind;
  refused = λ text tokens f. refused-first text tokens f;
  least = λ text tokens f e. refused-least text tokens f e;
  read = λ text tokens classes. read-faultless text tokens classes;
}
