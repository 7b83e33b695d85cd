use Rattle.linking_laws.proofs.ReadNames.{read_are_named}
use Rattle.linking_laws.proofs.laws.read_classes_are_named.Goals as goal

pub returns : goal.returns
returns c = λ text tokens classes e. read_are_named text tokens classes e
