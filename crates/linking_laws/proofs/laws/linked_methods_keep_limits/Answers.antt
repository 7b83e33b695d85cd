use Rattle.linking_laws.proofs.Linkings.{linked_keep_limits}
use Rattle.linking_laws.proofs.laws.linked_methods_keep_limits.Goals as goal

pub returns : goal.returns
returns c = λ classes p k m e there. linked_keep_limits classes p k m e there
