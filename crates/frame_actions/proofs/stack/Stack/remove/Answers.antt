use Rattle.std.proofs.Common.{arith}
use Rattle.std.proofs.lemmas.List.{length-reverse}
use Rattle.vm_model.specs.declared.value.Value.{Value}
use Rattle.frame_actions.proofs.Reversed.{reverse-take}
use Rattle.frame_actions.proofs.stack.Stack.remove.Goals as goal

pub returns-clause-values : goal.returns-clause-values
returns-clause-values c = grind (arith, length-reverse {A = Value}, reverse-take)
