use Rattle.std.proofs.Common.{arith}
use Rattle.std.proofs.lemmas.List.{length-reverse}
use Rattle.vm_model.specs.declared.value.Value.{Value}
use Rattle.frame_actions.proofs.Reversed.{drop-as-reverse}
use Rattle.frame_actions.proofs.stack.Stack.arguments.Goals as goal

pub returns : goal.returns
returns c = grind (arith, length-reverse {A = Value}, drop-as-reverse)
