use Rattle.std.proofs.Common.{arith}
use Rattle.frame_actions.proofs.Reversed.{top_of-drop-reverse, slice_get-reverse, slice_get-reverse_past}
use Rattle.frame_actions.proofs.stack.Stack.peek.Goals as goal

pub returns-then-depth-len-clause-top : goal.returns-then-depth-len-clause-top
returns-then-depth-len-clause-top c = grind (arith, top_of-drop-reverse)

pub returns-then-depth-len-clause-get : goal.returns-then-depth-len-clause-get
returns-then-depth-len-clause-get c = grind (arith, slice_get-reverse)

pub returns-else-depth-len-clause-get : goal.returns-else-depth-len-clause-get
returns-else-depth-len-clause-get c = grind (arith, slice_get-reverse_past)
