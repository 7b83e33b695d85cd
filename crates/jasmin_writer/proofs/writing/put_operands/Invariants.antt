use Rattle.std.proofs.Common.{◌≡◌, ◌++◌, length}
use Rattle.std.specs.List.{flat_map}
use Rattle.jasmin_writer.specs.Canonical.{spaced_operand}
use Rattle.jasmin_writer.proofs.writing.put_operands.Given as goal

abbrev pub invariant-loop-rest : goal.invariant-loop-rest
invariant-loop-rest l = l.out.items ++ flat_map spaced_operand l.rest ≡ l.fn.out.items ++ flat_map spaced_operand l.items

abbrev pub decreases-loop-rest : goal.decreases-loop-rest
decreases-loop-rest l = length l.rest
