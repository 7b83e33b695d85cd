use Rattle.std.proofs.Common.{◌≡◌, ◌≤◌, ◌+◌, ◌*◌, length}
use Rattle.dejavu_tool.specs.Checking.{instructions_of}
use Rattle.dejavu_tool.proofs.checking.instructions_of.Given as goal

abbrev pub invariant-loop-rest : goal.invariant-loop-rest
invariant-loop-rest l = record { so_far : l.total + instructions_of l.rest ≡ instructions_of l.methods; bound : l.total + 18446744073709551616 * length l.rest ≤ 18446744073709551616 * length l.methods }

abbrev pub decreases-loop-rest : goal.decreases-loop-rest
decreases-loop-rest l = length l.rest
