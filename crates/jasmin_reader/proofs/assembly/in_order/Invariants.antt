use Rattle.std.proofs.Common.{◌≡◌, ◌++◌, length}
use Rattle.jasmin_reader.specs.Turned.{turned_lines}
use Rattle.jasmin_reader.proofs.assembly.in_order.Given as goal

abbrev pub invariant-loop-line : goal.invariant-loop-line
invariant-loop-line l = l.turned.items ++ turned_lines l.lines.items ≡ turned_lines l.initial.lines.items

abbrev pub decreases-loop-line : goal.decreases-loop-line
decreases-loop-line l = length l.lines.items
