use Rattle.std.proofs.Common.{◌≡◌, length}
use Rattle.jasmin_lines.specs.Tables.{row_of, rows_of}
use Rattle.jasmin_lines.proofs.tables.row_of.Given as goal

abbrev pub invariant-loop-rest : goal.invariant-loop-rest
invariant-loop-rest g l = row_of l.word (rows_of l.rest) ≡ row_of l.word (rows_of l.rows)

abbrev pub decreases-loop-rest : goal.decreases-loop-rest
decreases-loop-rest g l = length l.rest
