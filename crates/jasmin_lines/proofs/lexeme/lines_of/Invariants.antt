use Rattle.std.proofs.Common.{◌≡◌, ◌++◌, [], length}
use Rattle.std.specs.List.{AllByRecursion}
use Rattle.jasmin_lines.specs.Lexemes.{IsWithin, lines_after}
use Rattle.jasmin_lines.proofs.lexeme.lines_of.Given as goal

abbrev pub invariant-loop-rest : goal.invariant-loop-rest
invariant-loop-rest l = record { so_far : l.lines.items ++ lines_after l.text l.words.items l.rest ≡ lines_after l.text [] l.tokens; within : AllByRecursion (IsWithin (length l.text)) l.rest }

abbrev pub decreases-loop-rest : goal.decreases-loop-rest
decreases-loop-rest l = length l.rest
