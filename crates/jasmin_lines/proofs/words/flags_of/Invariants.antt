use Rattle.std.proofs.Common.{◌≡◌, ◌++◌, length, filter}
use Rattle.std.specs.List.{list_any}
use Rattle.jasmin_lines.specs.Words.{is_word}
use Rattle.jasmin_lines.specs.Texts.{texts}
use Rattle.jasmin_lines.proofs.words.flags_of.Given as goal

abbrev pub invariant-loop-rest : goal.invariant-loop-rest
invariant-loop-rest l = l.flags.items ++ filter (λ flag. list_any (is_word flag) l.words) (texts l.rest) ≡ filter (λ flag. list_any (is_word flag) l.words) (texts l.known)

abbrev pub decreases-loop-rest : goal.decreases-loop-rest
decreases-loop-rest l = length l.rest
