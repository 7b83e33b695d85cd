use Rattle.std.proofs.Common.{◌≡◌, ◌+◌, ◌≤◌, length}
use Rattle.jasmin_text.specs.Texts.{with_front, tokens_after, tokens_of}
use Rattle.jasmin_text.proofs.text.cut.Given as goal

abbrev pub invariant-loop-rest : goal.invariant-loop-rest
invariant-loop-rest l = record { so_far : with_front l.found.items (tokens_after 0 l.is_open l.place l.rest) ≡ tokens_of l.text; offset : l.place.offset + length l.rest ≡ length l.text; line : l.place.line ≤ l.place.offset + 1; column : l.place.column ≤ l.place.offset + 1 }

abbrev pub decreases-loop-rest : goal.decreases-loop-rest
decreases-loop-rest l = length l.rest
