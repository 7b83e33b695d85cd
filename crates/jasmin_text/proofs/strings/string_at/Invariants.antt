use Rattle.std.proofs.Common.{◌≡◌, ◌+◌, ◌≤◌, length, false}
use Rattle.jasmin_text.proofs.Quoted.{with_text}
use Rattle.jasmin_text.specs.Pieces.{string_after}
use Rattle.jasmin_text.proofs.strings.string_at.Given as goal

abbrev pub invariant-loop-rest : goal.invariant-loop-rest
invariant-loop-rest l = record { so_far : with_text l.text.items (string_after l.is_escape l.passed l.rest) ≡ string_after false 1 l.bytes; place : l.passed + length l.rest ≡ 1 + length l.bytes; positive : 1 ≤ l.passed }

abbrev pub decreases-loop-rest : goal.decreases-loop-rest
decreases-loop-rest l = length l.rest
