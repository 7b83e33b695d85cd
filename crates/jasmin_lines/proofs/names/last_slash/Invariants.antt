use Rattle.std.proofs.Common.{◌≡◌, ◌+◌, ◌<◌, length, None, IfSome}
use Rattle.jasmin_lines.specs.Words.{slash_from}
use Rattle.jasmin_lines.proofs.names.last_slash.Given as goal

abbrev pub invariant-loop-rest : goal.invariant-loop-rest
invariant-loop-rest l = record { so_far : slash_from l.passed l.rest l.found ≡ slash_from 0 l.bytes None; place : l.passed + length l.rest ≡ length l.bytes; within : IfSome l.found (λ n. n < l.passed) }

abbrev pub decreases-loop-rest : goal.decreases-loop-rest
decreases-loop-rest l = length l.rest
