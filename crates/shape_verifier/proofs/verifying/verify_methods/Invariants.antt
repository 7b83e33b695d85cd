use Rattle.std.proofs.Common.{ℕ, ◌<◌}
use Rattle.shape_verifier.specs.Passing.{HasTable}
use Rattle.shape_verifier.proofs.verifying.verify_methods.Given as goal

-- each method before this one has a closed table
abbrev pub invariant-loop-number : goal.invariant-loop-number
invariant-loop-number l = (k : ℕ) → k < l.number → HasTable l.program k
