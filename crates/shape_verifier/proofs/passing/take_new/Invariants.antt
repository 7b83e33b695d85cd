use Rattle.std.proofs.Common.{◌≡◌}
use Rattle.shape_verifier.specs.Turning.{NoneNewBelow}
use Rattle.shape_verifier.proofs.passing.take_new.Given as goal

-- none is new before this place
abbrev pub invariant-loop-place : goal.invariant-loop-place
invariant-loop-place l = record { same : l.state ≡ l.fn.state; none : NoneNewBelow l.place l.state }
