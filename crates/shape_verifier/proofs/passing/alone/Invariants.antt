use Rattle.std.proofs.Common.{◌≡◌, ◌-◌, ◌∷◌, ◌++◌, replicate, true, Some, None}
use Rattle.shape_verifier.proofs.passing.alone.Given as goal

-- the first instruction, and those that aren't reached
abbrev pub invariant-loop-place : goal.invariant-loop-place
invariant-loop-place l = l.state.items ++ replicate (l.count - l._place) None ≡ Some (record { shape = l.fn.first; is_new = true }) ∷ replicate (l.count - 1) None
