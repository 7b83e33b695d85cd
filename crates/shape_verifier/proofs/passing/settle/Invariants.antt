use Rattle.std.proofs.Common.{◌≡◌, length}
use Rattle.shape_verifier.specs.Turning.{AreWithin, NoneNewBelow}
use Rattle.shape_verifier.proofs.Weights.{weight}
use Rattle.shape_verifier.proofs.Turns.{LeadsTo}
use Rattle.shape_verifier.proofs.passing.settle.Given as goal

-- however the pass goes on from here, it does so from the beginning
abbrev pub invariant-turns : goal.invariant-turns
invariant-turns l = record {
  long : length l.state ≡ length l.fn.state;
  within : AreWithin l.method l.state;
  none : NoneNewBelow l.from l.state;
  leads : LeadsTo l.program l.number l.method l.fn.state l.state;
}

abbrev pub decreases-turns : goal.decreases-turns
decreases-turns l = weight l.program l.method l.state
