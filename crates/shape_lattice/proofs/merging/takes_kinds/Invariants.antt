use Rattle.std.proofs.Common.{◌≡◌, length}
use Rattle.shape_lattice.specs.Merging.{takes_kinds}
use Rattle.shape_lattice.proofs.merging.takes_kinds.Given as goal

-- what is left to compare decides
abbrev pub invariant-loop-ks : goal.invariant-loop-ks
invariant-loop-ks l = takes_kinds l.program l.ks l.ls ≡ takes_kinds l.program l.fn.new l.fn.old

abbrev pub decreases-loop-ks : goal.decreases-loop-ks
decreases-loop-ks l = length l.ks
