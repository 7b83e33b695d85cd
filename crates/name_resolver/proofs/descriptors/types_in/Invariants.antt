use Rattle.std.proofs.Common.{◌≡◌, ◌++◌}
use Rattle.name_resolver.specs.Descriptors.{types_within, types_in}
use Rattle.name_resolver.proofs.descriptors.types_in.Given as goal

abbrev pub invariant-loop-left : goal.invariant-loop-left
invariant-loop-left l = l.types.items ++ types_within l.left l.classes l.rest ≡ types_in l.classes l.bytes

abbrev pub decreases-loop-left : goal.decreases-loop-left
decreases-loop-left l = l.left
