use Rattle.std.proofs.Common.{◌≡◌, ◌++◌, length, map}
use Rattle.name_resolver.specs.Descriptors.{kind_of}
use Rattle.name_resolver.proofs.descriptors.Signature.param_kinds.Given as goal

abbrev pub invariant-loop-rest : goal.invariant-loop-rest
invariant-loop-rest l = l.kinds.items ++ map kind_of l.rest ≡ map kind_of l.self.params

abbrev pub decreases-loop-rest : goal.decreases-loop-rest
decreases-loop-rest l = length l.rest
