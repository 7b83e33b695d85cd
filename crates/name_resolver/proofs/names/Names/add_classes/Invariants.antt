use Rattle.std.proofs.Common.{◌≡◌, length}
use Rattle.name_resolver.specs.Names.{with_classes}
use Rattle.name_resolver.proofs.names.Names.add_classes.Given as goal

abbrev pub invariant-loop-rest : goal.invariant-loop-rest
invariant-loop-rest l = with_classes l.rest l.counts l.self ≡ with_classes l.classes l.initial.counts l.initial.self

abbrev pub decreases-loop-rest : goal.decreases-loop-rest
decreases-loop-rest l = length l.rest
