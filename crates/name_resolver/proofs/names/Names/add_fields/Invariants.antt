use Rattle.std.proofs.Common.{◌≡◌, length}
use Rattle.name_resolver.specs.Names.{with_fields}
use Rattle.name_resolver.proofs.names.Names.add_fields.Given as goal

abbrev pub invariant-loop-rest : goal.invariant-loop-rest
invariant-loop-rest l = with_fields l.class l.rest l.counts l.self ≡ with_fields l.class l.fields l.initial.counts l.initial.self

abbrev pub decreases-loop-rest : goal.decreases-loop-rest
decreases-loop-rest l = length l.rest
