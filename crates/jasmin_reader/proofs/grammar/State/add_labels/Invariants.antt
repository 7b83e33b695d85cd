use Rattle.std.proofs.Common.{◌≡◌, true, length}
use Rattle.jasmin_reader.specs.Grammar.{labelled}
use Rattle.jasmin_reader.specs.Labels.{are_new}
use Rattle.jasmin_reader.proofs.grammar.State.add_labels.Given as goal

abbrev pub invariant-loop-rest : goal.invariant-loop-rest
invariant-loop-rest l = (labelled l.rest l.self ≡ labelled l.labels l.initial.self) × (are_new l.self.labels l.rest ≡ true)

abbrev pub decreases-loop-rest : goal.decreases-loop-rest
decreases-loop-rest l = length l.rest
