use Rattle.std.proofs.Common.{◌≡◌, length}
use Rattle.jasmin_reader.specs.Grammar.{nothing_begun}
use Rattle.jasmin_reader.specs.Reading.{forms_after}
use Rattle.jasmin_reader.proofs.Fronts.{with_front}
use Rattle.jasmin_reader.proofs.read.forms_of.Given as goal

abbrev pub invariant-loop-rest : goal.invariant-loop-rest
invariant-loop-rest l = with_front l.forms.items (forms_after l.last l.state l.rest) ≡ forms_after l.last nothing_begun l.lines

abbrev pub decreases-loop-rest : goal.decreases-loop-rest
decreases-loop-rest l = length l.rest
