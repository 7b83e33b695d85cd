use Rattle.std.proofs.Common.{◌≡◌, length}
use Rattle.jasmin_reader.specs.Assembly.{parts_of, no_parts}
use Rattle.jasmin_reader.proofs.assembly.classes_of.Given as goal

abbrev pub invariant-loop-form : goal.invariant-loop-form
invariant-loop-form l = parts_of l.forms.items l.parts ≡ parts_of l.initial.forms.items no_parts

abbrev pub decreases-loop-form : goal.decreases-loop-form
decreases-loop-form l = length l.forms.items
