use Rattle.built_in_classes.specs.Classes.{built_in_number}
use Rattle.built_in_classes.proofs.table.built_in_number.Goals as goal

pub returns : goal.returns
unfolding built_in_number
returns c = c.number_in.ensures
