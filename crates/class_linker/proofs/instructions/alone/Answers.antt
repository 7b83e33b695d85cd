use Rattle.class_linker.specs.Linked.{alone}
use Rattle.class_linker.proofs.instructions.alone.Goals as goal

pub returns : goal.returns
unfolding alone
returns c = c.row_of.ensures
