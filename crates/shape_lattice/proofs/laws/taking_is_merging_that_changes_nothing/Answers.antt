use Rattle.shape_lattice.proofs.Unchanged.{taken_unchanged, unchanged_taken}
use Rattle.shape_lattice.proofs.laws.taking_is_merging_that_changes_nothing.Goals as goal

pub returns : goal.returns
returns c = record {
  taken = λ p new old a. taken_unchanged p new old a;
  unchanged = λ p new old long is. unchanged_taken p new old long is;
}
