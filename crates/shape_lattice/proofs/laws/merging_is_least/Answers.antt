use Rattle.shape_lattice.proofs.Least.{merged_takes, merged_below}
use Rattle.shape_lattice.proofs.laws.merging_is_least.Goals as goal

pub returns : goal.returns
returns c = record {
  takes_new = λ p new old merged is long. (merged_takes p new old merged is long).0;
  takes_old = λ p new old merged is long. (merged_takes p new old merged is long).1;
  least = λ p new old both a b. merged_below p new old both a b;
}
