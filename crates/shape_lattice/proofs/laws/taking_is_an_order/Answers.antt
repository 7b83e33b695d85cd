use Rattle.shape_lattice.proofs.Taking.{takes_itself, takes_passes, takes_test, takes_tested}
use Rattle.shape_lattice.proofs.laws.taking_is_an_order.Goals as goal

pub returns : goal.returns
returns c = record {
  test = λ p new old a. takes_test p new old a;
  tested = λ p new old a. takes_tested p new old a;
  itself = λ p s. takes_itself p s;
  passes = λ p r s t a b. takes_passes p r s t a b;
}
