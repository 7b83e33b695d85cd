use Rattle.shape_verifier.proofs.Below.{begins, goes_on}
use Rattle.shape_verifier.proofs.laws.pass_stays_below.Goals as goal

pub returns : goal.returns
returns c = record {
  begins = λ p table n m at closed. begins p table n m at closed;
  goes_on = λ p table n m state next at closed h is. goes_on p table n m at closed state next h is;
}
