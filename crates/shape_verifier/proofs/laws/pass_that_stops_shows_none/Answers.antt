use Rattle.shape_verifier.proofs.Stops.{shows_none}
use Rattle.shape_verifier.proofs.laws.pass_that_stops_shows_none.Goals as goal

pub returns : goal.returns
returns c = λ p n m refusal at stops has. shows_none p n m refusal at stops has
