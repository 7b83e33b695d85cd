use Rattle.shape_laws.proofs.Kept.{absorb_fits}
use Rattle.shape_laws.proofs.laws.replies_fit.Goals as goal

pub returns : goal.returns
returns c = λ p table l o r linked shapes fit asks h made. absorb_fits p table l o r linked shapes fit asks h made
