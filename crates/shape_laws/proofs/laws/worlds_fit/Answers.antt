use Rattle.shape_laws.proofs.Worlds.{reply_fits, world_fits}
use Rattle.shape_laws.proofs.laws.worlds_fit.Goals as goal

pub returns : goal.returns
returns c = record { replies = λ p s t o world made h. (reply_fits p s t o world made h).0; worlds = λ p s t o world made h. world_fits p s t o world made h }
