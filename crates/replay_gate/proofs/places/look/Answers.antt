use Rattle.std.proofs.Common.{rules}
use Rattle.replay_gate.proofs.Lists.{has_contained}
use Rattle.replay_gate.proofs.Looking.{looks}
use Rattle.replay_gate.proofs.places.look.Goals as goal

pub load-requires : goal.load-requires
load-requires g c = (search rules, search rules, looks _ _ _ _ _ c.requires.idle.unspent c.requires.idle.free c.requires.idle.empty (has_contained _ _ c.requires.lane))
