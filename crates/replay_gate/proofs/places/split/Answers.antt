use Rattle.std.proofs.Common.{rules}
use Rattle.replay_gate.proofs.Lists.{has_contained}
use Rattle.replay_gate.proofs.Splitting.{splits}
use Rattle.replay_gate.proofs.places.split.Goals as goal

pub split_seat-requires : goal.split_seat-requires
split_seat-requires g c = (search rules, search rules, splits _ _ _ _ c.requires.idle.unspent c.requires.idle.free (has_contained _ _ c.requires.may))
