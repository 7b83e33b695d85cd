use Rattle.std.proofs.Common.{rules}
use Rattle.replay_gate.proofs.Joining.{joins}
use Rattle.replay_gate.proofs.places.join.Goals as goal

pub join_seat-requires : goal.join_seat-requires
join_seat-requires c = (
  search rules,
  search rules,
  c.requires.other.empty,
  search rules,
  joins _ _ _ _ _ c.requires.idle.unspent c.requires.idle.free c.requires.other.unspent c.requires.other.free,
)
