use Rattle.std.proofs.Common.{rules}
use Rattle.replay_gate.proofs.Ending.{leaves_from}
use Rattle.replay_gate.proofs.places.leave.Goals as goal

pub load-requires : goal.load-requires
load-requires c = (
  search rules,
  search rules,
  leaves_from _ _ _ _ c.args.place.now.me.0 c.args.world c.put_world.ensures.full c.requires.turn.unspent c.requires.turn.turn c.requires.start c.requires.budget c.requires.history c.history.ensures.legal,
)
