use Rattle.lane_core.proofs.Following.{only_then}
use Rattle.lane_core.proofs.slot.step.Goals as goal

pub returns-in-Ok-Some-clause-only : goal.returns-in-Ok-Some-clause-only
returns-in-Ok-Some-clause-only g c =
    only_then c.args.slot.now.thread c.args.lane (g.G.Gate.told c.args.seat.now) (g.G.Gate.told c.ask_part.new.seat) (g.G.Gate.told c.offer_part-pace.new.seat) c.in-Ok-Some.ensures.only c.offer_part-pace.ensures.only
