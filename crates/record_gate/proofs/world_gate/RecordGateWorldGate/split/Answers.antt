use Rattle.record_gate.proofs.Handed.{still_gives}
use Rattle.record_gate.proofs.world_gate.RecordGateWorldGate.split.Goals as goal

pub returns-clause-gives : goal.returns-clause-gives
returns-clause-gives c = λ other not may. still_gives c.args.seat.now.view c.split.new.seat.view c.args.lane other c.split.ensures.left not may
