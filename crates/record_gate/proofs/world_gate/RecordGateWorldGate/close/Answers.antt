use Rattle.record_gate.proofs.Handed.{all_had, closed_own, closed_target}
use Rattle.record_gate.proofs.Handed.{all_had, closed_own, closed_target}
use Rattle.record_gate.proofs.world_gate.RecordGateWorldGate.close.Goals as goal

pub close-requires-clause-all : goal.close-requires-clause-all
close-requires-clause-all c = all_had c.args.self.setup.lanes c.args.seat.view c.requires.seat.told.lanes c.requires.all

pub returns-clause-entries : goal.returns-clause-entries
returns-clause-entries c = λ lane low. closed_own c.args.self.setup.lanes c.args.seat.view c.close.result.history lane c.requires.seat.told.lanes (c.requires.all lane low) c.close.ensures.own

pub returns-clause-targets : goal.returns-clause-targets
returns-clause-targets c = λ t target found. closed_target c.args.seat.view.seen c.close.result.history t target c.close.ensures.seen found
