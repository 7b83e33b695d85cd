use Rattle.std.proofs.Common.{rules}
use Rattle.record_gate.proofs.Calls.{starts}
use Rattle.record_gate.proofs.Handed.{all_others}
use Rattle.record_gate.proofs.gate.RecordGate.new.Goals as goal

pub new-requires-2 : goal.new-requires-2
new-requires-2 c = starts _ _ (search rules) (search rules)

pub returns-in-Ok-clause-gives : goal.returns-in-Ok-clause-gives
returns-in-Ok-clause-gives c = λ lane from low. all_others (record { start = c.args.start; events = c.args.events; lanes = c.args.lanes }) c.in-Ok.seat.me.0 lane (search rules) from low
