use Rattle.std.proofs.Common.{ap, slice_index}
use Rattle.replay_gate.proofs.laws.history_by_log.Goals as goal

pub returns : goal.returns
returns c = λ terms s r. (r.history, r.shared, r.legal, ap (λ ws. slice_index ws 0) r.clock, r.column)
