use Rattle.std.proofs.Common.{◌≤◌, List, length, sym, ap, subst}
use Rattle.vm_model.specs.declared.op.Entry.{Entry}
use Rattle.record_gate.specs.declared.rule.RecordView.{RecordView}
use Rattle.record_gate.proofs.Told.{stands_below}
use Rattle.record_gate.proofs.offers.RecordGateGate.clock.Goals as goal

pub returns-clause-above : goal.returns-clause-above
returns-clause-above c = stands_below c.clock.new.seat c.clock.result (subst (λ (es : List Entry). length es ≤ c.clock.result) (sym (ap (λ (v : RecordView). v.seen) c.clock.ensures.loaded)) c.clock.ensures.seen)
