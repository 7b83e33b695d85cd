use Rattle.std.proofs.Common.{◌≤◌, List, length, sym, ap, subst}
use Rattle.vm_model.specs.declared.op.Entry.{Entry}
use Rattle.replay_gate.specs.declared.view.ReplayView.{ReplayView}
use Rattle.replay_gate.proofs.Telling.{stands_below}
use Rattle.replay_gate.proofs.offers.ReplayGateGate.clock.Goals as goal

pub returns-clause-above : goal.returns-clause-above
returns-clause-above c =
    stands_below c.clock.new.seat c.clock.result (subst (λ (seen : List Entry). length seen ≤ c.clock.result) (sym (ap (λ (v : ReplayView). v.seen) c.clock.ensures.view)) c.clock.ensures.later)
