use Rattle.std.proofs.Common.{◌≡◌, inl, ℕ, true, sym, ◌∙◌, subst}
use Rattle.gate_core.specs.Histories.{entries_of_lane}
use Rattle.replay_gate.specs.Lanes.{has}
use Rattle.replay_gate.proofs.Lists.{has_contained}
use Rattle.replay_gate.proofs.Telling.{own_at, sees_so}
use Rattle.replay_gate.proofs.world_gate.ReplayGateWorldGate.close.Goals as goal

pub close-requires-clause-all : goal.close-requires-clause-all
close-requires-clause-all c = λ lane low. inl (c.requires.all lane low)

pub returns-clause-entries : goal.returns-clause-entries
returns-clause-entries c = λ lane low.
    let v = c.args.seat.view in
    let count = c.requires.seat.lane_count in
    let yours : has v.lanes lane ≡ true = has_contained v.lanes lane (c.requires.all lane low) in
    subst (λ (n : ℕ). entries_of_lane n lane c.close.result.history ≡ entries_of_lane n lane v.seen) count (c.close.ensures.own lane (c.requires.all lane low)) ∙ sym (own_at v c.args.self.terms.lanes lane count yours)

pub returns-clause-targets : goal.returns-clause-targets
returns-clause-targets c = sees_so c.args.seat.view.seen c.close.result.history c.close.ensures.seen
