use Rattle.std.proofs.Common.{◌≡◌, sym, ap, ◌∙◌, subst}
use Rattle.replay_gate.specs.declared.view.ReplayView.{ReplayView}
use Rattle.replay_gate.specs.Gates.{SeatState}
use Rattle.replay_gate.specs.Answers.{SameLanes}
use Rattle.gate_core.specs.Histories.{entries_of_lane}
use Rattle.replay_gate.proofs.Telling.{contained_so, own_same, sees_so}
use Rattle.replay_gate.proofs.offers.ReplayGateGate.begun.Goals as goal

pub returns-clause-entries : goal.returns-clause-entries
returns-clause-entries c = λ lane.
    let s = c.args.seat.now in
    let t = c.tell_off.new.seat in
    let n = c.args.self.now.terms.lanes in
    let view : c.begun-begun.new.seat.view ≡ t.view = sym (ap (λ (x : SeatState). x.view) c.tell_off.ensures) in
    let same = subst (SameLanes s.view) view c.begun-begun.ensures.lanes in
    let count : t.view.lane_count ≡ n = ap (λ (x : ReplayView). x.lane_count) (sym view) ∙ c.begun-begun.ensures.seat.lane_count in
    own_same s.view t.view n lane c.requires.seat.lane_count count same
    (λ h. subst (λ (x : ReplayView). entries_of_lane n lane x.seen ≡ entries_of_lane n lane s.view.seen) view (c.begun-begun.ensures.own lane (contained_so _ _ h)))

pub returns-clause-sees : goal.returns-clause-sees
returns-clause-sees c =
    let later = c.begun-begun.ensures.later in
    sees_so c.args.seat.now.view.seen c.tell_off.new.seat.view.seen (later.0, later.1 ∙ sym (ap (λ (x : SeatState). x.view.seen) c.tell_off.ensures))
