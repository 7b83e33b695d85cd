use Rattle.std.proofs.Common.{◌≡◌, Contains, ◌++◌, ℕ, ◌%◌, sym, ap, ◌∙◌, subst}
use Rattle.gate_core.specs.declared.gate.Offer.{Offer}
use Rattle.gate_core.specs.Gates.{EntriesAfter}
use Rattle.replay_gate.specs.declared.view.ReplayView.{ReplayView}
use Rattle.replay_gate.specs.Gates.{SeatState}
use Rattle.gate_core.specs.Histories.{entries_of_lane}
use Rattle.replay_gate.specs.Answers.{Turned, SameLanes, added}
use Rattle.replay_gate.specs.Offers.{told_of}
use Rattle.replay_gate.proofs.Lists.{has_contained}
use Rattle.replay_gate.proofs.Telling.{contained_so, entries_so, sees_so}
use Rattle.replay_gate.proofs.offers.ReplayGateGate.offer.Goals as goal

pub returns-clause-entries : goal.returns-clause-entries
returns-clause-entries c =
    let s = c.args.seat.now in
    let t = c.tell_off.new.seat in
    let n = c.args.self.now.terms.lanes in
    let view : c.try_turn-answer.new.seat.view ≡ t.view = sym (ap (λ (x : SeatState). x.view) c.tell_off.ensures) in
    let turned = subst (λ (x : ReplayView). Turned s.view x c.args.thread c.args.op c.try_turn-answer.result) view c.try_turn-answer.ensures.turned in
    let same = subst (SameLanes s.view) view c.try_turn-answer.ensures.lanes in
    let own = subst (λ (x : ReplayView). (lane : ℕ) → Contains s.view.lanes lane → entries_of_lane n lane x.seen ≡ entries_of_lane n lane s.view.seen ++ added n lane c.args.thread c.args.op c.try_turn-answer.result) view c.try_turn-answer.ensures.own in
    let count : t.view.lane_count ≡ n = ap (λ (x : ReplayView). x.lane_count) (sym view) ∙ c.try_turn-answer.ensures.seat.lane_count in
    subst (λ (x : Offer). EntriesAfter (c.args.thread % n) c.args.thread c.args.op (told_of s) x (told_of t)) (sym c.offered-offer.ensures)
    (entries_so s t n c.args.thread c.args.op c.requires.seat.lane_count count same c.try_turn-answer.result turned c.try_turn-answer.ensures.limit (has_contained _ _ c.requires.lane) (λ lane h. own lane (contained_so _ _ h)))

pub returns-clause-sees : goal.returns-clause-sees
returns-clause-sees c =
    let later = c.try_turn-answer.ensures.later in
    sees_so c.args.seat.now.view.seen c.tell_off.new.seat.view.seen (later.0, later.1 ∙ sym (ap (λ (x : SeatState). x.view.seen) c.tell_off.ensures))
