use Rattle.std.proofs.Common.{rules, Contains, ◌≡◌, ℕ, List, sym, ap, ◌∙◌, subst, []}
use Rattle.vm_model.specs.declared.op.Entry.{Entry}
use Rattle.gate_core.specs.Histories.{entries_of_lane}
use Rattle.replay_gate.specs.Gates.{SeatState}
use Rattle.replay_gate.specs.Steps.{Seated}
use Rattle.replay_gate.proofs.Lists.{entries-quiet, has_contained}
use Rattle.replay_gate.proofs.gate.ReplayGate.split.Goals as goal

pub returns-clause-fresh : goal.returns-clause-fresh
returns-clause-fresh c =
    let told = c.glance.ensures.told in
    let v = c.seat.inside.place.me.0 in
    let may : Contains v.spare c.args.lane = subst (λ (s : SeatState). Contains s.view.spare c.args.lane) (sym c.seat.view_is) c.requires.may in
    let count : v.lane_count ≡ c.args.self.now.terms.lanes = search rules in
    let seen : c.split.result.me.0.seen ≡ v.seen = ap (λ (m : Seated). m.0.seen) c.split.ensures.right ∙ ap (λ (m : Seated). m.0.seen) told.view in
    subst (λ (x : ℕ × List Entry). entries_of_lane x.0 c.args.lane x.1 ≡ []) (λ i. (count i, sym seen i)) (entries-quiet v.lane_count c.args.lane 0 v.seen (told.fresh c.args.lane (has_contained _ _ may)))
