use Rattle.std.proofs.Common.{rules, ◌≡◌, true, [], ◌++◌, ap, ◌∙◌}
use Rattle.replay_gate.specs.Lanes.{has}
use Rattle.replay_gate.specs.Steps.{joined}
use Rattle.replay_gate.proofs.Lists.{has_first, has_second, has_contained}
use Rattle.replay_gate.proofs.Telling.{own_alike}
use Rattle.replay_gate.proofs.Joining.{Both, both_so}
use Rattle.replay_gate.proofs.gate.ReplayGate.join.Goals as goal

both : (c : goal.After-glance) → Both c.args.self.now.terms.lanes c.args.into.now.view c.args.ended.view c.glance.new.place.me.0
both c = both_so _ _ _ c.join.new.place.me _ c.glance.result (c.join.ensures.both ∙ (λ i. (joined (c.into.view_is i).view (c.ended.view_is i).view, []))) c.glance.ensures.told c.requires.seat.lane_count

pub returns-clause-first : goal.returns-clause-first
returns-clause-first c = (both c).first

pub returns-clause-second : goal.returns-clause-second
returns-clause-second c = (both c).second

count : (c : goal.After-glance) → c.glance.new.place.me.0.lane_count ≡ c.args.self.now.terms.lanes
count c = search rules

lanes : (c : goal.After-glance) → c.glance.new.place.me.0.lanes ≡ c.args.into.now.view.lanes ++ c.args.ended.view.lanes
lanes c = search rules

pub returns-clause-own : goal.returns-clause-own
returns-clause-own c = λ lane inside.
    let v = c.args.into.now.view in
    let yours : has v.lanes lane ≡ true = has_contained v.lanes lane inside in
    own_alike v c.glance.new.place.me.0 c.args.self.now.terms.lanes lane c.requires.seat.lane_count (count c) yours
    (ap (λ ls. has ls lane) (lanes c) ∙ has_first v.lanes c.args.ended.view.lanes lane yours) ((both c).own lane yours)

pub returns-clause-ended_own : goal.returns-clause-ended_own
returns-clause-ended_own c = λ lane inside.
    let v = c.args.ended.view in
    let yours : has v.lanes lane ≡ true = has_contained v.lanes lane inside in
    own_alike v c.glance.new.place.me.0 c.args.self.now.terms.lanes lane c.requires.ended.lane_count (count c) yours
    (ap (λ ls. has ls lane) (lanes c) ∙ has_second c.args.into.now.view.lanes v.lanes lane yours) ((both c).ended_own lane yours)
