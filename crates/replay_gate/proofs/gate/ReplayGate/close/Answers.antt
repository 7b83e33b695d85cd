use Rattle.std.proofs.Common.{rules, ◌≡◌, ◌≤◌, ℕ, true≢false, is_some, unwrap_or, sym, ap, ◌∙◌, subst}
use Rattle.shared_world.specs.Worlds.{WorldState}
use Rattle.replay_gate.specs.declared.view.ReplayView.{ReplayView}
use Rattle.replay_gate.specs.Rule.{Slot}
use Rattle.replay_gate.specs.Answers.{HasAllLanes, Closes}
use Rattle.replay_gate.proofs.Closing.{closes}
use Rattle.replay_gate.proofs.gate.ReplayGate.close.Goals as goal

pub unreachable-requires : goal.unreachable-requires
unreachable-requires c =
    let terms = c.self.inside.table.shared.key in
    let place = c.seat.inside.place in
    let some_lane : 1 ≤ terms.lanes = search rules in
    let lanes : terms.lanes ≡ c.args.self.terms.lanes = search rules in
    let all : HasAllLanes terms.lanes place.me.0 = subst (λ (x : ℕ × ReplayView). HasAllLanes x.0 x.1) (λ i. (sym lanes i, (sym c.seat.view_is i).view)) c.requires.all in
    let t = closes terms place.id place.me.0 _ _ c.take-slot.result c.close_with-closed.ensures.values.2 c.seat.invariant.unspent c.seat.invariant.free some_lane all c.take-slot.ensures.value in
    true≢false (ap is_some (sym t.1 ∙ c.in-None.is))

pub returns : goal.returns
returns c =
    let terms = c.self.inside.table.shared.key in
    let place = c.seat.inside.place in
    let some_lane : 1 ≤ terms.lanes = search rules in
    let lanes : terms.lanes ≡ c.args.self.terms.lanes = search rules in
    let all : HasAllLanes terms.lanes place.me.0 = subst (λ (x : ℕ × ReplayView). HasAllLanes x.0 x.1) (λ i. (sym lanes i, (sym c.seat.view_is i).view)) c.requires.all in
    let t = closes terms place.id place.me.0 _ _ c.take-slot.result c.close_with-closed.ensures.values.2 c.seat.invariant.unspent c.seat.invariant.free some_lane all c.take-slot.ensures.value in
    let same : t.0 ≡ c.in-Some.world = ap (λ (slot : Slot). unwrap_or slot t.0) (sym t.1 ∙ c.in-Some.is) in
    subst (λ (x : ReplayView × WorldState). Closes x.0 x.1) (λ i. ((c.seat.view_is i).view, same i)) t.2
