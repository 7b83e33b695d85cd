use Rattle.std.proofs.Common.{ℕ, [], ◌∷◌, ap, sym, ◌∙◌}
use Rattle.lane_core.specs.Lanes.{LaneView}
use Rattle.lane_driver.proofs.Staying.{stays}
use Rattle.lane_driver.proofs.run.run_lane.Goals as goal

pub returns-clause-lane : goal.returns-clause-lane
returns-clause-lane g c =
    let p = c.args.plain.now in
    let worked = c.lane_work-end.ensures in
    let number = worked.number ∙ ap (λ (l : LaneView). l.number) c.deref_mut.ensures.value in
    stays p (g.G.Gate.about c.args.gate.now).lanes (g.G.Gate.told c.lane_work-end.new.seat) c.lane_work-end.new.lane c.lane_work-end.result
    (λ e. record { has = worked.lanes ∙ c.requires.lane.has ∙ ap (λ (n : ℕ). n ∷ []) (sym number); of = sym worked.of; follows = worked.follows e })
