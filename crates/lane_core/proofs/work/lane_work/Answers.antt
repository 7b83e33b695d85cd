use Rattle.std.proofs.Common.{ℕ, List, sym, ◌∙◌, subst}
use Rattle.std.specs.Prelude.{Contains}
use Rattle.lane_core.specs.Leaving.{LeftBy}
use Rattle.lane_core.proofs.Ending.{ends_by}
use Rattle.lane_core.proofs.work.lane_work.Goals as goal

pub returns-clause-left : goal.returns-clause-left
returns-clause-left g c = λ sound.
    let p = c.args.plain.now in
    let old = g.G.Gate.told c.args.seat.now in
    let new = g.G.Gate.told c.rounds.new.seat in
    let worked = c.rounds.ensures in
    let has : Contains new.lanes c.rounds.new.lane.number =
    subst (λ (n : ℕ). Contains new.lanes n) (sym worked.number) (subst (λ (ls : List ℕ). Contains ls c.args.lane.now.number) (sym worked.lanes) c.requires.lane) in
    let by = ends_by p old new c.rounds.new.lane c.rounds.result sound has worked.follows worked.left in
    subst (λ (n : ℕ). LeftBy c.rounds.result p n c.args.lane.now.number old new) (sym worked.of ∙ c.requires.lanes)
    (subst (λ (n : ℕ). LeftBy c.rounds.result p c.rounds.new.lane.lanes n old new) worked.number by)
