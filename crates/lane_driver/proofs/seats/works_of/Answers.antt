use Rattle.std.proofs.Common.{List, map, arith, sym, ◌∙◌, subst}
use Rattle.std.specs.Prelude.{All, Contains}
use Rattle.std.proofs.lemmas.List.Elements.{All-push}
use Rattle.crossbeam_utils.specs.Padded.{padded_value}
use Rattle.lane_driver.specs.Joined.{number_of}
use Rattle.lane_driver.specs.Working.{IsAtSeat}
use Rattle.lane_driver.specs.declared.run.Work.{Work}
use Rattle.lane_driver.proofs.Joining.{number_all, number_more}
use Rattle.lane_driver.proofs.seats.works_of.Goals as goal

pub loop-lane-preserved : goal.loop-lane-preserved
loop-lane-preserved g c =
    let kept = c.loop-lane.invariant in
    let split = c.split-seat.ensures in
    let made = c.in_ok-work_of.ensures in
    let xs = c.loop-lane.works.items in
    let w = c.in_ok-work_of.field-0 in
    let items = c.in_ok-push.ensures.items in
    let W = Work g.row.G-Seat.Denot in
    record {
      seat = split.seat;
      has = split.lanes ∙ kept.has;
      entries = split.entries 0 ∙ kept.entries;
      gives = λ lane low high. split.gives lane (λ e. omega (arith, e, low)) (kept.gives lane (omega (arith, low)) high);
      seats = subst (λ (ws : List W). All (λ (x : W). g.G.Gate.IsSeatOf c.args.gate.now x.seat) ws) (sym items) (All-push (λ (x : W). g.G.Gate.IsSeatOf c.args.gate.now x.seat) xs w kept.seats made.seat);
      lanes =
          subst (λ (ws : List W). All (λ (x : W). IsAtSeat c.args.plain.now (g.G.Gate.about c.args.gate.now).lanes (g.G.Gate.told x.seat) (padded_value x.lane)) ws) (sym items)
          (All-push (λ (x : W). IsAtSeat c.args.plain.now (g.G.Gate.about c.args.gate.now).lanes (g.G.Gate.told x.seat) (padded_value x.lane)) xs w kept.lanes made.lane);
      numbers = λ lane some low.
          subst (λ (ws : List W). Contains (map (λ (x : W). number_of (padded_value x.lane)) ws) lane) (sym items) (number_more (λ (x : W). number_of (padded_value x.lane)) xs w c.loop-lane.lane made.number kept.numbers lane some low);
    }

pub returns-clause-seats : goal.returns-clause-seats
returns-clause-seats g c =
    let W = Work g.row.G-Seat.Denot in
    subst (λ (ws : List W). All (λ (x : W). g.G.Gate.IsSeatOf c.args.gate.now x.seat) ws) (sym c.in_ok-push-2.ensures.items)
    (All-push (λ (x : W). g.G.Gate.IsSeatOf c.args.gate.now x.seat) c.loop-lane.works.items c.in_ok-work_of-2.field-0 c.loop-lane.invariant.seats c.in_ok-work_of-2.ensures.seat)

pub returns-clause-lanes : goal.returns-clause-lanes
returns-clause-lanes g c =
    let W = Work g.row.G-Seat.Denot in
    subst (λ (ws : List W). All (λ (x : W). IsAtSeat c.args.plain.now (g.G.Gate.about c.args.gate.now).lanes (g.G.Gate.told x.seat) (padded_value x.lane)) ws) (sym c.in_ok-push-2.ensures.items)
    (All-push (λ (x : W). IsAtSeat c.args.plain.now (g.G.Gate.about c.args.gate.now).lanes (g.G.Gate.told x.seat) (padded_value x.lane)) c.loop-lane.works.items c.in_ok-work_of-2.field-0 c.loop-lane.invariant.lanes c.in_ok-work_of-2.ensures.lane)

pub returns-clause-numbers : goal.returns-clause-numbers
returns-clause-numbers g c = λ lane low.
    let W = Work g.row.G-Seat.Denot in
    subst (λ (ws : List W). Contains (map (λ (x : W). number_of (padded_value x.lane)) ws) lane) (sym c.in_ok-push-2.ensures.items)
    (number_all (λ (x : W). number_of (padded_value x.lane)) c.loop-lane.works.items c.in_ok-work_of-2.field-0 c.args.lanes c.in_ok-work_of-2.ensures.number (λ t some below. c.loop-lane.invariant.numbers t some (omega (arith, below, c.loop-lane-test.false))) lane low)
