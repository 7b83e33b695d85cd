use Rattle.std.proofs.Common.{rules, ◌≡◌, List, [], ◌∷◌, ◌++◌, Some, inr, ap, sym, ◌∙◌, subst}
use Rattle.std.proofs.lemmas.List.Elements.{All-pop}
use Rattle.crossbeam_utils.specs.Padded.{padded_value}
use Rattle.lane_core.specs.Lanes.{LaneView}
use Rattle.lane_driver.specs.Joined.{AllOfSeat, number_of, numbers_of}
use Rattle.lane_driver.specs.Working.{StaysAtSeat}
use Rattle.lane_driver.specs.declared.run.Ran.{Ran}
use Rattle.lane_driver.proofs.Joining.{first_of_seat, joined_of_seat, number_done, number_moved}
use Rattle.lane_driver.proofs.seats.joined.Goals as goal

pub loop-next-init : goal.loop-next-init
loop-next-init g c =
    let p = c.args.plain.now in
    let lanes = (g.G.Gate.about c.args.gate.now).lanes in
    let items = c.in-Some.ensures.items in
    let seats = All-pop (λ (r : Ran g.row.G-Seat.Denot). g.G.Gate.IsSeatOf c.args.gate.now r.seat) c.args.ran.items c.pop.new.self.items (Some c.in-Some.first) items c.requires.seats in
    let rest = All-pop (λ (r : Ran g.row.G-Seat.Denot). StaysAtSeat p lanes (g.G.Gate.told r.seat) (padded_value r.lane) r.end) c.args.ran.items c.pop.new.self.items (Some c.in-Some.first) items c.requires.lanes in
    let made : c.push.new.self.items ≡ c.in_ok-lane.lane ∷ [] = c.in_ok-push.ensures.items ∙ ap (λ (ls : List LaneView). ls ++ c.in_ok-lane.lane ∷ []) c.new-lanes.ensures.items in
    record {
      seat = c.in_ok-lane.ensures.seat;
      seats = seats.0;
      rest = rest.0;
      lanes = subst (AllOfSeat p lanes (g.G.Gate.told c.in_ok-lane.into)) (sym made) (first_of_seat p lanes (g.G.Gate.told c.in_ok-lane.into) c.in_ok-lane.lane c.in_ok-lane.ensures.lane, tt);
      numbers = λ k has.
          number_moved (λ (r : Ran g.row.G-Seat.Denot). number_of (padded_value r.lane)) c.args.ran.items c.pop.new.self.items c.in-Some.first [] c.push.new.self.items c.in_ok-lane.lane k items made c.in_ok-lane.ensures.number (inr has);
    }

pub left-requires-in-Some-pop-clause-seat : goal.left-requires-in-Some-pop-clause-seat
left-requires-in-Some-pop-clause-seat g c κs within =
    (All-pop (λ (r : Ran g.row.G-Seat.Denot). g.G.Gate.IsSeatOf c.args.gate.now r.seat) c.loop-next.ran.items c.pop-in-loop-next.new.self.items (Some c.in-Some-pop.next) c.in-Some-pop.ensures.items c.loop-next.invariant.seats).1

pub left-requires-in-Some-pop-clause-lane : goal.left-requires-in-Some-pop-clause-lane
left-requires-in-Some-pop-clause-lane g c κs within =
    (All-pop (λ (r : Ran g.row.G-Seat.Denot). StaysAtSeat c.args.plain.now (g.G.Gate.about c.args.gate.now).lanes (g.G.Gate.told r.seat) (padded_value r.lane) r.end) c.loop-next.ran.items c.pop-in-loop-next.new.self.items (Some c.in-Some-pop.next)
    c.in-Some-pop.ensures.items c.loop-next.invariant.rest).1

pub loop-next-preserved : goal.loop-next-preserved
loop-next-preserved g c =
    let kept = c.loop-next.invariant in
    let p = c.args.plain.now in
    let lanes = (g.G.Gate.about c.args.gate.now).lanes in
    let items = c.in-Some-pop.ensures.items in
    let seats = All-pop (λ (r : Ran g.row.G-Seat.Denot). g.G.Gate.IsSeatOf c.args.gate.now r.seat) c.loop-next.ran.items c.pop-in-loop-next.new.self.items (Some c.in-Some-pop.next) items kept.seats in
    let rest = All-pop (λ (r : Ran g.row.G-Seat.Denot). StaysAtSeat p lanes (g.G.Gate.told r.seat) (padded_value r.lane) r.end) c.loop-next.ran.items c.pop-in-loop-next.new.self.items (Some c.in-Some-pop.next) items kept.rest in
    let joins = c.join.ensures in
    record {
      seat = joins.seat;
      seats = seats.0;
      rest = rest.0;
      lanes =
          subst (AllOfSeat p lanes (g.G.Gate.told c.join.new.into)) (sym c.in_ok-push-2.ensures.items)
          (joined_of_seat p lanes (g.G.Gate.told c.loop-next.into) (g.G.Gate.told c.in_ok-lane-2.seat) (g.G.Gate.told c.join.new.into) c.loop-next.lanes.items c.in_ok-lane-2.lane
          (record { lanes = joins.lanes; entries = joins.entries; ended_entries = joins.ended_entries; sees = joins.sees; ended_sees = joins.ended_sees }) kept.lanes c.in_ok-lane-2.ensures.lane);
      numbers = λ k has.
          number_moved (λ (r : Ran g.row.G-Seat.Denot). number_of (padded_value r.lane)) c.loop-next.ran.items c.pop-in-loop-next.new.self.items c.in-Some-pop.next c.loop-next.lanes.items c.push-in-Some-pop.new.self.items c.in_ok-lane-2.lane k items
          c.in_ok-push-2.ensures.items c.in_ok-lane-2.ensures.number (kept.numbers k has);
    }

pub returns-clause-numbers : goal.returns-clause-numbers
returns-clause-numbers g c = λ k has.
    let empty : c.loop-next.ran.items ≡ [] = search rules in
    number_done (λ (r : Ran g.row.G-Seat.Denot). number_of (padded_value r.lane)) c.loop-next.ran.items (numbers_of c.loop-next.lanes.items) k empty (c.loop-next.invariant.numbers k has)
