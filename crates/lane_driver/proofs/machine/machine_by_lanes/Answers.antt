use Rattle.std.proofs.Common.{◌≡◌, ℕ, ◌<◌, ◌%◌, List, map, length, None, replicate, arith, ap, sym, ◌∙◌, subst}
use Rattle.std.specs.Prelude.{Contains}
use Rattle.std.proofs.Math.Nat.{mod-lt}
use Rattle.crossbeam_utils.specs.Padded.{padded_value}
use Rattle.lane_driver.specs.Joined.{number_of, numbers_of}
use Rattle.lane_driver.specs.Gathered.{FitFrom}
use Rattle.lane_driver.specs.declared.run.Ran.{Ran}
use Rattle.lane_driver.specs.declared.run.Work.{Work}
use Rattle.lane_driver.proofs.Gathering.{table_fits}
use Rattle.lane_driver.proofs.Joining.{same_numbers, seat_has}
use Rattle.lane_driver.proofs.Placing.{place_lanes_length}
use Rattle.lane_driver.proofs.machine.machine_by_lanes.Goals as goal

pub close-world-requires-clause-all : goal.close-world-requires-clause-all
close-world-requires-clause-all g c = λ lane low.
    let works = c.in_ok-works.works in
    let ran = c.in_ok-ran.ran in
    let f = λ (w : Work g.row.G-Seat.Denot). number_of (padded_value w.lane) in
    let h = λ (r : Ran g.row.G-Seat.Denot). number_of (padded_value r.lane) in
    let same : map h ran.items ≡ map f works.items = same_numbers f h works.items ran.items (omega (arith, ran.ok.0, works.ok.0, c.in_ok-ran.ensures.len)) (λ i r w within. c.in_ok-ran.ensures.numbers i r w (omega (arith, within, works.ok.0))) in
    let there : Contains (numbers_of c.in_ok-all.all.items) lane = c.in_ok-all.ensures.numbers lane (subst (λ (ns : List ℕ). Contains ns lane) (sym same) (c.in_ok-works.ensures.numbers lane (omega (arith, low, c.requires.of)))) in
    seat_has c.args.plain.now (g.G.Gate.about c.args.gate).lanes (g.G.Gate.told c.in_ok-all.seat) c.in_ok-all.all.items lane c.in_ok-all.ensures.lanes there

pub assemble-requires-clause-size : goal.assemble-requires-clause-size
assemble-requires-clause-size g c = ap length c.in_ok-table.ensures.table ∙ place_lanes_length c.in_ok-all.all.items (replicate 64 None)

pub assemble-requires-clause-fit : goal.assemble-requires-clause-fit
assemble-requires-clause-fit g c =
    let p = c.args.plain.now in
    let lanes = (g.G.Gate.about c.args.gate).lanes in
    let history = c.close-world.result.history in
    let some : 0 < lanes = omega (arith, c.requires.some, c.requires.of) in
    let works = c.in_ok-works.works in
    let ran = c.in_ok-ran.ran in
    let f = λ (w : Work g.row.G-Seat.Denot). number_of (padded_value w.lane) in
    let h = λ (r : Ran g.row.G-Seat.Denot). number_of (padded_value r.lane) in
    let same : map h ran.items ≡ map f works.items = same_numbers f h works.items ran.items (omega (arith, ran.ok.0, works.ok.0, c.in_ok-ran.ensures.len)) (λ i r w within. c.in_ok-ran.ensures.numbers i r w (omega (arith, within, works.ok.0))) in
    subst (FitFrom p history 0) (sym c.in_ok-table.ensures.table)
    (table_fits p lanes (g.G.Gate.told c.in_ok-all.seat) history c.in_ok-all.all.items
    (λ t. record { entries = c.close-world.ensures.entries (t % lanes) (mod-lt t some); targets = c.close-world.ensures.targets })
    (λ t. let low : t % lanes < lanes = mod-lt t some in c.in_ok-all.ensures.numbers (t % lanes) (subst (λ (ns : List ℕ). Contains ns (t % lanes)) (sym same) (c.in_ok-works.ensures.numbers (t % lanes) (omega (arith, low, c.requires.of)))))
    c.in_ok-all.ensures.lanes c.in_ok-table.ensures.threads)
