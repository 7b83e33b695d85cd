use Rattle.std.proofs.Common.{rules, ◌≡◌, ◌++◌, ℕ, subst}
use Rattle.gate_core.specs.Histories.{entries_of_lane}
use Rattle.replay_gate.specs.Answers.{FitsSo, added}
use Rattle.machine_model.specs.Declarations.{Declarations}
use Rattle.replay_gate.proofs.Lists.{has_contained}
use Rattle.replay_gate.proofs.Taken.{owns_so, lanes_so, later_so}
use Rattle.replay_gate.proofs.gate.ReplayGate.try_turn.Goals as goal

pub returns-clause-own : goal.returns-clause-own
returns-clause-own c = λ lane h.
    let v = c.args.seat.now.view in
    let w = c.turn.new.place.me.0 in
    let count : v.lane_count ≡ c.args.self.now.terms.lanes = search rules in
    subst (λ (n : ℕ). entries_of_lane n lane w.seen ≡ entries_of_lane n lane v.seen ++ added n lane c.args.thread c.args.op c.turn.result) count
    (owns_so v w c.args.thread c.args.op c.turn.result (search rules) lane (has_contained _ _ h))

pub returns-clause-lanes : goal.returns-clause-lanes
returns-clause-lanes c = lanes_so c.args.seat.now.view c.turn.new.place.me.0 c.args.thread c.args.op c.turn.result (search rules)

pub returns-clause-later : goal.returns-clause-later
returns-clause-later c = later_so c.args.seat.now.view c.turn.new.place.me.0 c.args.thread c.args.op c.turn.result (search rules)

pub returns-clause-fits : goal.returns-clause-fits
returns-clause-fits c =
    let start : c.args.seat.now.view.start ≡ c.args.self.now.terms.start = search rules in
    subst (λ (d : Declarations). FitsSo d c.args.op c.turn.result) start (search rules)
