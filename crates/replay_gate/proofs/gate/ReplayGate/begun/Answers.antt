use Rattle.std.proofs.Common.{rules, ◌≡◌, ℕ, subst}
use Rattle.gate_core.specs.Histories.{entries_of_lane}
use Rattle.machine_model.specs.Declarations.{Declarations}
use Rattle.replay_gate.specs.Answers.{ClassSo}
use Rattle.replay_gate.proofs.Lists.{has_contained}
use Rattle.replay_gate.proofs.Taken.{begun_lanes_so, begun_later_so, begun_owns_so, class_so, target_so}
use Rattle.replay_gate.proofs.gate.ReplayGate.begun.Goals as goal

pub returns-clause-lanes : goal.returns-clause-lanes
returns-clause-lanes c = begun_lanes_so c.args.seat.now.view c.begun.new.place.me.0 c.args.thread c.begun.result (search rules)

pub returns-clause-later : goal.returns-clause-later
returns-clause-later c = begun_later_so c.args.seat.now.view c.begun.new.place.me.0 c.args.thread c.begun.result (search rules)

pub returns-clause-target : goal.returns-clause-target
returns-clause-target c = target_so c.args.seat.now.view c.begun.new.place.me.0 c.args.thread c.begun.result (search rules)

pub returns-clause-own : goal.returns-clause-own
returns-clause-own c = λ lane h.
    let v = c.args.seat.now.view in
    let w = c.begun.new.place.me.0 in
    let count : v.lane_count ≡ c.args.self.now.terms.lanes = search rules in
    subst (λ (n : ℕ). entries_of_lane n lane w.seen ≡ entries_of_lane n lane v.seen) count (begun_owns_so v w c.args.thread c.begun.result (search rules) lane (has_contained _ _ h))

pub returns-clause-thread : goal.returns-clause-thread
returns-clause-thread c =
    let v = c.args.seat.now.view in
    let start : v.start ≡ c.args.self.now.terms.start = search rules in
    subst (λ (d : Declarations). ClassSo d c.begun.result) start (class_so v c.begun.new.place.me.0 c.args.thread c.begun.result (search rules))
