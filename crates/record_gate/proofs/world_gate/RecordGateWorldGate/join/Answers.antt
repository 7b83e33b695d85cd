use Rattle.std.proofs.Common.{sym, ◌∙◌}
use Rattle.record_gate.proofs.Handed.{closed_target, joined_into, joined_ended}
use Rattle.record_gate.proofs.world_gate.RecordGateWorldGate.join.Goals as goal

pub returns-clause-entries : goal.returns-clause-entries
returns-clause-entries c = λ lane there. joined_into c.args.into.now.view c.args.ended.view c.join.new.into.view lane c.join.ensures.both there c.join.ensures.own.0

pub returns-clause-ended_entries : goal.returns-clause-ended_entries
returns-clause-ended_entries c =
    λ lane there. joined_ended c.args.into.now.view c.args.ended.view c.join.new.into.view lane (c.requires.ended.told.lanes ∙ sym c.requires.seat.told.lanes) c.join.ensures.both there c.join.ensures.own.1

pub returns-clause-sees : goal.returns-clause-sees
returns-clause-sees c = λ t target found. closed_target c.args.into.now.view.seen c.join.new.into.view.seen t target c.join.ensures.seen.0 found

pub returns-clause-ended_sees : goal.returns-clause-ended_sees
returns-clause-ended_sees c = λ t target found. closed_target c.args.ended.view.seen c.join.new.into.view.seen t target c.join.ensures.seen.1 found
