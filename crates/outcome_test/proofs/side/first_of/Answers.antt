use Rattle.std.proofs.Common.{◌+◌, subst, arith, ℕ}
use Rattle.std.specs.List.{slice_range}
use Rattle.schedule_model.specs.Outcomes.{outcome_of}
use Rattle.schedule_model.specs.Finds.{IsFirstResolved}
use Rattle.outcome_test.proofs.Groups.{first_later, none_later}
use Rattle.outcome_test.proofs.side.first_of.Goals as goal

pub returns-in-Resolved : goal.returns-in-Resolved
returns-in-Resolved g c =
    let end : ℕ = c.loop-done.done + c.min.result in
    first_later c.args.tests.now c.loop-done.done (c.loop-done.done + c.min.result) (omega arith) (omega arith) (outcome_of c.args.plain.now c.args.events c.args.fault.now) c.loop-done.invariant.tried c.in-Resolved.at c.in-Resolved.outcome
    (subst (IsFirstResolved (outcome_of c.args.plain.now c.args.events c.args.fault.now) (slice_range c.args.tests.now c.loop-done.done (c.loop-done.done + c.min.result))) c.in-Resolved.is c.in_ok-at.ensures)

pub loop-done-preserved : goal.loop-done-preserved
loop-done-preserved g c = record {
  within = omega arith;
  tried = none_later c.args.tests.now c.loop-done.done (c.loop-done.done + c.min.result) (omega arith) (omega arith) (outcome_of c.args.plain.now c.args.events c.args.fault.now) c.loop-done.invariant.tried
      (subst (IsFirstResolved (outcome_of c.args.plain.now c.args.events c.args.fault.now) (slice_range c.args.tests.now c.loop-done.done (c.loop-done.done + c.min.result))) c.in-NoneResolved.is c.in_ok-at.ensures);
}
