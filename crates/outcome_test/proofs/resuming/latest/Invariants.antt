use Rattle.std.proofs.Common.{◌<◌, length}
use Rattle.std.specs.Prelude.{IfSome}
use Rattle.std.specs.List.{HoldsAt}
use Rattle.schedule_model.specs.Schedules.{Agree}
use Rattle.paused_run.specs.Pauses.{clock_of}
use Rattle.outcome_test.proofs.resuming.latest.Given as goal

abbrev pub invariant-loop-i : goal.invariant-loop-i
invariant-loop-i l = record {
  within : IfSome l.found (λ i. i < length l.paused);
  agrees : IfSome l.found (HoldsAt (λ r. Agree (clock_of r) r.times l.times) l.paused);
}
