use Rattle.std.proofs.Common.{◌<◌, ℕ, length, subst, sym}
use Rattle.std.specs.Prelude.{IfSome, Option}
use Rattle.std.specs.List.{HoldsAt}
use Rattle.schedule_model.specs.Schedules.{Agree}
use Rattle.paused_run.specs.Pauses.{clock_of, PausedRun}
use Rattle.outcome_test.proofs.Resumed.{found_at, some_of}
use Rattle.outcome_test.proofs.resuming.latest.Goals as goal
use Rattle.outcome_test.proofs.resuming.latest.Goals.{then-goes_on, else-goes_on}

pub loop-i-preserved : goal.loop-i-preserved
loop-i-preserved c =
    let runs = c.args.paused.now in
    let Agrees : PausedRun → Type 0 = λ r. Agree (clock_of r) r.times c.args.times.now in
    elim c.if-goes_on.branch [
      | then-goes_on w ↦ record {
        within = some_of (λ i. i < length runs) c.if-goes_on.found c.loop-i.i w.found-is c.loop-i-test.true;
        agrees = some_of (HoldsAt Agrees runs) c.if-goes_on.found c.loop-i.i w.found-is (found_at Agrees runs c.loop-i.i c.index-paused-i.result c.loop-i-test.true c.index-paused-i.is (c.goes_on.ensures w.if-goes_on.true));
      }
      | else-goes_on w ↦ record {
        within = subst (λ (o : Option ℕ). IfSome o (λ i. i < length runs)) (sym w.found-is) c.loop-i.invariant.within;
        agrees = subst (λ (o : Option ℕ). IfSome o (HoldsAt Agrees runs)) (sym w.found-is) c.loop-i.invariant.agrees;
      }
    ]
