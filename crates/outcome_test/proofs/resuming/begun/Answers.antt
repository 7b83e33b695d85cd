use Rattle.std.proofs.Common.{subst, sym}
use Rattle.schedule_model.specs.Schedules.{Agree}
use Rattle.paused_run.specs.Pauses.{clock_of, PausedRun}
use Rattle.outcome_test.proofs.Resumed.{holds_of}
use Rattle.outcome_test.proofs.resuming.begun.Goals as goal

pub copy_for-requires-clause-agree : goal.copy_for-requires-clause-agree
copy_for-requires-clause-agree c =
    let Agrees : PausedRun → Type 0 = λ r. Agree (clock_of r) r.times c.args.times.items in
    let r = c.index-paused-i.result in
    subst Agrees (sym c.index-paused-i.is) (holds_of Agrees c.args.from c.args.paused.now c.in-Some.i c.in-Some.is c.requires.agrees r)
