use Rattle.std.proofs.Common.{◌∙◌}
use Rattle.outcome_test.proofs.Resumed.{kept_under}
use Rattle.outcome_test.proofs.resuming.pause_at.Goals as goal

pub returns-in-Ok-clause-kept : goal.returns-in-Ok-clause-kept
returns-in-Ok-clause-kept c =
    let ran = c.in_ok-run_to.ensures in
    kept_under c.args.plain.now c.args.events c.run_to.new.self c.args.paused.now.items c.keep.new.paused.items c.keep.ensures.kept
    (record { own = ran.own; whole = ran.whole; budget = ran.budget ∙ c.requires.run.budget }) c.requires.kept

pub returns-in-Err-clause-kept : goal.returns-in-Err-clause-kept
returns-in-Err-clause-kept c =
    let ran = c.in_ok-run_to.ensures in
    kept_under c.args.plain.now c.args.events c.run_to.new.self c.args.paused.now.items c.keep.new.paused.items c.keep.ensures.kept
    (record { own = ran.own; whole = ran.whole; budget = ran.budget ∙ c.requires.run.budget }) c.requires.kept
