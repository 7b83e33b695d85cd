use Rattle.std.proofs.Common.{length, ap, ◌∙◌}
use Rattle.std.proofs.lemmas.Slice.Zip.{AllZip-long}
use Rattle.schedule_model.specs.Outcomes.{outcome_of}
use Rattle.outcome_test.specs.Rounds.{Shows}
use Rattle.outcome_test.proofs.side.group.Goals as goal

pub first_shown-requires-clause-same : goal.first_shown-requires-clause-same
first_shown-requires-clause-same g c = ap length c.as_slice.ensures.value ∙ AllZip-long (Shows (outcome_of c.args.plain.now c.args.events c.args.fault.now)) c.args.tests.now c.in_ok-shown.shown.items c.in_ok-shown.ensures
