use Rattle.std.proofs.Common.{◌≡◌}
use Rattle.std.specs.List.{AllWithin}
use Rattle.schedule_model.specs.declared.outcome.Outcome.TheVariants.{Unresolved}
use Rattle.schedule_model.specs.Outcomes.{outcome_of}
use Rattle.outcome_test.proofs.side.first_shown.Given as goal

abbrev pub invariant-loop-i : goal.invariant-loop-i
invariant-loop-i l = AllWithin (λ test. outcome_of l.plain l.events l.fault test ≡ Unresolved) l.tests 0 l.i
