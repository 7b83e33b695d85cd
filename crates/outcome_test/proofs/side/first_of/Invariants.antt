use Rattle.std.proofs.Common.{◌≡◌, ◌≤◌, ◌-◌, length}
use Rattle.std.specs.List.{AllWithin}
use Rattle.schedule_model.specs.declared.outcome.Outcome.TheVariants.{Unresolved}
use Rattle.schedule_model.specs.Outcomes.{outcome_of}
use Rattle.outcome_test.proofs.side.first_of.Given as goal

abbrev pub invariant-loop-done : goal.invariant-loop-done
invariant-loop-done g l = record {
  within : l.done ≤ length l.tests;
  tried : AllWithin (λ test. outcome_of l.plain l.events l.fault test ≡ Unresolved) l.tests 0 l.done;
}

abbrev pub decreases-loop-done : goal.decreases-loop-done
decreases-loop-done g l = length l.tests - l.done
