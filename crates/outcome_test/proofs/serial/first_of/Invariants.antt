use Rattle.std.proofs.Common.{◌≡◌}
use Rattle.std.specs.List.{AllWithin}
use Rattle.schedule_model.specs.declared.outcome.Outcome.TheVariants.{Unresolved}
use Rattle.schedule_model.specs.Outcomes.{outcome_of}
use Rattle.outcome_test.specs.Memos.{Remembers}
use Rattle.outcome_test.specs.Resumed.{AreUnder}
use Rattle.outcome_test.proofs.serial.first_of.Given as goal

abbrev pub invariant-loop-i : goal.invariant-loop-i
invariant-loop-i l = record {
  tried : AllWithin (λ test. outcome_of l.plain l.events l.fault test ≡ Unresolved) l.tests 0 l.i;
  remembers : Remembers (outcome_of l.plain l.events l.fault) l.memo;
  under : AreUnder l.plain l.events l.runs;
}
