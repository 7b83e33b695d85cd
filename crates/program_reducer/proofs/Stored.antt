-- What is left of a schedule can be stored where the schedule can.
use Rattle.std.proofs.Common.{ℕ, ◌≤◌, List, arith}
use Rattle.std.specs.Prelude.{All}
use Rattle.vm_model.specs.declared.ends.Fault.{Fault}
use Rattle.vm_model.specs.Program.{PlainProgram}
use Rattle.schedule_model.specs.Outcomes.{outcome_of}
use Rattle.switch_schedule.specs.Texts.{AreTimes}
use Rattle.switch_reducer.specs.declared.search.Reduced.{Reduced}
use Rattle.switch_reducer.proofs.Within.{reduced_no_longer, reduced_within}
use Rattle.program_reducer.specs.Reductions.{IsLeftOf}

module _ (p : PlainProgram) (events : ℕ) (failing : List ℕ) (fault : Fault) (found : Reduced) (left : IsLeftOf p events failing fault found) (times : AreTimes events failing) where
  pub times_left : AreTimes events found.schedule
  times_left = record {
    few = omega (arith, reduced_no_longer (outcome_of p events fault) failing found.schedule left.reduced, times.few);
    short = reduced_within (outcome_of p events fault) failing found.schedule 9999999 left.reduced times.short;
    within = reduced_within (outcome_of p events fault) failing found.schedule events left.reduced times.within;
  }

  pub small_left : events ≤ 1048576 → All (λ time. time ≤ 1048576) found.schedule
  small_left limit = λ k d h. omega (arith, limit, times_left.within k d h)
