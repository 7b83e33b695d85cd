-- What is left of a schedule, against the fault of its run.
use Rattle.std.proofs.Common.{◌≡◌, ℕ, List, ap, subst, ◌∙◌}
use Rattle.std.specs.Prelude.{Result, Ok, Err, IfOk}
use Rattle.vm_model.specs.declared.ends.Fault.{Fault}
use Rattle.vm_model.specs.Program.{PlainProgram}
use Rattle.schedule_model.specs.declared.outcome.Outcome.{Outcome}
use Rattle.schedule_model.specs.Outcomes.{outcome_of}
use Rattle.schedule_model.specs.Laws.{SameFaultsAreEqual}
use Rattle.switch_reducer.specs.declared.fault.ReduceFault.{ReduceFault}
use Rattle.switch_reducer.specs.declared.search.Reduced.{Reduced}
use Rattle.switch_reducer.specs.Reduced.{IsReduced}
use Rattle.switch_reducer.specs.Search.{reduced_schedule, tests_needed, unresolved_count}
use Rattle.program_reducer.specs.Reductions.{IsLeftOf}
use Rattle.program_reducer.proofs.Alike.{ends_alike}

module _ (law : SameFaultsAreEqual) (p : PlainProgram) (events : ℕ) (failing : List ℕ) (fault : Fault) (outcome : List ℕ → Outcome) (same : outcome ≡ outcome_of p events fault) where
  pub left_of : (result : Result Reduced ReduceFault)
      → IfOk result (λ r. IsReduced outcome failing r.schedule)
      → IfOk result (λ r. r.schedule ≡ reduced_schedule outcome failing)
      → IfOk result (λ r. r.asked ≡ tests_needed outcome failing)
      → IfOk result (λ r. r.unresolved ≡ unresolved_count outcome failing)
      → IfOk result (IsLeftOf p events failing fault)
  left_of (Ok r) reduced last made open' =
      let is : IsReduced (outcome_of p events fault) failing r.schedule = subst (λ (o : List ℕ → Outcome). IsReduced o failing r.schedule) same reduced in
      record {
        ends_alike = ends_alike law p r.schedule events fault is.fails;
        reduced = is;
        last = last ∙ ap (λ (o : List ℕ → Outcome). reduced_schedule o failing) same;
        made = made ∙ ap (λ (o : List ℕ → Outcome). tests_needed o failing) same;
        left_open = open' ∙ ap (λ (o : List ℕ → Outcome). unresolved_count o failing) same;
      }
  left_of (Err e) reduced last made open' = tt
