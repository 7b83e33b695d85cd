-- What the search found, against the fault of a program's run.
use Rattle.std.proofs.Common.{◌≡◌, ℕ, ◌≤◌, List, length, ap, subst, ◌∙◌, sym}
use Rattle.std.specs.Prelude.{Result, Ok, Err, IfOk, IfErr}
use Rattle.vm_model.specs.declared.ends.Fault.{Fault}
use Rattle.vm_model.specs.Program.{PlainProgram}
use Rattle.schedule_model.specs.declared.isolated.Isolated.{Isolated}
use Rattle.schedule_model.specs.declared.outcome.Outcome.{Outcome}
use Rattle.schedule_model.specs.Outcomes.{outcome_of}
use Rattle.outcome_test.specs.Rounds.{RoundsState}
use Rattle.dd_isolator.specs.declared.fault.IsolateFault.{IsolateFault}
use Rattle.dd_isolator.specs.Shifts.{padded, units}
use Rattle.dd_isolator.specs.OneMinimal.{IsOneMinimal}
use Rattle.dd_isolator.specs.Search.{last_pair, tests_needed, unresolved_count}
use Rattle.program_isolator.specs.Isolations.{IsFoundBetween}

-- new rounds mean the outcomes of the program's runs
pub rounds_mean : (s : RoundsState) (p : PlainProgram) (events : ℕ) (fault : Fault) → s ≡ record { program = p; fault = fault; events = events; resolved = 0; unresolved = 0 } → outcome_of s.program s.events s.fault ≡ outcome_of p events fault
rounds_mean s p events fault e = ap (λ (x : RoundsState). outcome_of x.program x.events x.fault) e

module _ (p : PlainProgram) (events : ℕ) (passing failing : List ℕ) (fault : Fault) (outcome : List ℕ → Outcome) (same : outcome ≡ outcome_of p events fault) where
  pub found_between : (result : Result Isolated IsolateFault)
      → IfOk result (λ r. IsOneMinimal outcome (padded events passing failing) (padded events failing passing) r.pass r.fail)
      → IfOk result (λ r. (r.pass, r.fail) ≡ last_pair outcome (padded events passing failing) (padded events failing passing))
      → IfOk result (λ r. r.units ≡ units r.pass r.fail)
      → IfOk result (λ r. r.asked ≡ tests_needed outcome (padded events passing failing) (padded events failing passing))
      → IfOk result (λ r. r.unresolved ≡ unresolved_count outcome (padded events passing failing) (padded events failing passing))
      → IfOk result (IsFoundBetween p events passing failing fault)
  found_between (Ok r) isolated last apart made open' = record {
    isolated = subst (λ (o : List ℕ → Outcome). IsOneMinimal o (padded events passing failing) (padded events failing passing) r.pass r.fail) same isolated;
    last = last ∙ ap (λ (o : List ℕ → Outcome). last_pair o (padded events passing failing) (padded events failing passing)) same;
    units_apart = apart;
    made = made ∙ ap (λ (o : List ℕ → Outcome). tests_needed o (padded events passing failing) (padded events failing passing)) same;
    left_open = open' ∙ ap (λ (o : List ℕ → Outcome). unresolved_count o (padded events passing failing) (padded events failing passing)) same;
  }
  found_between (Err e) isolated last apart made open' = tt
