-- A schedule that fails ends in the very fault.
use Rattle.std.proofs.Common.{◌≡◌, ℕ, Bool, true, false, cond, List, refl, ap}
use Rattle.std.specs.Prelude.{Option, Some, None}
use Rattle.vm_model.specs.declared.ends.End.{End}
use Rattle.vm_model.specs.declared.ends.End.TheVariants as end
use Rattle.vm_model.specs.declared.ends.Fault.{Fault}
use Rattle.vm_model.specs.Program.{PlainProgram}
use Rattle.machine_model.specs.Machine.{run}
use Rattle.machine_model.specs.Ring.{schedule_threads}
use Rattle.schedule_model.specs.declared.outcome.Outcome.TheVariants.{Fail, Unresolved}
use Rattle.schedule_model.specs.Outcomes.{end_under, is_same_fault, outcome_of, outcome_of_end}
use Rattle.schedule_model.specs.Laws.{SameFaultsAreEqual}
use Rattle.program_isolator.specs.Isolations.{EndsSo}

module _ (law : SameFaultsAreEqual) where
  fails_by : (f : Fault) (e : Option End) → outcome_of_end f e ≡ Fail → e ≡ Some (end.Fault f)
  fails_by f None e = absurd (cc)
  fails_by f (Some end.Done) e = absurd (cc)
  fails_by f (Some (end.Fault g)) e = by_test (is_same_fault g f) refl e
    where
      by_test : (b : Bool) → is_same_fault g f ≡ b → cond b Fail Unresolved ≡ Fail → Some (end.Fault g) ≡ Some (end.Fault f)
      by_test true t h = let same : g ≡ f = (law g f).0 t in ap (λ (x : Fault). Some (end.Fault x)) same
      by_test false t h = absurd (cc)
  fails_by f (Some end.Stuck) e = absurd (cc)
  fails_by f (Some end.Spent) e = absurd (cc)

  pub ends_alike : (p : PlainProgram) (times : List ℕ) (events : ℕ) (f : Fault) → outcome_of p events f times ≡ Fail → EndsSo p events times (end.Fault f)
  unfolding outcome_of
  ends_alike p times events f e = fails_by f (end_under p events (run p (schedule_threads p times events))) e
