-- Schedules that agree below the number of events have one run.
use Rattle.std.proofs.Common.{◌≡◌, ℕ, zero, suc, ◌+◌, ◌≤◌, List, ◌∷◌, Option, Some, None, length, refl, ap, ◌∙◌, arith}
use Rattle.vm_model.specs.declared.ends.End.{End}
use Rattle.vm_model.specs.Program.{PlainProgram}
use Rattle.machine_model.specs.Machine.{MachineState, end_of, start_machine, turn}
use Rattle.machine_model.specs.Ring.{go_scheduled, pick, schedule_threads, scheduled_from, switches_at}
use Rattle.machine_model.specs.Machine.{run}
use Rattle.vm_model.specs.declared.ends.Fault.{Fault}
use Rattle.schedule_model.specs.Outcomes.{ReadsCounts}
use Rattle.schedule_model.specs.Outcomes.{end_under, outcome_of, outcome_of_end}
use Rattle.thread_driver.proofs.Recorded.{length-more}
use Rattle.schedule_model.specs.Schedules.{Agree}

module _ (p : PlainProgram) (budget : ℕ) (xs ys : List ℕ) (agree : Agree budget xs ys) where
  same_from : (n : ℕ) (m : MachineState) (t : ℕ) → length m.history + n ≤ budget → scheduled_from p xs budget m t n ≡ scheduled_from p ys budget m t n
  unfolding scheduled_from
  same_from zero m t h = refl
  same_from (suc n) m t h = by_end (end_of p m budget) (λ m' u k. same_from n m' u k)
    where
      by_turn : (u : ℕ) (next : Option MachineState) → turn p m u ≡ next → ((m' : MachineState) (u : ℕ) → length m'.history + n ≤ budget → scheduled_from p xs budget m' u n ≡ scheduled_from p ys budget m' u n)
          → go_scheduled None (Some u) (λ _. next) (λ m' u. scheduled_from p xs budget m' u n) ≡ go_scheduled None (Some u) (λ _. next) (λ m' u. scheduled_from p ys budget m' u n)
      by_turn u None e later = refl
      by_turn u (Some m') e later = ap (λ l. u ∷ l) (later m' u (omega (arith, length-more p m m' u e)))

      by_pick : (picked : Option ℕ) → ((m' : MachineState) (u : ℕ) → length m'.history + n ≤ budget → scheduled_from p xs budget m' u n ≡ scheduled_from p ys budget m' u n)
          → go_scheduled None picked (turn p m) (λ m' u. scheduled_from p xs budget m' u n) ≡ go_scheduled None picked (turn p m) (λ m' u. scheduled_from p ys budget m' u n)
      by_pick None later = refl
      by_pick (Some u) later = by_turn u (turn p m u) refl later

      by_end : (e : Option End) → ((m' : MachineState) (u : ℕ) → length m'.history + n ≤ budget → scheduled_from p xs budget m' u n ≡ scheduled_from p ys budget m' u n)
          → go_scheduled e (pick p m t (switches_at xs (length m.history))) (turn p m) (λ m' u. scheduled_from p xs budget m' u n) ≡ go_scheduled e (pick p m t (switches_at ys (length m.history))) (turn p m) (λ m' u. scheduled_from p ys budget m' u n)
      by_end (Some e) later = refl
      by_end None later =
          ap (λ k. go_scheduled None (pick p m t k) (turn p m) (λ m' u. scheduled_from p xs budget m' u n)) (agree (length m.history) (omega arith))
          ∙ by_pick (pick p m t (switches_at ys (length m.history))) later

  pub same_threads : schedule_threads p xs budget ≡ schedule_threads p ys budget
  same_threads = same_from budget (start_machine p) 0 (omega arith)

pub reads_counts : (p : PlainProgram) (events : ℕ) (fault : Fault) → ReadsCounts events (outcome_of p events fault)
unfolding outcome_of
reads_counts p events fault xs ys agree = ap (λ (ts : List ℕ). outcome_of_end fault (end_under p events (run p ts))) (same_threads p events xs ys agree)
