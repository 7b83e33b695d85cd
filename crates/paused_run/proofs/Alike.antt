-- Schedules that agree below a clock have the same first events.
use Rattle.std.proofs.Common.{◌≡◌, ℕ, zero, suc, ◌+◌, ◌≤◌, List, ◌∷◌, Option, Some, None, length, take, refl, ap, ◌∙◌, arith}
use Rattle.vm_model.specs.declared.ends.End.{End}
use Rattle.vm_model.specs.Program.{PlainProgram}
use Rattle.machine_model.specs.Machine.{MachineState, end_of, start_machine, turn}
use Rattle.machine_model.specs.Ring.{go_scheduled, pick, schedule_threads, scheduled_from, switches_at}
use Rattle.schedule_model.specs.Schedules.{Agree}
use Rattle.thread_driver.proofs.Recorded.{length-more}

module _ (p : PlainProgram) (budget clock : ℕ) (xs ys : List ℕ) (agree : Agree clock xs ys) where
  front_from : (n k : ℕ) (m : MachineState) (t : ℕ) → length m.history + k ≤ clock → take k (scheduled_from p xs budget m t n) ≡ take k (scheduled_from p ys budget m t n)
  unfolding scheduled_from
  front_from n zero m t h = refl
  front_from zero (suc k) m t h = refl
  front_from (suc n) (suc k) m t h = by_end (end_of p m budget) (λ m' u g. front_from n k m' u g)
    where
      by_turn : (u : ℕ) (next : Option MachineState) → turn p m u ≡ next → ((m' : MachineState) (u : ℕ) → length m'.history + k ≤ clock → take k (scheduled_from p xs budget m' u n) ≡ take k (scheduled_from p ys budget m' u n))
          → take (suc k) (go_scheduled None (Some u) (λ _. next) (λ m' u. scheduled_from p xs budget m' u n)) ≡ take (suc k) (go_scheduled None (Some u) (λ _. next) (λ m' u. scheduled_from p ys budget m' u n))
      by_turn u None e later = refl
      by_turn u (Some m') e later = ap (λ l. u ∷ l) (later m' u (omega (arith, h, length-more p m m' u e)))

      by_pick : (picked : Option ℕ) → ((m' : MachineState) (u : ℕ) → length m'.history + k ≤ clock → take k (scheduled_from p xs budget m' u n) ≡ take k (scheduled_from p ys budget m' u n))
          → take (suc k) (go_scheduled None picked (turn p m) (λ m' u. scheduled_from p xs budget m' u n)) ≡ take (suc k) (go_scheduled None picked (turn p m) (λ m' u. scheduled_from p ys budget m' u n))
      by_pick None later = refl
      by_pick (Some u) later = by_turn u (turn p m u) refl later

      by_end : (e : Option End) → ((m' : MachineState) (u : ℕ) → length m'.history + k ≤ clock → take k (scheduled_from p xs budget m' u n) ≡ take k (scheduled_from p ys budget m' u n))
          → take (suc k) (go_scheduled e (pick p m t (switches_at xs (length m.history))) (turn p m) (λ m' u. scheduled_from p xs budget m' u n)) ≡ take (suc k) (go_scheduled e (pick p m t (switches_at ys (length m.history))) (turn p m) (λ m' u. scheduled_from p ys budget m' u n))
      by_end (Some e) later = refl
      by_end None later =
          ap (λ j. take (suc k) (go_scheduled None (pick p m t j) (turn p m) (λ m' u. scheduled_from p xs budget m' u n))) (agree (length m.history) (omega (arith, h)))
          ∙ by_pick (pick p m t (switches_at ys (length m.history))) later

  pub same_first : take clock (schedule_threads p xs budget) ≡ take clock (schedule_threads p ys budget)
  same_first = front_from budget clock (start_machine p) 0 (omega arith)
