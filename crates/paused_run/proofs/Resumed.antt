-- A run goes on from the machine after its first events.
use Rattle.std.proofs.Common.{◌≡◌, ℕ, zero, suc, ◌-◌, ◌≤◌, List, [], ◌∷◌, ◌++◌, Option, Some, None, length, take, drop, get_or, refl, ap, sym, ◌∙◌, arith}
use Rattle.std.proofs.lemmas.List.{append_assoc, get_or-take, length-append, length-take, take-append-drop}
use Rattle.std.proofs.Math.Seq.{get_or-append_seam, take-append_seam}
use Rattle.vm_model.specs.declared.ends.End.{End}
use Rattle.vm_model.specs.Program.{PlainProgram}
use Rattle.machine_model.specs.Machine.{MachineState, end_of, run, run_from, start_machine, threads_of, turn, IsRun}
use Rattle.machine_model.specs.Ring.{go_scheduled, pick, schedule_threads, scheduled_from, switches_at}
use Rattle.machine_model.proofs.Runs.{IsRun-more}
use Rattle.projection_laws.proofs.Alone.{column}
use Rattle.schedule_model.specs.Schedules.{Agree}
use Rattle.thread_driver.proofs.Recorded.{column-more, Follows, follows-ended, follows-more, length-more, length-threads_of}
use Rattle.switch_schedule.specs.Derivations.{thread_before}
use Rattle.paused_run.specs.Pauses.{IsAfterFirst}
use Rattle.paused_run.proofs.Alike.{same_first}

some_machine : (a b : MachineState) → Some a ≡ Some b → a ≡ b
some_machine a b e = cc

module _ (p : PlainProgram) (times : List ℕ) (budget : ℕ) where
  -- what is left of these threads after the first k of them are those of a run from the machine after them
  abbrev GoesOn : ℕ → ℕ → MachineState → MachineState → ℕ → List ℕ → Type 0
  GoesOn n k m₀ m t threads = k ≤ length threads → run_from p m₀ (take k threads) ≡ Some m → drop k threads ≡ scheduled_from p times budget m (get_or (t ∷ threads) k 0) (n - k)

  abbrev GoOn : ℕ → ℕ → MachineState → Type 0
  GoOn n k m = (m' : MachineState) (u : ℕ) → GoesOn n k m' m u (scheduled_from p times budget m' u n)

  left_from : (n k : ℕ) (m₀ m : MachineState) (t : ℕ) → GoesOn n k m₀ m t (scheduled_from p times budget m₀ t n)
  unfolding scheduled_from
  left_from n zero m₀ m t h e = let all : n ≡ n - 0 = omega arith in ap (λ (k : MachineState). scheduled_from p times budget k t n) (some_machine m₀ m e) ∙ ap (scheduled_from p times budget m t) all
  left_from zero (suc k) m₀ m t h e = absurd (omega (arith, h))
  left_from (suc n) (suc k) m₀ m t h e = by_end (end_of p m₀ budget) (λ m' u. left_from n k m' m u) h e
    where
      by_turn : (u : ℕ) (next : Option MachineState) → turn p m₀ u ≡ next → GoOn n k m → GoesOn (suc n) (suc k) m₀ m t (go_scheduled None (Some u) (λ _. next) (λ m' u. scheduled_from p times budget m' u n))
      by_turn u None turned later h e = let none : None ≡ Some m = sym (rw turned refl) ∙ e in cc
      by_turn u (Some m') turned later h e =
          let less : n - k ≡ suc n - suc k = omega arith in
          later m' u (omega (arith, h)) (sym (rw turned refl) ∙ e) ∙ ap (scheduled_from p times budget m (get_or (u ∷ scheduled_from p times budget m' u n) k 0)) less

      by_pick : (picked : Option ℕ) → GoOn n k m → GoesOn (suc n) (suc k) m₀ m t (go_scheduled None picked (turn p m₀) (λ m' u. scheduled_from p times budget m' u n))
      by_pick None later h e = absurd (omega (arith, h))
      by_pick (Some u) later h e = by_turn u (turn p m₀ u) refl later h e

      by_end : (o : Option End) → GoOn n k m → GoesOn (suc n) (suc k) m₀ m t (go_scheduled o (pick p m₀ t (switches_at times (length m₀.history))) (turn p m₀) (λ m' u. scheduled_from p times budget m' u n))
      by_end (Some x) later h e = absurd (omega (arith, h))
      by_end None later h e = by_pick (pick p m₀ t (switches_at times (length m₀.history))) later h e

  -- no run is longer than its budget
  few_from : (n : ℕ) (m : MachineState) (t : ℕ) → length (scheduled_from p times budget m t n) ≤ n
  unfolding scheduled_from
  few_from zero m t = omega arith
  few_from (suc n) m t = by_end (end_of p m budget) (λ m' u. few_from n m' u)
    where
      by_turn : (u : ℕ) (next : Option MachineState) → ((m' : MachineState) (u : ℕ) → length (scheduled_from p times budget m' u n) ≤ n) → length (go_scheduled None (Some u) (λ _. next) (λ m' u. scheduled_from p times budget m' u n)) ≤ suc n
      by_turn u None later = omega arith
      by_turn u (Some m') later = omega (arith, later m' u)

      by_pick : (picked : Option ℕ) → ((m' : MachineState) (u : ℕ) → length (scheduled_from p times budget m' u n) ≤ n) → length (go_scheduled None picked (turn p m) (λ m' u. scheduled_from p times budget m' u n)) ≤ suc n
      by_pick None later = omega arith
      by_pick (Some u) later = by_turn u (turn p m u) later

      by_end : (o : Option End) → ((m' : MachineState) (u : ℕ) → length (scheduled_from p times budget m' u n) ≤ n) → length (go_scheduled o (pick p m t (switches_at times (length m.history))) (turn p m) (λ m' u. scheduled_from p times budget m' u n)) ≤ suc n
      by_end (Some x) later = omega arith
      by_end None later = by_pick (pick p m t (switches_at times (length m.history))) later

  pub whole-few : length (schedule_threads p times budget) ≤ budget
  whole-few = few_from budget (start_machine p) 0

  pub first-follows : (m : MachineState) (t : ℕ) → IsAfterFirst p times budget m t → Follows p times budget (schedule_threads p times budget) m t
  first-follows m t f =
      let whole = schedule_threads p times budget in
      let n : ℕ = length m.history in
      record {
        within = omega (arith, f.within, whole-few);
        threads =
            sym (take-append-drop n whole)
            ∙ ap (λ (ts : List ℕ). ts ++ drop n whole) (sym (column p (take n whole) m f.runs))
            ∙ ap (λ (ts : List ℕ). threads_of m.history ++ ts) (left_from budget n (start_machine p) m 0 f.within f.runs)
            ∙ ap (λ (u : ℕ). threads_of m.history ++ scheduled_from p times budget m u (budget - n)) (sym f.current);
      }

  -- the front of a run that was followed
  front_of : (whole : List ℕ) (m : MachineState) (t : ℕ) → Follows p times budget whole m t → take (length m.history) whole ≡ threads_of m.history
  front_of whole m t f =
      let rest = scheduled_from p times budget m t (budget - length m.history) in
      ap (take (length m.history)) f.threads ∙ ap (λ (n : ℕ). take n (threads_of m.history ++ rest)) (sym (length-threads_of m.history)) ∙ take-append_seam (threads_of m.history) rest

  front_size : (whole : List ℕ) (m : MachineState) (t : ℕ) → Follows p times budget whole m t → length m.history ≤ length whole
  front_size whole m t f =
      let rest = scheduled_from p times budget m t (budget - length m.history) in
      omega (arith, ap length f.threads, length-append (threads_of m.history) rest, length-threads_of m.history)

  pub first-of-follows : (m : MachineState) (t : ℕ) → IsRun p m → Follows p times budget (schedule_threads p times budget) m t → t ≡ thread_before (schedule_threads p times budget) (length m.history) → IsAfterFirst p times budget m t
  first-of-follows m t ran f current =
      record { within = front_size (schedule_threads p times budget) m t f; runs = ap (run p) (front_of (schedule_threads p times budget) m t f) ∙ ran; current = current }

  pub first-start : IsAfterFirst p times budget (start_machine p) 0
  first-start = record { within = omega arith; runs = refl; current = refl }

  pub first-runs : (m : MachineState) (t : ℕ) → IsAfterFirst p times budget m t → IsRun p m
  first-runs m t f = let whole = schedule_threads p times budget in ap (run p) (column p (take (length m.history) whole) m f.runs) ∙ f.runs

  -- one event more
  pub first-more : (m n : MachineState) (t u : ℕ) → end_of p m budget ≡ None → pick p m t (switches_at times (length m.history)) ≡ Some u → turn p m u ≡ Some n → IsAfterFirst p times budget m t → IsAfterFirst p times budget n u
  first-more m n t u going picked turned f =
      let whole = schedule_threads p times budget in
      let next = follows-more p times budget whole m n t u going picked turned (first-follows m t f) in
      let rest = scheduled_from p times budget n u (budget - length n.history) in
      let size : length n.history ≡ suc (length (threads_of m.history)) = omega (arith, length-more p m n u turned, length-threads_of m.history) in
      let seam : whole ≡ threads_of m.history ++ u ∷ rest =
      next.threads ∙ ap (λ (ts : List ℕ). ts ++ rest) (column-more p m n u turned) ∙ append_assoc (threads_of m.history) (u ∷ []) rest in
      first-of-follows n u (IsRun-more p m n u (first-runs m t f) turned) next
      (sym (ap (λ (k : ℕ). get_or (0 ∷ whole) k 0) size ∙ ap (λ (ts : List ℕ). get_or ts (length (threads_of m.history)) 0) seam ∙ get_or-append_seam (threads_of m.history) u rest 0))

  -- where the machine has an end, the whole run was made
  pub first-ended : (m : MachineState) (t : ℕ) (e : End) → end_of p m budget ≡ Some e → IsAfterFirst p times budget m t → run p (schedule_threads p times budget) ≡ Some m
  first-ended m t e ended f =
      let whole = schedule_threads p times budget in
      ap (run p) (sym (follows-ended p times budget whole m t e ended (first-follows m t f))) ∙ first-runs m t f

  pub ended-size : (m : MachineState) (t : ℕ) (e : End) → end_of p m budget ≡ Some e → IsAfterFirst p times budget m t → length m.history ≡ length (schedule_threads p times budget)
  ended-size m t e ended f =
      let whole = schedule_threads p times budget in
      sym (length-threads_of m.history) ∙ ap length (follows-ended p times budget whole m t e ended (first-follows m t f))

-- what is after the first events of the one schedule is so after those of the other
module _ (p : PlainProgram) (budget : ℕ) (xs ys : List ℕ) (m : MachineState) (agree : Agree (length m.history) xs ys) where
  same_before : (k : ℕ) (before after : List ℕ) → take k before ≡ take k after → thread_before before k ≡ thread_before after k
  same_before zero before after e = refl
  same_before (suc k) before after e =
      sym (get_or-take (suc k) before k 0 (omega arith)) ∙ ap (λ (ts : List ℕ). get_or ts k 0) e ∙ get_or-take (suc k) after k 0 (omega arith)

  pub first-shared : (t : ℕ) → IsAfterFirst p xs budget m t → IsAfterFirst p ys budget m t
  first-shared t f =
      let before = schedule_threads p xs budget in
      let after = schedule_threads p ys budget in
      let same : take (length m.history) before ≡ take (length m.history) after = same_first p budget (length m.history) xs ys agree in
      record {
        within = omega (arith, f.within, ap length same, length-take (length m.history) before, length-take (length m.history) after);
        runs = ap (run p) (sym same) ∙ f.runs;
        current = f.current ∙ same_before (length m.history) before after same;
      }
