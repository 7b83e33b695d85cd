-- The times of a try are few, and none is above the most events.
use Rattle.std.proofs.Common.{◌≡◌, ℕ, zero, suc, ◌+◌, ◌-◌, ◌%◌, ◌<◌, ◌≤◌, List, [], ◌∷◌, Option, Some, None, length, ap, subst, sym, ◌∙◌, refl, arith}
use Rattle.std.specs.Prelude.{All}
use Rattle.std.proofs.lemmas.Nat.{mod_below}
use Rattle.std.proofs.lemmas.List.Elements.{All-cons, All-nil}
use Rattle.vm_model.specs.declared.ends.End.{End}
use Rattle.vm_model.specs.Program.{PlainProgram}
use Rattle.machine_model.specs.Machine.{MachineState, end_of, start_machine, turn}
use Rattle.machine_model.specs.Ring.{go_scheduled, pick, schedule_threads, scheduled_from, switches_at}
use Rattle.rand_pcg.specs.Lcg.{Lcg}
use Rattle.rand_pcg.specs.Pcg.{pcg32}
use Rattle.switch_schedule.specs.Searches.{after_tries, drawn, modulus_of, seeded, try_drawn, try_times}

-- a run has at most its budget of events
after_turn : (n u : ℕ) (go : MachineState → ℕ → List ℕ) (o : Option MachineState) → ((m : MachineState) → length (go m u) ≤ n) → length (go_scheduled None (Some u) (λ v. o) go) ≤ suc n
after_turn n u go None short = omega arith
after_turn n u go (Some m) short = omega (arith, short m)

after_pick : (n : ℕ) (turned : ℕ → Option MachineState) (go : MachineState → ℕ → List ℕ) (e : Option End) (picked : Option ℕ) → ((m : MachineState) (u : ℕ) → length (go m u) ≤ n) → length (go_scheduled e picked turned go) ≤ suc n
after_pick n turned go (Some e) picked short = omega arith
after_pick n turned go None None short = omega arith
after_pick n turned go None (Some u) short = after_turn n u go (turned u) (λ m. short m u)

scheduled_short : (p : PlainProgram) (times : List ℕ) (budget : ℕ) (m : MachineState) (t n : ℕ) → length (scheduled_from p times budget m t n) ≤ n
unfolding scheduled_from
scheduled_short p times budget m t zero = omega arith
scheduled_short p times budget m t (suc n) =
    after_pick n (turn p m) (λ m' u. scheduled_from p times budget m' u n) (end_of p m budget) (pick p m t (switches_at times (length m.history))) (λ m' u. scheduled_short p times budget m' u n)

-- ---- words

drawn_few : (modulus count : ℕ) (g : Lcg) → length (drawn count modulus g).0 ≡ count
unfolding drawn
drawn_few modulus zero g = refl
drawn_few modulus (suc count) g = ap suc (drawn_few modulus count (pcg32 g).1)

drawn_small : (most modulus count : ℕ) (g : Lcg) → 0 < modulus → modulus ≤ most + 1 → All (λ (t : ℕ). t ≤ most) (drawn count modulus g).0
unfolding drawn
drawn_small most modulus zero g some le = All-nil (λ (t : ℕ). t ≤ most)
drawn_small most modulus (suc count) g some le =
    let small : (pcg32 g).0 % modulus ≤ most = omega (arith, mod_below (pcg32 g).0 modulus some, le) in
    All-cons (λ (t : ℕ). t ≤ most) ((pcg32 g).0 % modulus) (drawn count modulus (pcg32 g).1).0 small (drawn_small most modulus count (pcg32 g).1 some le)

-- ---- tries

pub try_few : (p : PlainProgram) (seed events number : ℕ) → length (try_times p seed events number) ≤ 4
unfolding try_drawn
try_few p seed events number =
    let g = after_tries (modulus_of p events) (seeded seed) (number - 1) in
    omega (arith, drawn_few (modulus_of p events) (1 + (pcg32 g).0 % 4) (pcg32 g).1, mod_below (pcg32 g).0 4 (omega arith))

pub try_small : (p : PlainProgram) (seed events number most : ℕ) → events ≤ most → All (λ (t : ℕ). t ≤ most) (try_times p seed events number)
unfolding try_drawn
try_small p seed events number most le =
    let g = after_tries (modulus_of p events) (seeded seed) (number - 1) in
    drawn_small most (modulus_of p events) (1 + (pcg32 g).0 % 4) (pcg32 g).1 (omega arith) (omega (arith, le, scheduled_short p [] events (start_machine p) 0 events))
