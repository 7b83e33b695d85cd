-- The tries of a search, one after another.
use Rattle.std.proofs.Common.{◌≡◌, ℕ, suc, ◌+◌, ◌-◌, false, List, Option, Some, sym, ap, ◌∙◌, arith, inl, inr}
use Rattle.std.proofs.lemmas.Bool.{cases_lt}
use Rattle.vm_model.specs.declared.ends.End.{End}
use Rattle.vm_model.specs.Program.{PlainProgram}
use Rattle.machine_model.specs.Machine.{MachineState}
use Rattle.schedule_log.specs.declared.interval.Interval.{Interval}
use Rattle.rand_pcg.specs.Lcg.{Lcg}
use Rattle.schedule_model.specs.Outcomes.{end_under}
use Rattle.switch_schedule.specs.Runs.{IsRunOf}
use Rattle.switch_schedule.specs.Searches.{after_tries, ends_in_fault, is_fault, modulus_of, NoneBelow, seeded, try_drawn, try_times}
use Rattle.switch_schedule.proofs.Drawing.{tries_more}

-- a run tells whether its schedule ends in a fault
pub run_tells : (p : PlainProgram) (times : List ℕ) (events : ℕ) (intervals : List Interval) (clock : ℕ) (output : List ℕ) (e : End) → IsRunOf p times events intervals clock output e → ends_in_fault p events times ≡ is_fault (Some e)
run_tells p times events intervals clock output e r = ap (λ (m : Option MachineState). is_fault (end_under p events m)) r.runs ∙ ap is_fault r.ended

pub no_try_yet : (p : PlainProgram) (seed events high : ℕ) → high ≡ 1 → NoneBelow p seed events high
no_try_yet p seed events high e number low lt = absurd (omega (arith, e, low, lt))

-- the times of the try after so many
pub this_try : (p : PlainProgram) (seed events before modulus : ℕ) (words : Lcg) (times : List ℕ) → modulus ≡ modulus_of p events → words ≡ after_tries (modulus_of p events) (seeded seed) before → times ≡ (try_drawn modulus words).0 → times ≡ try_times p seed events (before + 1)
this_try p seed events before modulus words times same at drawn =
    let back : before ≡ before + 1 - 1 = omega arith in
    drawn
    ∙ ap (λ (n : ℕ). (try_drawn n words).0) same
    ∙ ap (λ (g : Lcg). (try_drawn (modulus_of p events) g).0) at
    ∙ ap (λ (n : ℕ). (try_drawn (modulus_of p events) (after_tries (modulus_of p events) (seeded seed) n)).0) back

pub words_after : (p : PlainProgram) (seed events before modulus : ℕ) (words next : Lcg) → modulus ≡ modulus_of p events → words ≡ after_tries (modulus_of p events) (seeded seed) before → next ≡ (try_drawn modulus words).1 → next ≡ after_tries (modulus_of p events) (seeded seed) (before + 1)
words_after p seed events before modulus words next same at drawn =
    let more : before + 1 ≡ suc before = omega arith in
    drawn
    ∙ ap (λ (n : ℕ). (try_drawn n words).1) same
    ∙ ap (λ (g : Lcg). (try_drawn (modulus_of p events) g).1) at
    ∙ tries_more (modulus_of p events) before (before + 1) (seeded seed) more

pub none_more : (p : PlainProgram) (seed events before : ℕ) (times : List ℕ) → times ≡ try_times p seed events (before + 1) → ends_in_fault p events times ≡ false → NoneBelow p seed events (before + 1) → NoneBelow p seed events (before + 1 + 1)
none_more p seed events before times is faultless none number low lt =
    elim (cases_lt number (before + 1)) [
      | inl less ↦ none number low less
      | inr ge ↦ (let here : before + 1 ≡ number = omega (arith, ge, lt) in ap (λ (n : ℕ). ends_in_fault p events (try_times p seed events n)) (sym here) ∙ ap (ends_in_fault p events) (sym is) ∙ faultless)
    ]
