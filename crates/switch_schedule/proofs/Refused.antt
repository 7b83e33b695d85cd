-- Where a log parts from its program.
use Rattle.std.proofs.Common.{◌≡◌, ℕ, ◌<◌, ◌≤◌, false, List, Option, Some, length, take, get_or, sym, ap, subst, ◌∙◌, arith}
use Rattle.std.specs.Prelude.{slice_get}
use Rattle.std.proofs.lemmas.Option.{slice_get-get_or}
use Rattle.vm_model.specs.Program.{PlainProgram}
use Rattle.machine_model.specs.Machine.{MachineState, is_enabled, run}
use Rattle.machine_model.proofs.Turns.{turn-disabled}
use Rattle.schedule_log.specs.Logs.{PlainLog, expansion, events, IsLawful}
use Rattle.schedule_log.proofs.Expanding.{length-threads}
use Rattle.event_machine.specs.declared.machine.TurnFault.{TurnFault}
use Rattle.event_machine.specs.declared.machine.TurnFault.TheVariants as fault
use Rattle.thread_driver.specs.Answers as replay
use Rattle.thread_driver.specs.Recordings.{DivergesAt}
use Rattle.switch_schedule.specs.Derivations.{HasDerived}
use Rattle.switch_schedule.specs.Refusals.{refusal, RefusesDerivation}

-- a replay and a derivation refuse alike
pub refused_alike : (p : PlainProgram) (log : PlainLog) (clock thread : ℕ) (f : TurnFault) → replay.Refuses p log (replay.refusal f clock thread) → RefusesDerivation p log (refusal f clock thread)
refused_alike p log clock thread fault.Over r = r
refused_alike p log clock thread fault.NotLive r = r
refused_alike p log clock thread fault.NotEnabled r = r
refused_alike p log clock thread fault.NoMemory r = tt

-- a thread that can't go on parts the log from the program
pub disabled : (p : PlainProgram) (log : PlainLog) (threads : List ℕ) (clock t : ℕ) (m : MachineState) → threads ≡ expansion log → clock < length threads → t ≡ get_or threads clock 0 → run p (take clock threads) ≡ Some m → is_enabled p m t ≡ false → DivergesAt p log clock t
disabled p log threads clock t m same lt at ran off =
    record {
      machine = m;
      runs = ap (λ (ts : List ℕ). run p (take clock ts)) (sym same) ∙ ran;
      at_clock = ap (λ (ts : List ℕ). slice_get ts clock) (sym same) ∙ slice_get-get_or threads clock 0 lt ∙ ap Some (sym at);
      undefined = turn-disabled p m t off;
    }

pub few_events : (log : PlainLog) (threads : List ℕ) → IsLawful log → threads ≡ expansion log → length threads ≤ 1048576
few_events log threads law same = let size : length threads ≡ events log = ap length same ∙ length-threads log.intervals in omega (arith, size, law.within_budget, law.budget_high)

-- the whole log was followed
pub whole_log : (p : PlainProgram) (log : PlainLog) (threads : List ℕ) (clock : ℕ) (kept : List ℕ) (passed : Option ℕ) → threads ≡ expansion log → clock ≡ length threads → HasDerived p threads clock kept passed → HasDerived p (expansion log) (events log) kept passed
whole_log p log threads clock kept passed same at h =
    let size : clock ≡ events log = at ∙ ap length same ∙ length-threads log.intervals in
    let P : ℕ → Type 0 = λ n. HasDerived p (expansion log) n kept passed in
    subst P size (subst (λ (ts : List ℕ). HasDerived p ts clock kept passed) same h)
