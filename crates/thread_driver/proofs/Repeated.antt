-- A log's run, event by event.
use Rattle.std.proofs.Common.{◌≡◌, ℕ, ◌+◌, ◌<◌, ◌≤◌, List, Option, Some, None, length, take, get_or, refl, sym, ap, subst, ◌∙◌, arith}
use Rattle.std.specs.Prelude.{IsSome, slice_get}
use Rattle.std.proofs.lemmas.List.{length-take-le, take_more}
use Rattle.std.proofs.lemmas.Option.{slice_get-get_or}
use Rattle.vm_model.specs.declared.ends.End.{End}
use Rattle.vm_model.specs.Program.{PlainProgram}
use Rattle.machine_model.specs.Machine.{MachineState, end_of, run, turn}
use Rattle.machine_model.proofs.Runs.{run-more}
use Rattle.machine_model.proofs.Turns.{run-length, turn-disabled, turn-ended, turn-not_live}
use Rattle.schedule_log.specs.Logs.{PlainLog, IsLawful, events, expansion}
use Rattle.schedule_log.proofs.Expanding.{length-threads}
use Rattle.event_machine.specs.MachineView.{MachineView, machine_of}
use Rattle.event_machine.specs.Turns as turns
use Rattle.event_machine.specs.declared.machine.TurnFault.{TurnFault}
use Rattle.event_machine.specs.declared.machine.TurnFault.TheVariants as fault
use Rattle.thread_driver.specs.Answers.{refusal, Refuses, RefusesBefore}
use Rattle.thread_driver.specs.Recordings.{DivergesAt}
use Rattle.thread_driver.specs.declared.replay.ReplayFault.{ReplayFault}
use Rattle.thread_driver.specs.declared.replay.ReplayFault.TheVariants as replay

-- one turn more of the log
pub turned-more : (p : PlainProgram) (threads : List ℕ) (clock : ℕ) (m n : MachineState) → clock < length threads → run p (take clock threads) ≡ Some m → turn p m (get_or threads clock 0) ≡ Some n → run p (take (clock + 1) threads) ≡ Some n
turned-more p threads clock m n lt ran turned = ap (run p) (take_more threads clock 0 lt) ∙ run-more p (take clock threads) (get_or threads clock 0) m n ran turned

-- the events that were made are less than the budget
left_of : (p : PlainProgram) (log : PlainLog) (clock : ℕ) (m : MachineState) → IsLawful log → clock < length (expansion log) → run p (take clock (expansion log)) ≡ Some m → length m.history < log.budget
left_of p log clock m law lt ran =
    let size : length (expansion log) ≡ events log = length-threads log.intervals in
    let front : length (take clock (expansion log)) ≡ clock = length-take-le clock (expansion log) (omega arith) in
    omega (arith, law.within_budget, size, front, run-length p (take clock (expansion log)) m ran)

some_of : (o : Option End) → IsSome o → (e : End) × (o ≡ Some e)
some_of None h = cc
some_of (Some e) h = (e, refl)

diverges_at : (p : PlainProgram) (log : PlainLog) (threads : List ℕ) (clock t : ℕ) (m : MachineState) → threads ≡ expansion log → clock < length threads → t ≡ get_or threads clock 0 → run p (take clock threads) ≡ Some m → turn p m t ≡ None
    → DivergesAt p log clock t
diverges_at p log threads clock t m same lt at ran undefined =
    record {
      machine = m;
      runs = ap (λ (ts : List ℕ). run p (take clock ts)) (sym same) ∙ ran;
      at_clock = ap (λ (ts : List ℕ). slice_get ts clock) (sym same) ∙ slice_get-get_or threads clock 0 lt ∙ ap Some (sym at);
      undefined = undefined;
    }

over : (p : PlainProgram) (m : MachineState) (budget t : ℕ) → IsSome (end_of p m budget) → length m.history < budget → turn p m t ≡ None
over p m budget t is room = let e = some_of (end_of p m budget) is in turn-ended p m budget t e.0 e.1 room

-- a turn of the log that isn't made, other than for memory, parts the log from the program
pub refused : (p : PlainProgram) (log : PlainLog) (threads : List ℕ) (count clock t : ℕ) (old new : MachineView) (f : TurnFault) → IsLawful log → threads ≡ expansion log → clock < count → clock < length threads → t ≡ get_or threads clock 0
    → run p (take clock threads) ≡ Some (machine_of old) → old.world.budget ≡ log.budget → turns.Refuses p old t f new → RefusesBefore p log count (refusal f clock t)
refused p log threads count clock t old new fault.Over law same before lt at ran budget r =
    let ran' : run p (take clock (expansion log)) ≡ Some (machine_of old) = ap (λ (ts : List ℕ). run p (take clock ts)) (sym same) ∙ ran in
    let lt' : clock < length (expansion log) = subst (λ (ts : List ℕ). clock < length ts) same lt in
    let room : length old.world.history < old.world.budget = omega (arith, left_of p log clock (machine_of old) law lt' ran', budget) in
    (diverges_at p log threads clock t (machine_of old) same lt at ran (over p (machine_of old) old.world.budget t r.1 room), before)
refused p log threads count clock t old new fault.NotLive law same before lt at ran budget r =
    (diverges_at p log threads clock t (machine_of old) same lt at ran (turn-not_live p (machine_of old) t r.2), before)
refused p log threads count clock t old new fault.NotEnabled law same before lt at ran budget r =
    (diverges_at p log threads clock t (machine_of old) same lt at ran (turn-disabled p (machine_of old) t r.3), before)
refused p log threads count clock t old new fault.NoMemory law same before lt at ran budget r = tt

-- a turn that isn't made before a clock isn't made before the end
pub refused_at_all : (p : PlainProgram) (log : PlainLog) (count : ℕ) (f : ReplayFault) → RefusesBefore p log count f → Refuses p log f
refused_at_all p log count (replay.Diverged clock (Some thread)) r = r.0
refused_at_all p log count (replay.Diverged clock None) r = absurd r
refused_at_all p log count replay.NoMemory r = tt

pub refused_later : (p : PlainProgram) (log : PlainLog) (count later : ℕ) (f : ReplayFault) → count ≤ later → RefusesBefore p log count f → RefusesBefore p log later f
refused_later p log count later (replay.Diverged clock (Some thread)) le r = (r.0, omega (arith, le, r.1))
refused_later p log count later (replay.Diverged clock None) le r = absurd r
refused_later p log count later replay.NoMemory le r = tt
