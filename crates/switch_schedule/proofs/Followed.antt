-- The run of what was derived is the log's.
use Rattle.std.proofs.Common.{◌≡◌, ℕ, zero, suc, ◌+◌, ◌<◌, ◌≤◌, List, [], ◌∷◌, ◌++◌, Option, Some, None, length, get_or, take, drop, refl, sym, ap, subst, ◌∙◌, arith}
use Rattle.std.specs.Prelude.{option_map}
use Rattle.std.proofs.lemmas.List.{length-take-le, take_all, take_more, take-append-drop}
use Rattle.vm_model.specs.declared.ends.End.{End}
use Rattle.vm_model.specs.declared.ends.EndKind.{EndKind}
use Rattle.vm_model.specs.Ends.{kind_of_end}
use Rattle.vm_model.specs.Program.{PlainProgram}
use Rattle.machine_model.specs.Machine.{MachineState, end_of, run, run_from, start_machine, then_run, threads_of, turn}
use Rattle.machine_model.specs.Ring.{pick, schedule_threads, switches_at}
use Rattle.machine_model.proofs.Runs.{run_from-append}
use Rattle.machine_model.proofs.Turns.{run-length, turn-ended}
use Rattle.thread_driver.proofs.Recorded.{column-more, Follows, follows-ended, follows-more, follows-start}
use Rattle.schedule_log.specs.Logs.{PlainLog, events, expansion, IsLawful}
use Rattle.schedule_log.proofs.Expanding.{length-threads}
use Rattle.switch_schedule.specs.Derivations.{DerivesUpTo, HasDerived, IsDerived, NeedsTooMany, thread_before}

-- ---- a run's fronts

-- the machine after the events before a clock
record Front (p : PlainProgram) (threads : List ℕ) (clock : ℕ) : Type 0 where
  machine : MachineState
  runs : run p (take clock threads) ≡ Some machine

front_of : (p : PlainProgram) (m : MachineState) (o : Option MachineState) (go : MachineState → Option MachineState) → then_run o go ≡ Some m → (n : MachineState) × (o ≡ Some n)
front_of p m None go e = cc
front_of p m (Some n) go e = (n, refl)

front : (p : PlainProgram) (threads : List ℕ) (clock : ℕ) (m : MachineState) → run p threads ≡ Some m → Front p threads clock
front p threads clock m ran =
    let parts = sym (run_from-append p (start_machine p) (take clock threads) (drop clock threads)) ∙ ap (run p) (take-append-drop clock threads) ∙ ran in
    let f = front_of p m (run p (take clock threads)) (λ n. run_from p n (drop clock threads)) parts in
    record { machine = f.0; runs = f.1 }

some_machine : (a b : MachineState) → Some a ≡ Some b → a ≡ b
some_machine a b e = cc

-- the turn of a clock is that of its thread
turn_of : (p : PlainProgram) (threads : List ℕ) (clock : ℕ) (m n : MachineState) → clock < length threads → run p (take clock threads) ≡ Some m → run p (take (clock + 1) threads) ≡ Some n → turn p m (get_or threads clock 0) ≡ Some n
turn_of p threads clock m n lt ran next =
    let one : run p (take clock threads ++ get_or threads clock 0 ∷ []) ≡ Some n = ap (run p) (sym (take_more threads clock 0 lt)) ∙ next in
    last_turn p (turn p m (get_or threads clock 0)) n (sym (run_from-append p (start_machine p) (take clock threads) (get_or threads clock 0 ∷ []) ∙ rw ran refl) ∙ one)
  where
    last_turn : (p : PlainProgram) (o : Option MachineState) (n : MachineState) → then_run o (λ k. run_from p k []) ≡ Some n → o ≡ Some n
    last_turn p None n e = cc
    last_turn p (Some k) n e = e

-- an event that was made was open before
open_before : (p : PlainProgram) (m n : MachineState) (budget t : ℕ) → turn p m t ≡ Some n → length m.history < budget → end_of p m budget ≡ None
open_before p m n budget t turned room = by_end (end_of p m budget) refl
  where
    by_end : (o : Option End) → end_of p m budget ≡ o → o ≡ None
    by_end None e = refl
    by_end (Some e) is = let none : turn p m t ≡ None = turn-ended p m budget t e is room in cc

-- ---- the run of the schedule, event by event

record Goes (p : PlainProgram) (threads times : List ℕ) (budget clock : ℕ) : Type 0 where
  machine : MachineState
  runs : run p (take clock threads) ≡ Some machine
  column : threads_of machine.history ≡ take clock threads
  follows : Follows p times budget (schedule_threads p times budget) machine (thread_before threads clock)

goes_on : (p : PlainProgram) (threads times : List ℕ) (budget : ℕ) (m : MachineState) → run p threads ≡ Some m → length threads ≤ budget → DerivesUpTo p threads (length threads) times → (clock : ℕ) → clock ≤ length threads → Goes p threads times budget clock
goes_on p threads times budget m ran within d zero h =
    record { machine = start_machine p; runs = refl; column = refl; follows = follows-start p times budget (start_machine p) refl }
goes_on p threads times budget m ran within d (suc clock) h =
    let before = goes_on p threads times budget m ran within d clock (omega (arith, h)) in
    let same : suc clock ≡ clock + 1 = omega arith in
    let next = front p threads (suc clock) m ran in
    let lt : clock < length threads = h in
    let t = get_or threads clock 0 in
    let turned : turn p before.machine t ≡ Some next.machine = turn_of p threads clock before.machine next.machine lt before.runs (ap (λ (n : ℕ). run p (take n threads)) (sym same) ∙ next.runs) in
    let size : length before.machine.history ≡ clock = run-length p (take clock threads) before.machine before.runs ∙ length-take-le clock threads (omega (arith, h)) in
    let going = open_before p before.machine next.machine budget t turned (omega (arith, size, lt, within)) in
    let places : switches_at times clock ≡ switches_at times (length before.machine.history) = ap (switches_at times) (sym size) in
    let picked : pick p before.machine (thread_before threads clock) (switches_at times (length before.machine.history)) ≡ Some t = ap (pick p before.machine (thread_before threads clock)) (sym places) ∙ (d.least clock before.machine lt before.runs).leads in
    record {
      machine = next.machine;
      runs = next.runs;
      column = column-more p before.machine next.machine t turned ∙ ap (λ (ts : List ℕ). ts ++ t ∷ []) before.column ∙ sym (take_more threads clock 0 lt) ∙ ap (λ (n : ℕ). take n threads) (sym same);
      follows = follows-more p times budget (schedule_threads p times budget) before.machine next.machine (thread_before threads clock) t going picked turned before.follows;
    }

ended : (o : Option End) (k : EndKind) → option_map kind_of_end o ≡ Some k → (e : End) × (o ≡ Some e)
ended None k h = cc
ended (Some e) k h = (e, refl)

pub runs_again : (p : PlainProgram) (threads times : List ℕ) (budget : ℕ) (m : MachineState) (k : EndKind) → run p threads ≡ Some m → length threads ≤ budget → option_map kind_of_end (end_of p m budget) ≡ Some k → DerivesUpTo p threads (length threads) times
    → schedule_threads p times budget ≡ threads
runs_again p threads times budget m k ran within told d =
    let last = goes_on p threads times budget m ran within d (length threads) (omega arith) in
    let all : take (length threads) threads ≡ threads = take_all (length threads) threads (omega arith) in
    let same : last.machine ≡ m = some_machine last.machine m (sym last.runs ∙ ap (run p) all ∙ ran) in
    let e = ended (end_of p m budget) k told in
    let over : end_of p last.machine budget ≡ Some e.0 = ap (λ (n : MachineState). end_of p n budget) same ∙ e.1 in
    sym (follows-ended p times budget (schedule_threads p times budget) last.machine (thread_before threads (length threads)) e.0 over last.follows) ∙ last.column ∙ all

-- ---- what was derived of a whole log

pub derived_is : (p : PlainProgram) (log : PlainLog) (times : List ℕ) (m : MachineState) → IsLawful log → run p (expansion log) ≡ Some m → option_map kind_of_end (end_of p m log.budget) ≡ Some log.end → DerivesUpTo p (expansion log) (events log) times → IsDerived p log times
derived_is p log times m law ran told d =
    let size : length (expansion log) ≡ events log = length-threads log.intervals in
    let P : ℕ → Type 0 = λ n. DerivesUpTo p (expansion log) n times in
    record { runs = runs_again p (expansion log) times log.budget m log.end ran (omega (arith, size, law.within_budget)) told (subst P (sym size) d); derives = d }

pub all_kept : (p : PlainProgram) (log : PlainLog) (kept : List ℕ) (passed : Option ℕ) (m : MachineState) → IsLawful log → run p (expansion log) ≡ Some m → option_map kind_of_end (end_of p m log.budget) ≡ Some log.end
    → HasDerived p (expansion log) (events log) kept passed → passed ≡ None → IsDerived p log kept
all_kept p log kept None m law ran told h e = subst (IsDerived p log) (sym h.keeps.0) (derived_is p log h.times m law ran told h.derives)
all_kept p log kept (Some at) m law ran told h e = cc

pub too_many : (p : PlainProgram) (log : PlainLog) (kept : List ℕ) (passed : Option ℕ) (clock : ℕ) (m : MachineState) → IsLawful log → run p (expansion log) ≡ Some m → option_map kind_of_end (end_of p m log.budget) ≡ Some log.end
    → HasDerived p (expansion log) (events log) kept passed → passed ≡ Some clock → NeedsTooMany p log clock
too_many p log kept None clock m law ran told h e = cc
too_many p log kept (Some at) clock m law ran told h e = record { times = h.times; derived = derived_is p log h.times m law ran told h.derives; passed = h.keeps ∙ e }
