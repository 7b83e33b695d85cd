-- What a recorder keeps of a run, and what its run has to do with the schedule without switches.
use Rattle.std.proofs.Common.{◌≡◌, ℕ, suc, ◌+◌, ◌-◌, ◌<◌, ◌≤◌, Bool, true, false, cond, List, [], ◌∷◌, ◌++◌, Some, None, length, refl, sym, ap, subst, ◌∙◌, arith}
use Rattle.std.specs.Prelude.{All, find}
use Rattle.std.proofs.lemmas.Bool.{eqb-false}
use Rattle.std.proofs.lemmas.List.{append-nil, append_assoc, length-append, length-map}
use Rattle.vm_model.specs.declared.ends.End.{End}
use Rattle.vm_model.specs.declared.ends.EndKind.{EndKind}
use Rattle.vm_model.specs.declared.op.Entry.{Entry}
use Rattle.vm_model.specs.Ends.{kind_of_end}
use Rattle.vm_model.specs.Program.{PlainProgram}
use Rattle.machine_model.specs.Machine.{MachineState, all_threads, end_of, is_enabled, run, start_machine, thread_of, threads_of, turn, IsRun}
use Rattle.machine_model.specs.Ring.{moved_on, pick, ring_after, schedule_threads, scheduled_from, switches_at}
use Rattle.machine_model.proofs.Picks.{enabled_thread-live, pick_none-any}
use Rattle.machine_model.proofs.Runs.{end_of-open, scheduled-ended, scheduled-more, threads_of-push, turn-adds}
use Rattle.machine_model.proofs.Turns.{live-started, spent-whole}
use Rattle.schedule_log.specs.Foldings.{PlainFolding}
use Rattle.schedule_log.specs.Logs.{PlainLog, IsLawful, expansion}
use Rattle.schedule_log.specs.Parts.{log_of_parts, AreParts, IsLoggable}
use Rattle.schedule_log.proofs.Folded.{folded_run}
use Rattle.event_machine.proofs.Ends.{find-true}
use Rattle.thread_driver.specs.Recordings.{threads_on, IsRecording}

pub length-threads_of : (h : List Entry) → length (threads_of h) ≡ length h
length-threads_of h = length-map h thread_of

-- the thread column after a turn
pub column-more : (p : PlainProgram) (m n : MachineState) (t : ℕ) → turn p m t ≡ Some n → threads_of n.history ≡ threads_of m.history ++ t ∷ []
column-more p m n t e =
    let a = turn-adds p m n t e in
    ap threads_of a.history ∙ threads_of-push m.history a.entry ∙ ap (λ u. threads_of m.history ++ u ∷ []) a.of_thread

pub length-more : (p : PlainProgram) (m n : MachineState) (t : ℕ) → turn p m t ≡ Some n → length n.history ≡ length m.history + 1
length-more p m n t e = let a = turn-adds p m n t e in ap length a.history ∙ length-append m.history (a.entry ∷ [])

-- an enabled thread was started
pub enabled-started : (p : PlainProgram) (m : MachineState) (t : ℕ) → is_enabled p m t ≡ true → t < length m.world.rows
enabled-started p m t e = live-started m t (enabled_thread-live p m t e)

-- ---- a machine that has an end

some_machine : (a b : MachineState) → Some a ≡ Some b → a ≡ b
some_machine a b h = cc

some_event : (p : PlainProgram) (m : MachineState) (budget : ℕ) (e : End) (h : List Entry) → run p (threads_of h) ≡ Some m → end_of p m budget ≡ Some e → end_of p (start_machine p) budget ≡ None → 1 ≤ length h
some_event p m budget e [] ran ended begins =
    let same = some_machine (start_machine p) m ran in
    let clash : None ≡ Some e = sym begins ∙ ap (λ (k : MachineState). end_of p k budget) same ∙ ended in
    cc
some_event p m budget e (x ∷ h) ran ended begins = omega arith

pub loggable : (p : PlainProgram) (m : MachineState) (budget : ℕ) (e : End) (kind : EndKind) (parts : List PlainFolding) → IsRun p m → end_of p m budget ≡ Some e → end_of p (start_machine p) budget ≡ None → budget ≤ 1048576 → length m.history ≤ budget
    → length parts ≡ 64 → AreParts (threads_of m.history) parts → kind ≡ kind_of_end e → IsLoggable budget (threads_of m.history) kind
loggable p m budget e kind parts ran ended begins high within many are same =
    let size = length-threads_of m.history in
    let some = some_event p m budget e m.history ran ended begins in
    record {
      budget_high = high;
      threads_low = subst (λ (n : ℕ). All (λ t. t < n) (threads_of m.history)) many are.enough;
      some_event = omega (arith, some, size);
      within_budget = omega (arith, within, size);
      spent = λ s. size ∙ spent-whole p m budget e ended (sym same ∙ s);
    }

-- the log of its foldings, its output and its end are a recording
pub recording : (p : PlainProgram) (m : MachineState) (budget : ℕ) (e : End) (kind : EndKind) (parts : List PlainFolding) (log : PlainLog) (output : List ℕ) → IsRun p m → end_of p m budget ≡ Some e → IsLoggable budget (threads_of m.history) kind
    → AreParts (threads_of m.history) parts → kind ≡ kind_of_end e → log ≡ log_of_parts budget parts kind → output ≡ m.world.output → IsRecording p log output e
recording p m budget e kind parts log output ran ended can are same is printed =
    let run = folded_run budget (threads_of m.history) parts kind can are in
    record {
      lawful = subst IsLawful (sym is) run.0;
      machine = m;
      runs = ap (Rattle.machine_model.specs.Machine.run p) (ap expansion is ∙ run.1) ∙ ran;
      ended = ap (λ (l : PlainLog). end_of p m l.budget) is ∙ ended;
      kind = ap (λ (l : PlainLog). l.end) is ∙ same;
      printed = printed;
    }

-- ---- the run of a schedule

-- the run so far, and what the schedule goes on with, are this list of threads
pub record Follows (p : PlainProgram) (times : List ℕ) (events : ℕ) (whole : List ℕ) (m : MachineState) (t : ℕ) : Type 0 where
  pub within : length m.history ≤ events
  pub threads : whole ≡ threads_of m.history ++ scheduled_from p times events m t (events - length m.history)

pub follows-start : (p : PlainProgram) (times : List ℕ) (events : ℕ) (m : MachineState) → m ≡ start_machine p → Follows p times events (schedule_threads p times events) m 0
follows-start p times events m e =
    subst (λ (k : MachineState). Follows p times events (schedule_threads p times events) k 0) (sym e)
    (let whole : events ≡ events - 0 = omega arith in record { within = omega arith; threads = ap (scheduled_from p times events (start_machine p) 0) whole })

pub follows-on : (p : PlainProgram) (events : ℕ) (m : MachineState) (t : ℕ) → length m.history ≤ events → Follows p [] events (threads_on p m t events) m t
follows-on p events m t within = record { within = within; threads = refl }

pub left : (p : PlainProgram) (m : MachineState) (budget : ℕ) → end_of p m budget ≡ None → length m.history ≤ budget → length m.history < budget
left p m budget e within = omega (arith, within, eqb-false (length m.history) budget (end_of-open p m budget e).not_spent)

pub follows-more : (p : PlainProgram) (times : List ℕ) (events : ℕ) (whole : List ℕ) (m n : MachineState) (t u : ℕ) → end_of p m events ≡ None → pick p m t (switches_at times (length m.history)) ≡ Some u → turn p m u ≡ Some n → Follows p times events whole m t
    → Follows p times events whole n u
follows-more p times events whole m n t u open' picked turned f =
    let size = length-more p m n u turned in
    let room = left p m events open' f.within in
    let step : events - length m.history ≡ suc (events - length n.history) = omega (arith, size, room) in
    record {
      within = omega (arith, size, room);
      threads =
          f.threads
          ∙ ap (λ (k : ℕ). threads_of m.history ++ scheduled_from p times events m t k) step
          ∙ ap (λ (ts : List ℕ). threads_of m.history ++ ts) (scheduled-more p times events m n t u (events - length n.history) open' picked turned)
          ∙ sym (append_assoc (threads_of m.history) (u ∷ []) (scheduled_from p times events n u (events - length n.history)))
          ∙ ap (λ (ts : List ℕ). ts ++ scheduled_from p times events n u (events - length n.history)) (sym (column-more p m n u turned));
    }

pub follows-ended : (p : PlainProgram) (times : List ℕ) (events : ℕ) (whole : List ℕ) (m : MachineState) (t : ℕ) (e : End) → end_of p m events ≡ Some e → Follows p times events whole m t → threads_of m.history ≡ whole
follows-ended p times events whole m t e ended f =
    sym (f.threads ∙ ap (λ (ts : List ℕ). threads_of m.history ++ ts) (scheduled-ended p times events m t (events - length m.history) e ended) ∙ append-nil (threads_of m.history))

-- ---- the thread that is picked

pub picked-enabled : (p : PlainProgram) (m : MachineState) (t places u : ℕ) → pick p m t places ≡ Some u → is_enabled p m u ≡ true
picked-enabled p m t places u e = find-true (is_enabled p m) (moved_on m t places ∷ ring_after m (moved_on m t places)) u e

-- an open machine has a thread to pick
pub open-picks : (p : PlainProgram) (m : MachineState) (budget t places : ℕ) → end_of p m budget ≡ None → pick p m t places ≡ None → ⊥
open-picks p m budget t places open' none =
    let any = (end_of-open p m budget open').some_enabled in
    let nobody = pick_none-any p m t places none in
    cc
