-- The machine after a log's run, and what its history is.
use Rattle.std.proofs.Common.{◌≡◌, ℕ, ◌<◌, ◌≤◌, List, [], ◌∷◌, Option, Some, None, length, take, sym, ap, subst, ◌∙◌, arith}
use Rattle.std.specs.Prelude.{All, option_map}
use Rattle.std.specs.List.{AllByRecursion}
use Rattle.std.proofs.lemmas.List.{take_all}
use Rattle.std.proofs.lemmas.List.Elements.{All-from_recursion, recursion_from_All}
use Rattle.vm_model.specs.declared.ends.End.{End}
use Rattle.vm_model.specs.declared.op.Entry.{Entry}
use Rattle.vm_model.specs.Ends.{kind_of_end}
use Rattle.vm_model.specs.Program.{PlainProgram}
use Rattle.machine_model.specs.Machine.{MachineState, end_of, run, threads_of}
use Rattle.machine_model.proofs.Turns.{run-length}
use Rattle.projection_laws.proofs.Alone.{column, legal}
use Rattle.race_report.proofs.Legal.{races_declared}
use Rattle.race_report.specs.declared.race.Race.{Race}
use Rattle.race_report.specs.Races.{IsDeclared, IsReport}
use Rattle.schedule_log.specs.Logs.{PlainLog, events, expansion, IsLawful}
use Rattle.schedule_log.proofs.Expanding.{length-threads}
use Rattle.schedule_log.proofs.Recording.{expansion_low}
use Rattle.thread_driver.specs.Answers.{DivergesBefore}
use Rattle.thread_driver.specs.Recordings.{IsRecording}
use Rattle.dejavu_tool.proofs.Completing.{doesnt_diverge}
use Rattle.dejavu_tool.proofs.Repeating.{same_some}

-- all events of a log are its whole run
pub whole : (p : PlainProgram) (log : PlainLog) (m : MachineState) → run p (take (events log) (expansion log)) ≡ Some m → run p (expansion log) ≡ Some m
whole p log m ran =
    let size : length (expansion log) ≡ events log = length-threads log.intervals in
    ap (run p) (sym (take_all (events log) (expansion log) (omega (arith, size)))) ∙ ran

-- it ends as its recording does
pub ends_so : (p : PlainProgram) (log kept : PlainLog) (output : List ℕ) (e : End) (m : MachineState) → IsRecording p kept output e → kept ≡ log → run p (expansion log) ≡ Some m → option_map kind_of_end (end_of p m log.budget) ≡ Some log.end
ends_so p log kept output e m r same ran =
    let r' = subst (λ (l : PlainLog). IsRecording p l output e) same r in
    let one : r'.machine ≡ m = same_some (run p (expansion log)) r'.machine m r'.runs ran in
    ap (λ (x : MachineState). option_map kind_of_end (end_of p x log.budget)) (sym one) ∙ ap (option_map kind_of_end) r'.ended ∙ ap Some (sym r'.kind)

-- so none of its turns is undefined
pub never_diverges : (p : PlainProgram) (log kept : PlainLog) (output : List ℕ) (e : End) (count clock : ℕ) (thread : Option ℕ) → IsRecording p kept output e → kept ≡ log → DivergesBefore p log count clock thread → ⊥
never_diverges p log kept output e count clock (Some t) r same d =
    let r' = subst (λ (l : PlainLog). IsRecording p l output e) same r in
    doesnt_diverge p log r'.machine clock (Some t) r'.runs (ap (option_map kind_of_end) r'.ended ∙ ap Some (sym r'.kind)) d.0
never_diverges p log kept output e count clock None r same d = d

pub few_events : (p : PlainProgram) (log : PlainLog) (m : MachineState) → IsLawful log → run p (expansion log) ≡ Some m → length m.history ≤ 1048576
few_events p log m law ran = omega (arith, run-length p (expansion log) m ran, length-threads log.intervals, law.within_budget, law.budget_high)

low_threads : (h : List Entry) → AllByRecursion (λ t. t < 64) (threads_of h) → AllByRecursion (λ e. e.thread < 64) h
low_threads [] all = tt
low_threads (e ∷ es) all = (all.0, low_threads es all.1)

pub few_threads : (p : PlainProgram) (log : PlainLog) (m : MachineState) → IsLawful log → run p (expansion log) ≡ Some m → All (λ e. e.thread < 64) m.history
few_threads p log m law ran =
    let low = subst (λ (ts : List ℕ). All (λ t. t < 64) ts) (sym (column p (expansion log) m ran)) (expansion_low log law) in
    All-from_recursion (λ (e : Entry). e.thread < 64) m.history (low_threads m.history (recursion_from_All (λ t. t < 64) (threads_of m.history) low))

pub declared : (p : PlainProgram) (log : PlainLog) (m : MachineState) (found : List Race) → run p (expansion log) ≡ Some m → IsReport m.history found → All (λ r. IsDeclared p.statics r.place) found
declared p log m found ran report = races_declared _ m.history m.world found (legal p (expansion log) m ran) report
