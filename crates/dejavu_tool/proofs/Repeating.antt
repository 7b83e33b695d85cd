-- One text and the bytes of one log have one run.
use Rattle.std.proofs.Common.{◌≡◌, ℕ, List, length, Option, Some, Result, Ok, Err, ap, sym, subst, ◌∙◌}
use Rattle.std.specs.Prelude.{IfOk}
use Rattle.vm_model.specs.declared.ends.End.{End}
use Rattle.vm_model.specs.Program.{PlainProgram}
use Rattle.machine_model.specs.Machine.{MachineState, end_of, run}
use Rattle.schedule_log.specs.Logs.{PlainLog, events, expansion}
use Rattle.schedule_log.specs.Reading.{read_log}
use Rattle.schedule_log.specs.Spelling.{Spells}
use Rattle.schedule_log.proofs.Spelled.{read_again}
use Rattle.report_writer.specs.Texts.{run_text}
use Rattle.thread_driver.specs.Recordings.{IsRecording}
use Rattle.tool_stages.specs.Accepting.{linked}
use Rattle.tool_stages.proofs.Telling.{same_ok}
use Rattle.dejavu_tool.specs.Runs.{TellsRecording}
use Rattle.dejavu_tool.specs.Headline.{IsRunOfFiles}

pub same_some : {A : Type 0} (o : Option A) (x y : A) → o ≡ Some x → o ≡ Some y → x ≡ y
same_some o x y a b = cc

pub spelled_is_read : (log : PlainLog) (bytes : List ℕ) → Spells log bytes → read_log bytes ≡ Ok log
spelled_is_read log bytes s = rw s.1 (read_again log s.0)

-- what is printed of a run depends on the program and the log alone
same_run : (p q : PlainProgram) (k l : PlainLog) (m n : MachineState) (e f : End) (printed also : List ℕ) → p ≡ q → k ≡ l
    → run p (expansion k) ≡ Some m → run q (expansion l) ≡ Some n → end_of p m k.budget ≡ Some e → end_of q n l.budget ≡ Some f
    → printed ≡ run_text p (events k) (length k.intervals) e m.world.output → also ≡ run_text q (events l) (length l.intervals) f n.world.output → printed ≡ also
same_run p q k l m n e f printed also same_p same_l runs other_runs ended other_ended prints other_prints =
    let r1 = subst (λ (x : PlainProgram). run x (expansion k) ≡ Some m) same_p runs in
    let r2 = subst (λ (x : PlainLog). run q (expansion x) ≡ Some m) same_l r1 in
    let same_m = same_some (run q (expansion l)) m n r2 other_runs in
    let d1 = subst (λ (x : PlainProgram). end_of x m k.budget ≡ Some e) same_p ended in
    let d2 = subst (λ (x : PlainLog). end_of q m x.budget ≡ Some e) same_l d1 in
    let d3 = subst (λ (x : MachineState). end_of q x l.budget ≡ Some e) same_m d2 in
    let same_e = same_some (end_of q n l.budget) e f d3 other_ended in
    let w1 = subst (λ (x : PlainProgram). printed ≡ run_text x (events k) (length k.intervals) e m.world.output) same_p prints in
    let w2 = subst (λ (x : PlainLog). printed ≡ run_text q (events x) (length x.intervals) e m.world.output) same_l w1 in
    let w3 = subst (λ (x : MachineState). printed ≡ run_text q (events l) (length l.intervals) e x.world.output) same_m w2 in
    let w4 = subst (λ (x : End). printed ≡ run_text q (events l) (length l.intervals) x n.world.output) same_e w3 in
    w4 ∙ sym other_prints

pub same_files : (before logs other_before other_logs : List ℕ → Option (List ℕ)) (program log other_program other_log printed also : List ℕ)
    → IsRunOfFiles before logs program log printed → IsRunOfFiles other_before other_logs other_program other_log also → before program ≡ other_before other_program → logs log ≡ other_logs other_log → printed ≡ also
same_files before logs other_before other_logs program log other_program other_log printed also r o texts bytes =
    let same_text = same_some (other_before other_program) r.text o.text (sym texts ∙ r.loaded) o.loaded in
    let same_p = same_ok (linked o.text) r.of_program o.of_program (subst (λ (x : List ℕ). linked x ≡ Ok r.of_program) same_text r.accepted.links) o.accepted.links in
    let same_bytes = same_some (other_logs other_log) r.bytes o.bytes (sym bytes ∙ r.kept) o.kept in
    let read = subst (λ (x : List ℕ). read_log x ≡ Ok r.of_log) same_bytes (spelled_is_read r.of_log r.bytes r.spelled) in
    let same_l = same_ok (read_log o.bytes) r.of_log o.of_log read (spelled_is_read o.of_log o.bytes o.spelled) in
    same_run r.of_program o.of_program r.of_log o.of_log r.machine o.machine r.end o.end printed also same_p same_l r.runs o.runs r.ended o.ended r.prints o.prints

-- the replay of a recording tells what the recording told
pub tells_again : {V E : Type 0} (r : Result V E) (text : V → List ℕ) (p q : PlainProgram) (lanes budget : ℕ) (bytes printed : List ℕ) (log again : PlainLog) (n k : ℕ) (e : End) (output shown : List ℕ)
    → TellsRecording p lanes budget bytes printed → Spells log bytes → IsRecording p again output e → again ≡ log → q ≡ p → n ≡ events again → k ≡ length again.intervals → shown ≡ output
    → IfOk r (λ v. text v ≡ run_text q n k e shown) → IfOk r (λ v. TellsRecording p lanes budget bytes (text v))
tells_again (Ok v) text p q lanes budget bytes printed log again n k e output shown recorded spelled run same is_p is_n is_k is_shown h =
    let one : again ≡ recorded.log = same ∙ same_ok (read_log bytes) log recorded.log (spelled_is_read log bytes spelled) (spelled_is_read recorded.log bytes recorded.spelled) in
    record {
      log = again;
      spelled = subst (λ (l : PlainLog). Spells l bytes) (sym same) spelled;
      budget_is = ap (λ (l : PlainLog). l.budget) one ∙ recorded.budget_is;
      scheduled = λ e. ap expansion one ∙ recorded.scheduled e;
      run = record {
        machine = run.machine;
        runs = run.runs;
        end = e;
        ended = run.ended;
        kind = run.kind;
        prints = h ∙ ap (λ (x : PlainProgram). run_text x n k e shown) is_p ∙ ap (λ (x : ℕ). run_text p x k e shown) is_n ∙ ap (λ (x : ℕ). run_text p (events again) x e shown) is_k ∙ ap (λ (x : List ℕ). run_text p (events again) (length again.intervals) e x) is_shown ∙ ap (λ (x : List ℕ). run_text p (events again) (length again.intervals) e x) run.printed;
      };
    }
tells_again (Err x) text p q lanes budget bytes printed log again n k e output shown recorded spelled run same is_p is_n is_k is_shown h = tt
