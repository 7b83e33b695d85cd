-- What the ends of two runs are against the fault of the second.
use Rattle.std.proofs.Common.{◌≡◌, ℕ, Bool, true, cond, List, refl, sym, ◌∙◌, ap, arith}
use Rattle.std.specs.Prelude.{Option, Some, None, ◌&&◌}
use Rattle.std.proofs.lemmas.Bool.{eq-eqb, and_from}
use Rattle.vm_model.specs.declared.ends.End.{End}
use Rattle.vm_model.specs.declared.ends.End.TheVariants as end
use Rattle.vm_model.specs.declared.ends.Fault.{Fault}
use Rattle.vm_model.specs.Program.{PlainProgram}
use Rattle.machine_model.specs.Machine.{run}
use Rattle.machine_model.specs.Ring.{schedule_threads}
use Rattle.schedule_model.specs.declared.outcome.Outcome.{Outcome}
use Rattle.schedule_model.specs.declared.outcome.Outcome.TheVariants.{Pass, Fail, Unresolved}
use Rattle.schedule_log.specs.declared.interval.Interval.{Interval}
use Rattle.schedule_model.specs.Outcomes.{end_under, is_same_fault, kind_number, outcome_of, outcome_of_end}
use Rattle.switch_schedule.specs.Runs.{IsRunOf}
use Rattle.program_isolator.specs.Isolations.{EndsSo}

pub ends_of : (p : PlainProgram) (times : List ℕ) (events : ℕ) (intervals : List Interval) (clock : ℕ) (output : List ℕ) (e : End) → IsRunOf p times events intervals clock output e → EndsSo p events times e
ends_of p times events intervals clock output e r = ap (end_under p events) r.runs ∙ r.ended

same_itself : (f : Fault) → is_same_fault f f ≡ true
same_itself f = and_from _ _ (and_from _ _ (and_from _ _ (eq-eqb (kind_number f.kind) (kind_number f.kind) refl) (eq-eqb f.thread f.thread refl)) (eq-eqb f.method f.method refl)) (eq-eqb f.at f.at refl)

pub passes_of : (p : PlainProgram) (times : List ℕ) (events : ℕ) (f : Fault) → EndsSo p events times end.Done → outcome_of p events f times ≡ Pass
unfolding outcome_of
passes_of p times events f e = ap (outcome_of_end f) e

pub fails_of : (p : PlainProgram) (times : List ℕ) (events : ℕ) (f : Fault) → EndsSo p events times (end.Fault f) → outcome_of p events f times ≡ Fail
unfolding outcome_of
fails_of p times events f e = ap (outcome_of_end f) e ∙ ap (λ b. cond b Fail Unresolved) (same_itself f)
