-- What a run shows, and how many of the tests that count are unresolved.
use Rattle.std.proofs.Common.{◌≡◌, ℕ, ◌+◌, List, length, take, sym, ◌∙◌, ap, subst, arith, []}
use Rattle.std.specs.Prelude.{Option, Some}
use Rattle.vm_model.specs.declared.ends.End.{End}
use Rattle.vm_model.specs.declared.ends.Fault.{Fault}
use Rattle.vm_model.specs.Program.{PlainProgram}
use Rattle.machine_model.specs.Machine.{MachineState, run}
use Rattle.machine_model.specs.Ring.{schedule_threads}
use Rattle.schedule_log.specs.declared.interval.Interval.{Interval}
use Rattle.schedule_model.specs.declared.outcome.Outcome.{Outcome}
use Rattle.schedule_model.specs.declared.rounds.Found.TheVariants.{Resolved, NoneResolved}
use Rattle.schedule_model.specs.Outcomes.{is_resolved, unresolved_among}
use Rattle.schedule_model.specs.declared.rounds.Found.{Found}
use Rattle.schedule_model.specs.Finds.{IsFirstResolved, tests_counted}
use Rattle.schedule_model.proofs.Fronts.{unresolved_front, resolved_next}
use Rattle.schedule_model.specs.Outcomes.{end_under, outcome_of, outcome_of_end}
use Rattle.switch_schedule.specs.Runs.{IsRunOf}
use Rattle.outcome_test.specs.Rounds.{RoundsState}

pub outcome_is : (p : PlainProgram) (times : List ℕ) (events : ℕ) (fault : Fault) (intervals : List Interval) (clock : ℕ) (output : List ℕ) (e : End) → IsRunOf p times events intervals clock output e → outcome_of p events fault times ≡ outcome_of_end fault (Some e)
unfolding outcome_of
outcome_is p times events fault intervals clock output e r =
    ap (λ (m : Option MachineState). outcome_of_end fault (end_under p events m)) r.runs ∙ ap (outcome_of_end fault) r.ended

-- the end of a run decides
pub end_shows : (p : PlainProgram) (times : List ℕ) (events : ℕ) (fault : Fault) (e : End) (o : Outcome) → end_under p events (run p (schedule_threads p times events)) ≡ Some e → o ≡ outcome_of_end fault (Some e) → outcome_of p events fault times ≡ o
unfolding outcome_of
end_shows p times events fault e o ended shows = ap (outcome_of_end fault) ended ∙ sym shows

pub resolved_counted : (outcome : List ℕ → Outcome) (tests : List (List ℕ)) (at : ℕ) (o : Outcome) → IsFirstResolved outcome tests (Resolved at o) → unresolved_among outcome (take (at + 1) tests) ≡ at
resolved_counted outcome tests at o first = resolved_next outcome tests at first.0 (ap is_resolved (first.2 []) ∙ first.1) first.3

pub none_counted : (outcome : List ℕ → Outcome) (tests : List (List ℕ)) → IsFirstResolved outcome tests NoneResolved → unresolved_among outcome (take (length tests) tests) ≡ length tests
none_counted outcome tests first = unresolved_front outcome tests (length tests) (omega arith) (λ j d low below. first j d below)

-- ---- counts after a round, where s is seen as t

pub resolved_grows : (s t : RoundsState) (tests : List (List ℕ)) (found : Found) (at n : ℕ) (o : Outcome) → s ≡ t → found ≡ Resolved at o → n ≡ at → IsFirstResolved (outcome_of s.program s.events s.fault) tests found → s.unresolved + n ≡ t.unresolved + unresolved_among (outcome_of t.program t.events t.fault) (take (at + 1) tests)
resolved_grows s t tests found at n o same is number first =
    let first' : IsFirstResolved (outcome_of s.program s.events s.fault) tests (Resolved at o) = subst (IsFirstResolved (outcome_of s.program s.events s.fault) tests) is first in
    subst (λ (x : RoundsState). s.unresolved + n ≡ x.unresolved + unresolved_among (outcome_of x.program x.events x.fault) (take (at + 1) tests)) same
    (ap (λ k. s.unresolved + k) (number ∙ sym (resolved_counted (outcome_of s.program s.events s.fault) tests at o first')))

pub none_grows : (s t : RoundsState) (tests : List (List ℕ)) (found : Found) → s ≡ t → found ≡ NoneResolved → IsFirstResolved (outcome_of s.program s.events s.fault) tests found → s.unresolved + length tests ≡ t.unresolved + unresolved_among (outcome_of t.program t.events t.fault) (take (tests_counted tests found) tests)
none_grows s t tests found same is first =
    let first' : IsFirstResolved (outcome_of s.program s.events s.fault) tests NoneResolved = subst (IsFirstResolved (outcome_of s.program s.events s.fault) tests) is first in
    let at_all : s.unresolved + length tests ≡ t.unresolved + unresolved_among (outcome_of t.program t.events t.fault) (take (length tests) tests) =
    subst (λ (x : RoundsState). s.unresolved + length tests ≡ x.unresolved + unresolved_among (outcome_of x.program x.events x.fault) (take (length tests) tests)) same
    (ap (λ k. s.unresolved + k) (sym (none_counted (outcome_of s.program s.events s.fault) tests first'))) in
    subst (λ (f : Found). s.unresolved + length tests ≡ t.unresolved + unresolved_among (outcome_of t.program t.events t.fault) (take (tests_counted tests f) tests)) (sym is) at_all
