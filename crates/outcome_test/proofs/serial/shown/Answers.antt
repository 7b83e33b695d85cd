use Rattle.std.proofs.Common.{◌≡◌, ℕ, List, Some, ap, sym, ◌∙◌, subst}
use Rattle.std.specs.Prelude.{IsPermutation}
use Rattle.machine_model.specs.Machine.{run}
use Rattle.machine_model.specs.Ring.{schedule_threads}
use Rattle.schedule_model.specs.Outcomes.{end_under, outcome_of}
use Rattle.switch_schedule.proofs.Alike.{reads_counts}
use Rattle.outcome_test.specs.Memos.{shown_of}
use Rattle.outcome_test.proofs.Rows.{remembered, same_in_order, still_remembers}
use Rattle.outcome_test.proofs.Showing.{end_shows}
use Rattle.outcome_test.proofs.serial.shown.Goals as goal

pub returns-in_err-remember-clause-remembers : goal.returns-in_err-remember-clause-remembers
returns-in_err-remember-clause-remembers c =
    let p = c.args.plain.now in
    let sorted = c.in_ok-sorted.sorted.items in
    let times : c.in_ok-times.times.items ≡ sorted = c.in_ok-times.ensures.items ∙ c.deref-2.ensures.value in
    let ended : end_under p c.args.events (run p (schedule_threads p sorted c.args.events)) ≡ Some c.in_ok-end.end =
    subst (λ (ts : List ℕ). end_under p c.args.events (run p (schedule_threads p ts c.args.events)) ≡ Some c.in_ok-end.end) times c.in_ok-end.ensures.end in
    still_remembers (outcome_of p c.args.events c.args.fault.now) sorted c.outcome-shown.result c.args.memo.now c.remember.new.self
    (end_shows p sorted c.args.events c.args.fault.now c.in_ok-end.end c.outcome-shown.result ended c.outcome-shown.ensures) c.in_err-remember.ensures.adds c.requires.remembers

pub returns-clause-remembers : goal.returns-clause-remembers
returns-clause-remembers c =
    let p = c.args.plain.now in
    let sorted = c.in_ok-sorted.sorted.items in
    let times : c.in_ok-times.times.items ≡ sorted = c.in_ok-times.ensures.items ∙ c.deref-2.ensures.value in
    let ended : end_under p c.args.events (run p (schedule_threads p sorted c.args.events)) ≡ Some c.in_ok-end.end =
    subst (λ (ts : List ℕ). end_under p c.args.events (run p (schedule_threads p ts c.args.events)) ≡ Some c.in_ok-end.end) times c.in_ok-end.ensures.end in
    still_remembers (outcome_of p c.args.events c.args.fault.now) sorted c.outcome-shown.result c.args.memo.now c.remember.new.self
    (end_shows p sorted c.args.events c.args.fault.now c.in_ok-end.end c.outcome-shown.result ended c.outcome-shown.ensures) c.in_ok-remember.ensures.adds c.requires.remembers

pub returns-in-Some-clause-shows : goal.returns-in-Some-clause-shows
returns-in-Some-clause-shows c =
    let order : IsPermutation c.args.test.now c.in_ok-sorted.sorted.items = subst (λ (l : List ℕ). IsPermutation l c.in_ok-sorted.sorted.items) (c.deref.ensures.value ∙ c.test.view_is) c.in_ok-sorted.ensures.same in
    sym (same_in_order c.args.events (outcome_of c.args.plain.now c.args.events c.args.fault.now) c.args.test.now c.in_ok-sorted.sorted.items (reads_counts c.args.plain.now c.args.events c.args.fault.now) order)
    ∙ remembered (outcome_of c.args.plain.now c.args.events c.args.fault.now) c.in_ok-sorted.sorted.items c.args.memo.now c.in-Some.shown c.requires.remembers
    (ap (λ (l : List ℕ). shown_of l c.args.memo.now) (sym c.as_slice.ensures.value) ∙ sym c.shown.ensures ∙ c.in-Some.is)

pub returns-clause-shows : goal.returns-clause-shows
returns-clause-shows c =
    let p = c.args.plain.now in
    let sorted = c.in_ok-sorted.sorted.items in
    let times : c.in_ok-times.times.items ≡ sorted = c.in_ok-times.ensures.items ∙ c.deref-2.ensures.value in
    let ended : end_under p c.args.events (run p (schedule_threads p sorted c.args.events)) ≡ Some c.in_ok-end.end =
    subst (λ (ts : List ℕ). end_under p c.args.events (run p (schedule_threads p ts c.args.events)) ≡ Some c.in_ok-end.end) times c.in_ok-end.ensures.end in
    let order : IsPermutation c.args.test.now sorted = subst (λ (l : List ℕ). IsPermutation l sorted) (c.deref.ensures.value ∙ c.test.view_is) c.in_ok-sorted.ensures.same in
    sym (same_in_order c.args.events (outcome_of p c.args.events c.args.fault.now) c.args.test.now sorted (reads_counts p c.args.events c.args.fault.now) order)
    ∙ end_shows p sorted c.args.events c.args.fault.now c.in_ok-end.end c.outcome-shown.result ended c.outcome-shown.ensures
