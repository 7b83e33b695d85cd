use Rattle.std.proofs.Common.{◌≡◌, ◌+◌, ap, subst, ◌∙◌, arith, refl, take}
use Rattle.schedule_model.specs.Outcomes.{unresolved_among}
use Rattle.schedule_model.specs.Finds.{IsFirstResolved, tests_counted}
use Rattle.schedule_model.specs.declared.rounds.Found.{Found}
use Rattle.dd_isolator.proofs.Asking.{long, found_below, first_resolved_of, none_resolved_of, resolved_counts, none_counts}
use Rattle.dd_isolator.proofs.round.ask.Goals as goal

pub first_resolved-requires-clause-few : goal.first_resolved-requires-clause-few
first_resolved-requires-clause-few g c = omega (arith, long (g.R.Rounds.outcome c.args.rounds.now) c.args.state.now c.args.from c.args.count c.as_slice.result.now (c.as_slice.ensures.value ∙ c.in_ok-tests.ensures.tests))

pub first_resolved-requires-clause-room : goal.first_resolved-requires-clause-room
first_resolved-requires-clause-room g c = omega (arith, c.requires.room, long (g.R.Rounds.outcome c.args.rounds.now) c.args.state.now c.args.from c.args.count c.as_slice.result.now (c.as_slice.ensures.value ∙ c.in_ok-tests.ensures.tests))

pub overflow_add-result : goal.overflow_add-result
overflow_add-result g c =
    let first = subst (IsFirstResolved (g.R.Rounds.outcome c.args.rounds.now) c.as_slice.result.now) c.in-Resolved.is c.in_ok-at.ensures.first in
    omega (arith, found_below (g.R.Rounds.outcome c.args.rounds.now) c.args.state.now c.args.from c.args.count c.as_slice.result.now (c.as_slice.ensures.value ∙ c.in_ok-tests.ensures.tests) c.in-Resolved.at c.in-Resolved.outcome first, c.from.ensures, c.requires.size)

pub returns-in-Resolved-clause-first : goal.returns-in-Resolved-clause-first
returns-in-Resolved-clause-first g c =
    let first = subst (IsFirstResolved (g.R.Rounds.outcome c.args.rounds.now) c.as_slice.result.now) c.in-Resolved.is c.in_ok-at.ensures.first in
    first_resolved_of (g.R.Rounds.outcome c.args.rounds.now) c.args.state.now c.args.from c.args.count c.as_slice.result.now (c.as_slice.ensures.value ∙ c.in_ok-tests.ensures.tests) c.in-Resolved.at c.in-Resolved.outcome
    (record { place = c.args.from + c.from.result; outcome = c.in-Resolved.outcome }) (ap (λ n. c.args.from + n) c.from.ensures) refl first

pub returns-in-Resolved-clause-counts : goal.returns-in-Resolved-clause-counts
returns-in-Resolved-clause-counts g c =
    let first = subst (IsFirstResolved (g.R.Rounds.outcome c.args.rounds.now) c.as_slice.result.now) c.in-Resolved.is c.in_ok-at.ensures.first in
    let asked = subst (λ (f : Found). g.R.Rounds.asked c.first_resolved.new.self ≡ g.R.Rounds.asked c.args.rounds.now + tests_counted c.as_slice.result.now f) c.in-Resolved.is c.in_ok-at.ensures.asked in
    let unresolved = subst (λ (f : Found). g.R.Rounds.unresolved c.first_resolved.new.self ≡ g.R.Rounds.unresolved c.args.rounds.now + unresolved_among (g.R.Rounds.outcome c.args.rounds.now) (take (tests_counted c.as_slice.result.now f) c.as_slice.result.now)) c.in-Resolved.is c.in_ok-at.ensures.unresolved in
    resolved_counts (g.R.Rounds.outcome c.args.rounds.now) c.args.state.now c.args.from c.args.count c.as_slice.result.now (c.as_slice.ensures.value ∙ c.in_ok-tests.ensures.tests) c.in-Resolved.at c.in-Resolved.outcome
    (record { place = c.args.from + c.from.result; outcome = c.in-Resolved.outcome }) _ _ _ _ (ap (λ n. c.args.from + n) c.from.ensures) first asked unresolved

pub returns-clause-first : goal.returns-clause-first
returns-clause-first g c =
    let first = subst (IsFirstResolved (g.R.Rounds.outcome c.args.rounds.now) c.as_slice.result.now) c.in-NoneResolved.is c.in_ok-at.ensures.first in
    none_resolved_of (g.R.Rounds.outcome c.args.rounds.now) c.args.state.now c.args.from c.args.count c.as_slice.result.now (c.as_slice.ensures.value ∙ c.in_ok-tests.ensures.tests) first

pub returns-clause-counts : goal.returns-clause-counts
returns-clause-counts g c =
    let first = subst (IsFirstResolved (g.R.Rounds.outcome c.args.rounds.now) c.as_slice.result.now) c.in-NoneResolved.is c.in_ok-at.ensures.first in
    let asked = subst (λ (f : Found). g.R.Rounds.asked c.first_resolved.new.self ≡ g.R.Rounds.asked c.args.rounds.now + tests_counted c.as_slice.result.now f) c.in-NoneResolved.is c.in_ok-at.ensures.asked in
    let unresolved = subst (λ (f : Found). g.R.Rounds.unresolved c.first_resolved.new.self ≡ g.R.Rounds.unresolved c.args.rounds.now + unresolved_among (g.R.Rounds.outcome c.args.rounds.now) (take (tests_counted c.as_slice.result.now f) c.as_slice.result.now)) c.in-NoneResolved.is c.in_ok-at.ensures.unresolved in
    none_counts (g.R.Rounds.outcome c.args.rounds.now) c.args.state.now c.args.from c.args.count c.as_slice.result.now (c.as_slice.ensures.value ∙ c.in_ok-tests.ensures.tests) _ _ _ _ first asked unresolved
