use Rattle.std.proofs.Common.{◌≡◌, ◌+◌, subst, ◌∙◌, arith, refl, false, take}
use Rattle.schedule_model.specs.Outcomes.{unresolved_among}
use Rattle.schedule_model.specs.Finds.{IsFirstResolved, tests_counted}
use Rattle.schedule_model.specs.declared.rounds.Found.{Found}
use Rattle.switch_reducer.proofs.Asking.{long, answered_upto, answered_all, unresolved_upto, unresolved_all}
use Rattle.switch_reducer.proofs.round.ask.Goals as goal

pub first_resolved-requires-clause-few : goal.first_resolved-requires-clause-few
first_resolved-requires-clause-few g c = omega (arith, long (g.R.Rounds.outcome c.args.rounds.now) c.args.state.now c.args.from c.args.count c.as_slice.result.now (c.as_slice.ensures.value ∙ c.in_ok-tests.ensures.tests))

pub first_resolved-requires-clause-room : goal.first_resolved-requires-clause-room
first_resolved-requires-clause-room g c = omega (arith, c.requires.room, long (g.R.Rounds.outcome c.args.rounds.now) c.args.state.now c.args.from c.args.count c.as_slice.result.now (c.as_slice.ensures.value ∙ c.in_ok-tests.ensures.tests))

pub returns-in-Resolved-clause-answered : goal.returns-in-Resolved-clause-answered
returns-in-Resolved-clause-answered g c =
    let first = subst (IsFirstResolved (g.R.Rounds.outcome c.args.rounds.now) c.as_slice.result.now) c.in-Resolved.is c.in_ok-at.ensures.first in
    answered_upto (g.R.Rounds.outcome c.args.rounds.now) c.args.state.now c.args.from c.args.count c.as_slice.result.now (c.as_slice.ensures.value ∙ c.in_ok-tests.ensures.tests) c.in-Resolved.at c.in-Resolved.outcome
    (record { count = c.in-Resolved.at + 1; fails = c.is_fail.result }) refl c.is_fail.ensures first

pub returns-in-Resolved-clause-unresolved : goal.returns-in-Resolved-clause-unresolved
returns-in-Resolved-clause-unresolved g c =
    let first = subst (IsFirstResolved (g.R.Rounds.outcome c.args.rounds.now) c.as_slice.result.now) c.in-Resolved.is c.in_ok-at.ensures.first in
    let unresolved = subst (λ (f : Found). g.R.Rounds.unresolved c.first_resolved.new.self ≡ g.R.Rounds.unresolved c.args.rounds.now + unresolved_among (g.R.Rounds.outcome c.args.rounds.now) (take (tests_counted c.as_slice.result.now f) c.as_slice.result.now)) c.in-Resolved.is c.in_ok-at.ensures.unresolved in
    unresolved_upto (g.R.Rounds.outcome c.args.rounds.now) c.args.state.now c.args.from c.args.count c.as_slice.result.now (c.as_slice.ensures.value ∙ c.in_ok-tests.ensures.tests) c.in-Resolved.at c.in-Resolved.outcome (c.in-Resolved.at + 1) _ _ refl first unresolved

pub returns-clause-answered : goal.returns-clause-answered
returns-clause-answered g c =
    let first = subst (IsFirstResolved (g.R.Rounds.outcome c.args.rounds.now) c.as_slice.result.now) c.in-NoneResolved.is c.in_ok-at.ensures.first in
    answered_all (g.R.Rounds.outcome c.args.rounds.now) c.args.state.now c.args.from c.args.count c.as_slice.result.now (c.as_slice.ensures.value ∙ c.in_ok-tests.ensures.tests) (record { count = c.args.count; fails = false }) c.requires.some refl refl first

pub returns-clause-asked : goal.returns-clause-asked
returns-clause-asked g c =
    let asked = subst (λ (f : Found). g.R.Rounds.asked c.first_resolved.new.self ≡ g.R.Rounds.asked c.args.rounds.now + tests_counted c.as_slice.result.now f) c.in-NoneResolved.is c.in_ok-at.ensures.asked in
    omega (arith, asked, long (g.R.Rounds.outcome c.args.rounds.now) c.args.state.now c.args.from c.args.count c.as_slice.result.now (c.as_slice.ensures.value ∙ c.in_ok-tests.ensures.tests))

pub returns-clause-unresolved : goal.returns-clause-unresolved
returns-clause-unresolved g c =
    let unresolved = subst (λ (f : Found). g.R.Rounds.unresolved c.first_resolved.new.self ≡ g.R.Rounds.unresolved c.args.rounds.now + unresolved_among (g.R.Rounds.outcome c.args.rounds.now) (take (tests_counted c.as_slice.result.now f) c.as_slice.result.now)) c.in-NoneResolved.is c.in_ok-at.ensures.unresolved in
    unresolved_all (g.R.Rounds.outcome c.args.rounds.now) c.args.state.now c.args.from c.args.count c.as_slice.result.now (c.as_slice.ensures.value ∙ c.in_ok-tests.ensures.tests) _ _ unresolved
