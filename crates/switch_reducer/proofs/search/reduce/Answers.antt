use Rattle.std.proofs.Common.{◌≡◌, ◌≤◌, ◌+◌, ◌*◌, sym, ◌∙◌, ap, subst, arith, length}
use Rattle.switch_reducer.specs.Reduced.{IsReduced}
use Rattle.std.proofs.lemmas.Result.{err_from_is_err_and}
use Rattle.schedule_model.specs.Outcomes.{unresolved_among}
use Rattle.switch_reducer.specs.Search.{reduced_in_order, tests_in_order}
use Rattle.switch_reducer.specs.Sorted.{sorted}
use Rattle.switch_reducer.proofs.Ordered.{length_sorted}
use Rattle.switch_reducer.proofs.Bounds.{needed-le}
use Rattle.switch_reducer.proofs.Minimal.{reduced_is}
use Rattle.switch_reducer.proofs.Within.{reduced_no_longer}
use Rattle.switch_reducer.proofs.Going.{never_spent}
use Rattle.switch_reducer.proofs.search.reduce.Goals as goal

pub reduce_in_order-requires-clause-few : goal.reduce_in_order-requires-clause-few
reduce_in_order-requires-clause-few g c =
    let is : c.in_ok-times.times.items ≡ sorted c.args.fail.now = c.in_ok-times.ensures ∙ ap sorted (c.deref.ensures.value ∙ c.fail.view_is) in
    omega (arith, ap length is, length_sorted c.args.fail.now, c.requires.size)

pub returns-clause-reduced : goal.returns-clause-reduced
returns-clause-reduced g c =
    let is : c.in_ok-times.times.items ≡ sorted c.args.fail.now = c.in_ok-times.ensures ∙ ap sorted (c.deref.ensures.value ∙ c.fail.view_is) in
    subst (IsReduced (g.R.Rounds.outcome c.args.rounds.now) c.args.fail.now) (sym (c.in_ok-schedule.ensures.last ∙ ap (reduced_in_order (g.R.Rounds.outcome c.args.rounds.now)) is))
    (reduced_is (g.R.Rounds.outcome c.args.rounds.now) (g.R.Rounds.events c.args.rounds.now) c.args.fail.now (g.met.R.Rounds.reads_counts c.args.rounds.now) c.requires.fails)

pub returns-clause-few : goal.returns-clause-few
returns-clause-few g c =
    let is : c.in_ok-times.times.items ≡ sorted c.args.fail.now = c.in_ok-times.ensures ∙ ap sorted (c.deref.ensures.value ∙ c.fail.view_is) in
    omega (arith, c.asked.ensures, c.in_ok-schedule.ensures.asked, c.requires.fresh, ap (λ l. length (tests_in_order (g.R.Rounds.outcome c.args.rounds.now) l)) is, needed-le (g.R.Rounds.outcome c.args.rounds.now) c.args.fail.now)

pub returns-clause-no_longer : goal.returns-clause-no_longer
returns-clause-no_longer g c =
    let is : c.in_ok-times.times.items ≡ sorted c.args.fail.now = c.in_ok-times.ensures ∙ ap sorted (c.deref.ensures.value ∙ c.fail.view_is) in
    let last = c.in_ok-schedule.ensures.last ∙ ap (reduced_in_order (g.R.Rounds.outcome c.args.rounds.now)) is in
    subst (λ l. length l ≤ length c.args.fail.now) (sym last)
    (reduced_no_longer (g.R.Rounds.outcome c.args.rounds.now) c.args.fail.now _ (reduced_is (g.R.Rounds.outcome c.args.rounds.now) (g.R.Rounds.events c.args.rounds.now) c.args.fail.now (g.met.R.Rounds.reads_counts c.args.rounds.now) c.requires.fails))

pub returns-clause-unresolved : goal.returns-clause-unresolved
returns-clause-unresolved g c =
    let is : c.in_ok-times.times.items ≡ sorted c.args.fail.now = c.in_ok-times.ensures ∙ ap sorted (c.deref.ensures.value ∙ c.fail.view_is) in
    omega (arith, c.unresolved.ensures, c.in_ok-schedule.ensures.unresolved, c.requires.fresh, g.met.R.Rounds.unresolved_counted c.args.rounds.now, ap (λ l. unresolved_among (g.R.Rounds.outcome c.args.rounds.now) (tests_in_order (g.R.Rounds.outcome c.args.rounds.now) l)) is)

pub returns-in_err-schedule-clause-ample : goal.returns-in_err-schedule-clause-ample
returns-in_err-schedule-clause-ample g c = λ ample.
    let is : c.in_ok-times.times.items ≡ sorted c.args.fail.now = c.in_ok-times.ensures ∙ ap sorted (c.deref.ensures.value ∙ c.fail.view_is) in
    let p = err_from_is_err_and c.from_residual-in_err-schedule.result c.from_residual-in_err-schedule.ensures.1 in
    let few : g.R.Rounds.asked c.args.rounds.now + length (tests_in_order (g.R.Rounds.outcome c.args.rounds.now) c.in_ok-times.times.items) ≤ 8 * (length c.args.fail.now * length c.args.fail.now) =
    omega (arith, c.requires.fresh, ap (λ l. length (tests_in_order (g.R.Rounds.outcome c.args.rounds.now) l)) is, needed-le (g.R.Rounds.outcome c.args.rounds.now) c.args.fail.now) in
    rw (p.1, p.2) (never_spent c.args.budget _ (8 * (length c.args.fail.now * length c.args.fail.now)) c.in_err-schedule.field-0.0 few ample c.in_err-schedule.ensures.spent)
