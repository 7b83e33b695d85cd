use Rattle.std.proofs.Common.{◌≡◌, ◌≤◌, ◌*◌, ◌^◌, ap, subst, sym, ◌∙◌}
use Rattle.std.proofs.lemmas.Result.{err_from_is_err_and}
use Rattle.std.specs.Prelude.{Some, None}
use Rattle.schedule_model.specs.Outcomes.{ReadsCounts}
use Rattle.dd_isolator.specs.Shifts.{padded, units}
use Rattle.dd_isolator.specs.Rounds.{State, start, follower}
use Rattle.dd_isolator.specs.Search.{last_from, tests_needed}
use Rattle.dd_isolator.proofs.Going.{step, end, never_spent, spent_still, minimal_padded, some_padded, same_minimal, same_pair}
use Rattle.dd_isolator.proofs.Padding.{same_length}
use Rattle.dd_isolator.proofs.Bounds.{needed-le}
use Rattle.dd_isolator.proofs.Halving.{halving}
use Rattle.dd_isolator.proofs.search.isolate.Goals as goal

pub returns-in_err-next-clause-spent : goal.returns-in_err-next-clause-spent
returns-in_err-next-clause-spent g c =
    let i = c.loop-state.invariant in
    let p = err_from_is_err_and c.from_residual-in_err-next.result c.from_residual-in_err-next.ensures.1 in
    rw (p.1, p.2) (spent_still (g.R.Rounds.outcome c.args.rounds.now) (g.R.Rounds.outcome c.loop-state.rounds) c.loop-state.state c.args.budget (g.R.Rounds.asked c.loop-state.rounds) (tests_needed (g.R.Rounds.outcome c.args.rounds.now) (padded c.args.events c.args.pass.now c.args.fail.now) (padded c.args.events c.args.fail.now c.args.pass.now)) c.in_err-next.field-0.0 i.fine i.same i.asked c.in_err-next.ensures.spent)

pub returns-in_err-next-clause-ample : goal.returns-in_err-next-clause-ample
returns-in_err-next-clause-ample g c = λ ample.
    let i = c.loop-state.invariant in
    let p = err_from_is_err_and c.from_residual-in_err-next.result c.from_residual-in_err-next.ensures.1 in
    rw (p.1, p.2) (never_spent c.args.budget (tests_needed (g.R.Rounds.outcome c.args.rounds.now) (padded c.args.events c.args.pass.now c.args.fail.now) (padded c.args.events c.args.fail.now c.args.pass.now)) (8 * (units (padded c.args.events c.args.pass.now c.args.fail.now) (padded c.args.events c.args.fail.now c.args.pass.now) * units (padded c.args.events c.args.pass.now c.args.fail.now) (padded c.args.events c.args.fail.now c.args.pass.now))) c.in_err-next.field-0.0
    (needed-le (g.R.Rounds.outcome c.args.rounds.now) (padded c.args.events c.args.pass.now c.args.fail.now) (padded c.args.events c.args.fail.now c.args.pass.now) (same_length c.args.events c.args.pass.now c.args.fail.now)) ample
    (spent_still (g.R.Rounds.outcome c.args.rounds.now) (g.R.Rounds.outcome c.loop-state.rounds) c.loop-state.state c.args.budget (g.R.Rounds.asked c.loop-state.rounds) (tests_needed (g.R.Rounds.outcome c.args.rounds.now) (padded c.args.events c.args.pass.now c.args.fail.now) (padded c.args.events c.args.fail.now c.args.pass.now)) c.in_err-next.field-0.0 i.fine i.same i.asked c.in_err-next.ensures.spent))

pub loop-state-smaller : goal.loop-state-smaller
loop-state-smaller g c =
    let i = c.loop-state.invariant in
    let e = c.in_ok-next.ensures in
    let next : Some c.in-Some.next ≡ follower (g.R.Rounds.outcome c.loop-state.rounds) c.loop-state.state = sym c.in-Some.is ∙ e.next in
    (step (g.R.Rounds.outcome c.args.rounds.now) (g.R.Rounds.outcome c.loop-state.rounds) c.loop-state.state c.in-Some.next (g.R.Rounds.asked c.loop-state.rounds) (g.R.Rounds.asked c.follower.new.rounds) (g.R.Rounds.unresolved c.loop-state.rounds) (g.R.Rounds.unresolved c.follower.new.rounds) i.fine i.same next e.asked e.unresolved).less

pub loop-state-preserved : goal.loop-state-preserved
loop-state-preserved g c =
    let i = c.loop-state.invariant in
    let e = c.in_ok-next.ensures in
    let next : Some c.in-Some.next ≡ follower (g.R.Rounds.outcome c.loop-state.rounds) c.loop-state.state = sym c.in-Some.is ∙ e.next in
    let s = step (g.R.Rounds.outcome c.args.rounds.now) (g.R.Rounds.outcome c.loop-state.rounds) c.loop-state.state c.in-Some.next (g.R.Rounds.asked c.loop-state.rounds) (g.R.Rounds.asked c.follower.new.rounds) (g.R.Rounds.unresolved c.loop-state.rounds) (g.R.Rounds.unresolved c.follower.new.rounds) i.fine i.same next e.asked e.unresolved in
    record {
      fine = s.fine;
      same = e.outcome ∙ i.same;
      events = e.events ∙ i.events;
      within = e.within;
      asked = s.asked ∙ i.asked;
      unresolved = s.unresolved ∙ i.unresolved;
      last = s.last ∙ i.last;
    }

pub returns-clause-isolated : goal.returns-clause-isolated
returns-clause-isolated g c =
    let i = c.loop-state.invariant in
    let e = c.in_ok-next.ensures in
    let next : None ≡ follower (g.R.Rounds.outcome c.loop-state.rounds) c.loop-state.state = sym c.in_default.is ∙ e.next in
    let s = end (g.R.Rounds.outcome c.args.rounds.now) (g.R.Rounds.outcome c.loop-state.rounds) c.loop-state.state (g.R.Rounds.asked c.loop-state.rounds) (g.R.Rounds.asked c.follower.new.rounds) (g.R.Rounds.unresolved c.loop-state.rounds) (g.R.Rounds.unresolved c.follower.new.rounds) i.same next e.asked e.unresolved in
    let last : c.loop-state.state ≡ last_from (g.R.Rounds.outcome c.args.rounds.now) (start (padded c.args.events c.args.pass.now c.args.fail.now) (padded c.args.events c.args.fail.now c.args.pass.now)) = sym s.last ∙ i.last in
    same_minimal (g.R.Rounds.outcome c.args.rounds.now) (padded c.args.events c.args.pass.now c.args.fail.now) (padded c.args.events c.args.fail.now c.args.pass.now) c.in_ok-copied.field-0.items c.in_ok-copied-2.field-0.items (last_from (g.R.Rounds.outcome c.args.rounds.now) (start (padded c.args.events c.args.pass.now c.args.fail.now) (padded c.args.events c.args.fail.now c.args.pass.now)))
    (c.in_ok-copied.ensures ∙ c.passing.ensures.value ∙ ap (λ (x : State). x.passing) last)
    (c.in_ok-copied-2.ensures ∙ c.failing.ensures.value ∙ ap (λ (x : State). x.failing) last)
    (minimal_padded (g.R.Rounds.outcome c.args.rounds.now) c.args.events (subst (λ n. ReadsCounts n (g.R.Rounds.outcome c.args.rounds.now)) c.requires.events (g.met.R.Rounds.reads_counts c.args.rounds.now)) c.args.pass.now c.args.fail.now c.requires.passes c.requires.fails)

pub returns-clause-last : goal.returns-clause-last
returns-clause-last g c =
    let i = c.loop-state.invariant in
    let e = c.in_ok-next.ensures in
    let next : None ≡ follower (g.R.Rounds.outcome c.loop-state.rounds) c.loop-state.state = sym c.in_default.is ∙ e.next in
    let s = end (g.R.Rounds.outcome c.args.rounds.now) (g.R.Rounds.outcome c.loop-state.rounds) c.loop-state.state (g.R.Rounds.asked c.loop-state.rounds) (g.R.Rounds.asked c.follower.new.rounds) (g.R.Rounds.unresolved c.loop-state.rounds) (g.R.Rounds.unresolved c.follower.new.rounds) i.same next e.asked e.unresolved in
    let last : c.loop-state.state ≡ last_from (g.R.Rounds.outcome c.args.rounds.now) (start (padded c.args.events c.args.pass.now c.args.fail.now) (padded c.args.events c.args.fail.now c.args.pass.now)) = sym s.last ∙ i.last in
    same_pair c.in_ok-copied.field-0.items c.in_ok-copied-2.field-0.items c.loop-state.state (last_from (g.R.Rounds.outcome c.args.rounds.now) (start (padded c.args.events c.args.pass.now c.args.fail.now) (padded c.args.events c.args.fail.now c.args.pass.now))) (c.in_ok-copied.ensures ∙ c.passing.ensures.value) (c.in_ok-copied-2.ensures ∙ c.failing.ensures.value) last

pub returns-clause-asked : goal.returns-clause-asked
returns-clause-asked g c =
    let i = c.loop-state.invariant in
    let e = c.in_ok-next.ensures in
    let next : None ≡ follower (g.R.Rounds.outcome c.loop-state.rounds) c.loop-state.state = sym c.in_default.is ∙ e.next in
    c.asked.ensures ∙ (end (g.R.Rounds.outcome c.args.rounds.now) (g.R.Rounds.outcome c.loop-state.rounds) c.loop-state.state (g.R.Rounds.asked c.loop-state.rounds) (g.R.Rounds.asked c.follower.new.rounds) (g.R.Rounds.unresolved c.loop-state.rounds) (g.R.Rounds.unresolved c.follower.new.rounds) i.same next e.asked e.unresolved).asked ∙ i.asked

pub returns-clause-unresolved : goal.returns-clause-unresolved
returns-clause-unresolved g c =
    let i = c.loop-state.invariant in
    let e = c.in_ok-next.ensures in
    let next : None ≡ follower (g.R.Rounds.outcome c.loop-state.rounds) c.loop-state.state = sym c.in_default.is ∙ e.next in
    c.unresolved.ensures ∙ (end (g.R.Rounds.outcome c.args.rounds.now) (g.R.Rounds.outcome c.loop-state.rounds) c.loop-state.state (g.R.Rounds.asked c.loop-state.rounds) (g.R.Rounds.asked c.follower.new.rounds) (g.R.Rounds.unresolved c.loop-state.rounds) (g.R.Rounds.unresolved c.follower.new.rounds) i.same next e.asked e.unresolved).unresolved ∙ i.unresolved

pub returns-clause-few : goal.returns-clause-few
returns-clause-few g c =
    let i = c.loop-state.invariant in
    let e = c.in_ok-next.ensures in
    let next : None ≡ follower (g.R.Rounds.outcome c.loop-state.rounds) c.loop-state.state = sym c.in_default.is ∙ e.next in
    subst (λ n. n ≤ 8 * (units (padded c.args.events c.args.pass.now c.args.fail.now) (padded c.args.events c.args.fail.now c.args.pass.now) * units (padded c.args.events c.args.pass.now c.args.fail.now) (padded c.args.events c.args.fail.now c.args.pass.now))) (sym (c.asked.ensures ∙ (end (g.R.Rounds.outcome c.args.rounds.now) (g.R.Rounds.outcome c.loop-state.rounds) c.loop-state.state (g.R.Rounds.asked c.loop-state.rounds) (g.R.Rounds.asked c.follower.new.rounds) (g.R.Rounds.unresolved c.loop-state.rounds) (g.R.Rounds.unresolved c.follower.new.rounds) i.same next e.asked e.unresolved).asked ∙ i.asked))
    (needed-le (g.R.Rounds.outcome c.args.rounds.now) (padded c.args.events c.args.pass.now c.args.fail.now) (padded c.args.events c.args.fail.now c.args.pass.now) (same_length c.args.events c.args.pass.now c.args.fail.now))

pub returns-clause-halves : goal.returns-clause-halves
returns-clause-halves g c = λ none.
    let i = c.loop-state.invariant in
    let e = c.in_ok-next.ensures in
    let next : None ≡ follower (g.R.Rounds.outcome c.loop-state.rounds) c.loop-state.state = sym c.in_default.is ∙ e.next in
    subst (λ n. 2 ^ n ≤ 2 * units (padded c.args.events c.args.pass.now c.args.fail.now) (padded c.args.events c.args.fail.now c.args.pass.now)) (sym (c.asked.ensures ∙ (end (g.R.Rounds.outcome c.args.rounds.now) (g.R.Rounds.outcome c.loop-state.rounds) c.loop-state.state (g.R.Rounds.asked c.loop-state.rounds) (g.R.Rounds.asked c.follower.new.rounds) (g.R.Rounds.unresolved c.loop-state.rounds) (g.R.Rounds.unresolved c.follower.new.rounds) i.same next e.asked e.unresolved).asked ∙ i.asked))
    (halving (g.R.Rounds.outcome c.args.rounds.now) (padded c.args.events c.args.pass.now c.args.fail.now) (padded c.args.events c.args.fail.now c.args.pass.now) (same_length c.args.events c.args.pass.now c.args.fail.now)
    (some_padded (g.R.Rounds.outcome c.args.rounds.now) c.args.events (subst (λ n. ReadsCounts n (g.R.Rounds.outcome c.args.rounds.now)) c.requires.events (g.met.R.Rounds.reads_counts c.args.rounds.now)) c.args.pass.now c.args.fail.now c.requires.passes c.requires.fails)
    (sym (c.unresolved.ensures ∙ (end (g.R.Rounds.outcome c.args.rounds.now) (g.R.Rounds.outcome c.loop-state.rounds) c.loop-state.state (g.R.Rounds.asked c.loop-state.rounds) (g.R.Rounds.asked c.follower.new.rounds) (g.R.Rounds.unresolved c.loop-state.rounds) (g.R.Rounds.unresolved c.follower.new.rounds) i.same next e.asked e.unresolved).unresolved ∙ i.unresolved) ∙ none))
