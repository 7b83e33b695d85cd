use Rattle.std.proofs.Common.{◌≡◌, ◌+◌, ap, sym, ◌∙◌, length}
use Rattle.std.proofs.lemmas.Result.{err_from_is_err_and}
use Rattle.std.specs.Prelude.{Some, None}
use Rattle.switch_reducer.specs.Rounds.{State, follower, start}
use Rattle.switch_reducer.specs.Search.{tests_from}
use Rattle.switch_reducer.proofs.Going.{step, end, spent_still}
use Rattle.switch_reducer.proofs.search.search_from.Goals as goal

pub returns-in_err-next-clause-spent : goal.returns-in_err-next-clause-spent
returns-in_err-next-clause-spent g c =
    let i = c.loop-state.invariant in
    let p = err_from_is_err_and c.from_residual.result c.from_residual.ensures.1 in
    rw (p.1, p.2) (spent_still (g.R.Rounds.outcome c.args.rounds.now) (g.R.Rounds.outcome c.loop-state.rounds) c.loop-state.state c.args.budget (g.R.Rounds.asked c.loop-state.rounds) (g.R.Rounds.asked c.args.rounds.now + length (tests_from (g.R.Rounds.outcome c.args.rounds.now) (start c.args.times.items))) c.in_err-next.field-0.0 i.fine i.same i.asked c.in_err-next.ensures.spent)

pub loop-state-smaller : goal.loop-state-smaller
loop-state-smaller g c =
    let i = c.loop-state.invariant in
    let e = c.in_ok-next.ensures in
    let next : Some c.in-Some.next ≡ follower (g.R.Rounds.outcome c.loop-state.rounds) c.loop-state.state = sym c.in-Some.is ∙ e.next in
    (step (g.R.Rounds.outcome c.args.rounds.now) (g.R.Rounds.outcome c.loop-state.rounds) c.loop-state.state c.in-Some.next (g.R.Rounds.asked c.loop-state.rounds) (g.R.Rounds.asked c.follower.new.rounds) (g.R.Rounds.unresolved c.loop-state.rounds) (g.R.Rounds.unresolved c.follower.new.rounds) i.fine i.same next e.asked e.unresolved).less

pub loop-state-preserved : goal.loop-state-preserved
loop-state-preserved g c =
    let i = c.loop-state.invariant in
    let e = c.in_ok-next.ensures in
    let next : Some c.in-Some.next ≡ follower (g.R.Rounds.outcome c.loop-state.rounds) c.loop-state.state = sym c.in-Some.is ∙ e.next in
    let s = step (g.R.Rounds.outcome c.args.rounds.now) (g.R.Rounds.outcome c.loop-state.rounds) c.loop-state.state c.in-Some.next (g.R.Rounds.asked c.loop-state.rounds) (g.R.Rounds.asked c.follower.new.rounds) (g.R.Rounds.unresolved c.loop-state.rounds) (g.R.Rounds.unresolved c.follower.new.rounds) i.fine i.same next e.asked e.unresolved in
    record {
      fine = s.fine;
      same = e.outcome ∙ i.same;
      events = e.events ∙ i.events;
      within = e.within;
      asked = s.asked ∙ i.asked;
      unresolved = s.unresolved ∙ i.unresolved;
      last = s.last ∙ i.last;
    }

pub returns-clause-last : goal.returns-clause-last
returns-clause-last g c =
    let i = c.loop-state.invariant in
    let e = c.in_ok-next.ensures in
    let next : None ≡ follower (g.R.Rounds.outcome c.loop-state.rounds) c.loop-state.state = sym c.in_default.is ∙ e.next in
    c.into_schedule.ensures.times ∙ ap (λ (s : State). s.times) (sym (end (g.R.Rounds.outcome c.args.rounds.now) (g.R.Rounds.outcome c.loop-state.rounds) c.loop-state.state (g.R.Rounds.asked c.loop-state.rounds) (g.R.Rounds.asked c.follower.new.rounds) (g.R.Rounds.unresolved c.loop-state.rounds) (g.R.Rounds.unresolved c.follower.new.rounds) i.same next e.asked e.unresolved).last ∙ i.last)

pub returns-clause-asked : goal.returns-clause-asked
returns-clause-asked g c =
    let i = c.loop-state.invariant in
    let e = c.in_ok-next.ensures in
    let next : None ≡ follower (g.R.Rounds.outcome c.loop-state.rounds) c.loop-state.state = sym c.in_default.is ∙ e.next in
    (end (g.R.Rounds.outcome c.args.rounds.now) (g.R.Rounds.outcome c.loop-state.rounds) c.loop-state.state (g.R.Rounds.asked c.loop-state.rounds) (g.R.Rounds.asked c.follower.new.rounds) (g.R.Rounds.unresolved c.loop-state.rounds) (g.R.Rounds.unresolved c.follower.new.rounds) i.same next e.asked e.unresolved).asked ∙ i.asked

pub returns-clause-unresolved : goal.returns-clause-unresolved
returns-clause-unresolved g c =
    let i = c.loop-state.invariant in
    let e = c.in_ok-next.ensures in
    let next : None ≡ follower (g.R.Rounds.outcome c.loop-state.rounds) c.loop-state.state = sym c.in_default.is ∙ e.next in
    (end (g.R.Rounds.outcome c.args.rounds.now) (g.R.Rounds.outcome c.loop-state.rounds) c.loop-state.state (g.R.Rounds.asked c.loop-state.rounds) (g.R.Rounds.asked c.follower.new.rounds) (g.R.Rounds.unresolved c.loop-state.rounds) (g.R.Rounds.unresolved c.follower.new.rounds) i.same next e.asked e.unresolved).unresolved ∙ i.unresolved
