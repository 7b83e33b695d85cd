use Rattle.std.proofs.Common.{◌+◌, ap, sym, ◌∙◌, arith, refl}
use Rattle.switch_reducer.proofs.Deciding.{batch_fails, more_unresolved, none_deciding, one_more, still_open}
use Rattle.switch_reducer.proofs.round.first_failing.Goals as goal

pub returns-then-left-eq0-clause-spent : goal.returns-then-left-eq0-clause-spent
returns-then-left-eq0-clause-spent g c =
    let i = c.loop-done.invariant in
    (refl, omega (arith, one_more (g.R.Rounds.outcome c.args.rounds.now) c.args.state.now c.loop-done.done (omega (arith, i.size)) i.tried, i.asked, c.asked.ensures))

pub returns-then-answered-clause-decides : goal.returns-then-answered-clause-decides
returns-then-answered-clause-decides g c =
    let i = c.loop-done.invariant in
    (batch_fails (g.R.Rounds.outcome c.args.rounds.now) (g.R.Rounds.outcome c.loop-done.rounds) c.args.state.now c.loop-done.done c.min-count.result (c.loop-done.done + c.in_ok-answered.answered.count) c.in_ok-answered.answered i.same refl i.tried c.in_ok-answered.ensures.answered (omega (arith, i.size)) c.if-answered.true).decides

pub returns-then-answered-clause-asked : goal.returns-then-answered-clause-asked
returns-then-answered-clause-asked g c =
    let i = c.loop-done.invariant in
    omega (arith, i.asked, c.in_ok-answered.ensures.asked, (batch_fails (g.R.Rounds.outcome c.args.rounds.now) (g.R.Rounds.outcome c.loop-done.rounds) c.args.state.now c.loop-done.done c.min-count.result (c.loop-done.done + c.in_ok-answered.answered.count) c.in_ok-answered.answered i.same refl i.tried c.in_ok-answered.ensures.answered (omega (arith, i.size)) c.if-answered.true).asked)

pub returns-then-answered-clause-unresolved : goal.returns-then-answered-clause-unresolved
returns-then-answered-clause-unresolved g c =
    let i = c.loop-done.invariant in
    more_unresolved (g.R.Rounds.outcome c.args.rounds.now) (g.R.Rounds.outcome c.loop-done.rounds) c.args.state.now c.loop-done.done c.min-count.result (c.loop-done.done + c.in_ok-answered.answered.count) c.in_ok-answered.answered i.same refl i.tried c.in_ok-answered.ensures.answered _ _ _ i.unresolved c.in_ok-answered.ensures.unresolved
    ∙ ap (λ n. g.R.Rounds.unresolved c.args.rounds.now + n) (sym (batch_fails (g.R.Rounds.outcome c.args.rounds.now) (g.R.Rounds.outcome c.loop-done.rounds) c.args.state.now c.loop-done.done c.min-count.result (c.loop-done.done + c.in_ok-answered.answered.count) c.in_ok-answered.answered i.same refl i.tried c.in_ok-answered.ensures.answered (omega (arith, i.size)) c.if-answered.true).unresolved)

pub loop-done-preserved : goal.loop-done-preserved
loop-done-preserved g c =
    let i = c.loop-done.invariant in
    let answered = c.in_ok-answered.ensures.answered in
    record {
      size = i.size;
      below = omega (arith, answered.most);
      same = c.in_ok-answered.ensures.outcome ∙ i.same;
      events = c.in_ok-answered.ensures.events ∙ i.events;
      asked = omega (arith, c.in_ok-answered.ensures.asked, i.asked);
      unresolved = more_unresolved (g.R.Rounds.outcome c.args.rounds.now) (g.R.Rounds.outcome c.loop-done.rounds) c.args.state.now c.loop-done.done c.min-count.result (c.loop-done.done + c.in_ok-answered.answered.count) c.in_ok-answered.answered i.same refl i.tried answered _ _ _ i.unresolved c.in_ok-answered.ensures.unresolved;
      within = omega (arith, c.in_ok-answered.ensures.asked, answered.most, c.asked.ensures, i.within);
      tried = still_open (g.R.Rounds.outcome c.args.rounds.now) (g.R.Rounds.outcome c.loop-done.rounds) c.args.state.now c.loop-done.done c.min-count.result (c.loop-done.done + c.in_ok-answered.answered.count) c.in_ok-answered.answered i.same refl i.tried answered c.if-answered.false;
    }

pub returns-clause-decides : goal.returns-clause-decides
returns-clause-decides g c =
    let i = c.loop-done.invariant in
    (none_deciding (g.R.Rounds.outcome c.args.rounds.now) c.args.state.now c.loop-done.done (omega (arith, i.size, i.below)) i.tried).decides

pub returns-clause-asked : goal.returns-clause-asked
returns-clause-asked g c =
    let i = c.loop-done.invariant in
    omega (arith, i.asked, (none_deciding (g.R.Rounds.outcome c.args.rounds.now) c.args.state.now c.loop-done.done (omega (arith, i.size, i.below)) i.tried).asked)

pub returns-clause-unresolved : goal.returns-clause-unresolved
returns-clause-unresolved g c =
    let i = c.loop-done.invariant in
    i.unresolved ∙ ap (λ n. g.R.Rounds.unresolved c.args.rounds.now + n) (sym (none_deciding (g.R.Rounds.outcome c.args.rounds.now) c.args.state.now c.loop-done.done (omega (arith, i.size, i.below)) i.tried).unresolved)
