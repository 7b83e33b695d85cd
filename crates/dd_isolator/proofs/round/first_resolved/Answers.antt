use Rattle.std.proofs.Common.{subst, arith, refl}
use Rattle.std.specs.Prelude.{Option}
use Rattle.dd_isolator.specs.declared.round.Decision.{Decision}
use Rattle.dd_isolator.specs.Answers.{Counts, IsFirstOf}
use Rattle.dd_isolator.proofs.Testing.{length-round}
use Rattle.dd_isolator.proofs.Deciding.{deciding, none_deciding, one_more}
use Rattle.dd_isolator.proofs.round.first_resolved.Goals as goal

pub returns-then-left-eq0-clause-spent : goal.returns-then-left-eq0-clause-spent
returns-then-left-eq0-clause-spent g c =
    let i = c.loop-done.invariant in
    (refl, omega (arith, one_more (g.R.Rounds.outcome c.args.rounds.now) c.args.state.now c.loop-done.done (omega (arith, i.size)) i.tried, i.asked, c.asked.ensures))

pub returns-in-Some-clause-decides : goal.returns-in-Some-clause-decides
returns-in-Some-clause-decides g c =
    let i = c.loop-done.invariant in
    let first = subst (IsFirstOf (g.R.Rounds.outcome c.loop-done.rounds) c.args.state.now c.loop-done.done c.min-count.result) c.in-Some.is c.in_ok-decision.ensures.first in
    (deciding (g.R.Rounds.outcome c.args.rounds.now) (g.R.Rounds.outcome c.loop-done.rounds) c.args.state.now c.loop-done.done c.min-count.result c.in-Some.decision i.same (omega (arith, i.size)) i.tried first).decides

pub returns-in-Some-clause-asked : goal.returns-in-Some-clause-asked
returns-in-Some-clause-asked g c =
    let i = c.loop-done.invariant in
    let first = subst (IsFirstOf (g.R.Rounds.outcome c.loop-done.rounds) c.args.state.now c.loop-done.done c.min-count.result) c.in-Some.is c.in_ok-decision.ensures.first in
    let counts = subst (λ (f : Option Decision). Counts c.loop-done.done c.min-count.result f (g.R.Rounds.asked c.loop-done.rounds) (g.R.Rounds.asked c.ask.new.rounds) (g.R.Rounds.unresolved c.loop-done.rounds) (g.R.Rounds.unresolved c.ask.new.rounds)) c.in-Some.is c.in_ok-decision.ensures.counts in
    omega (arith, counts.0, i.asked, (deciding (g.R.Rounds.outcome c.args.rounds.now) (g.R.Rounds.outcome c.loop-done.rounds) c.args.state.now c.loop-done.done c.min-count.result c.in-Some.decision i.same (omega (arith, i.size)) i.tried first).asked)

pub returns-in-Some-clause-unresolved : goal.returns-in-Some-clause-unresolved
returns-in-Some-clause-unresolved g c =
    let i = c.loop-done.invariant in
    let first = subst (IsFirstOf (g.R.Rounds.outcome c.loop-done.rounds) c.args.state.now c.loop-done.done c.min-count.result) c.in-Some.is c.in_ok-decision.ensures.first in
    let counts = subst (λ (f : Option Decision). Counts c.loop-done.done c.min-count.result f (g.R.Rounds.asked c.loop-done.rounds) (g.R.Rounds.asked c.ask.new.rounds) (g.R.Rounds.unresolved c.loop-done.rounds) (g.R.Rounds.unresolved c.ask.new.rounds)) c.in-Some.is c.in_ok-decision.ensures.counts in
    omega (arith, counts.1, i.unresolved, (deciding (g.R.Rounds.outcome c.args.rounds.now) (g.R.Rounds.outcome c.loop-done.rounds) c.args.state.now c.loop-done.done c.min-count.result c.in-Some.decision i.same (omega (arith, i.size)) i.tried first).unresolved)

pub returns-clause-decides : goal.returns-clause-decides
returns-clause-decides g c =
    let i = c.loop-done.invariant in
    (none_deciding (g.R.Rounds.outcome c.args.rounds.now) c.args.state.now c.loop-done.done (omega (arith, i.size)) i.tried).found

pub returns-clause-asked : goal.returns-clause-asked
returns-clause-asked g c =
    let i = c.loop-done.invariant in
    omega (arith, i.below, i.size, i.asked, length-round c.args.state.now, (none_deciding (g.R.Rounds.outcome c.args.rounds.now) c.args.state.now c.loop-done.done (omega (arith, i.size)) i.tried).asked)

pub returns-clause-unresolved : goal.returns-clause-unresolved
returns-clause-unresolved g c =
    let i = c.loop-done.invariant in
    omega (arith, i.below, i.size, i.unresolved, length-round c.args.state.now, (none_deciding (g.R.Rounds.outcome c.args.rounds.now) c.args.state.now c.loop-done.done (omega (arith, i.size)) i.tried).unresolved)
