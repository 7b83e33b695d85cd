use Rattle.std.proofs.Common.{◌≡◌, ◌≤◌, ◌<◌, ◌+◌, ◌-◌, ℕ}
use Rattle.dd_isolator.specs.Rounds.{round_size}
use Rattle.dd_isolator.specs.Answers.{IsOpen}
use Rattle.dd_isolator.proofs.round.first_resolved.Given as goal

abbrev pub invariant-loop-done : goal.invariant-loop-done
invariant-loop-done g l =
    let r = g.R.Rounds in
    record {
      size : l.size ≡ round_size l.state;
      below : l.done ≤ l.size;
      same : r.outcome l.rounds ≡ r.outcome l.fn.rounds;
      events : r.events l.rounds ≡ r.events l.fn.rounds;
      asked : r.asked l.rounds ≡ r.asked l.fn.rounds + l.done;
      unresolved : r.unresolved l.rounds ≡ r.unresolved l.fn.rounds + l.done;
      within : r.asked l.rounds ≤ l.budget;
      tried : (i : ℕ) → i < l.done → IsOpen (r.outcome l.fn.rounds) l.state i;
    }

abbrev pub decreases-loop-done : goal.decreases-loop-done
decreases-loop-done g l = l.size - l.done
