use Rattle.std.proofs.Common.{◌≡◌, ◌≤◌, ◌<◌, ◌+◌, ◌-◌, ℕ}
use Rattle.schedule_model.specs.Outcomes.{unresolved_among}
use Rattle.switch_reducer.specs.Rounds.{round_size, schedules_within}
use Rattle.switch_reducer.specs.Answers.{IsOpen}
use Rattle.switch_reducer.proofs.round.first_failing.Given as goal

abbrev pub invariant-loop-done : goal.invariant-loop-done
invariant-loop-done g l =
    let r = g.R.Rounds in
    record {
      size : l.size ≡ round_size l.state;
      below : l.done ≤ l.size;
      same : r.outcome l.rounds ≡ r.outcome l.fn.rounds;
      events : r.events l.rounds ≡ r.events l.fn.rounds;
      asked : r.asked l.rounds ≡ r.asked l.fn.rounds + l.done;
      unresolved : r.unresolved l.rounds ≡ r.unresolved l.fn.rounds + unresolved_among (r.outcome l.fn.rounds) (schedules_within l.state 0 l.done);
      within : r.asked l.rounds ≤ l.budget;
      tried : (i : ℕ) → i < l.done → IsOpen (r.outcome l.fn.rounds) l.state i;
    }

abbrev pub decreases-loop-done : goal.decreases-loop-done
decreases-loop-done g l = l.size - l.done
