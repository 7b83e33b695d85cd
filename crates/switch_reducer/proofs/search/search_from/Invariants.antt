use Rattle.std.proofs.Common.{◌≡◌, ◌≤◌, ◌+◌, length}
use Rattle.schedule_model.specs.Outcomes.{unresolved_among}
use Rattle.switch_reducer.specs.Rounds.{IsState, start}
use Rattle.switch_reducer.specs.Search.{measure, tests_from, last_from}
use Rattle.switch_reducer.proofs.search.search_from.Given as goal

abbrev pub invariant-loop-state : goal.invariant-loop-state
invariant-loop-state g l =
    let r = g.R.Rounds in
    record {
      fine : IsState l.state;
      same : r.outcome l.rounds ≡ r.outcome l.fn.rounds;
      events : r.events l.rounds ≡ r.events l.fn.rounds;
      within : r.asked l.rounds ≤ l.budget;
      asked : r.asked l.rounds + length (tests_from (r.outcome l.fn.rounds) l.state) ≡ r.asked l.fn.rounds + length (tests_from (r.outcome l.fn.rounds) (start l.fn.times.items));
      unresolved : r.unresolved l.rounds + unresolved_among (r.outcome l.fn.rounds) (tests_from (r.outcome l.fn.rounds) l.state) ≡ r.unresolved l.fn.rounds + unresolved_among (r.outcome l.fn.rounds) (tests_from (r.outcome l.fn.rounds) (start l.fn.times.items));
      last : last_from (r.outcome l.fn.rounds) l.state ≡ last_from (r.outcome l.fn.rounds) (start l.fn.times.items);
    }

abbrev pub decreases-loop-state : goal.decreases-loop-state
decreases-loop-state g l = measure l.state
