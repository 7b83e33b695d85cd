use Rattle.std.proofs.Common.{◌≡◌, ◌≤◌, ◌+◌, length}
use Rattle.schedule_model.specs.Outcomes.{unresolved_among}
use Rattle.dd_isolator.specs.Shifts.{padded}
use Rattle.dd_isolator.specs.Rounds.{IsState, start}
use Rattle.dd_isolator.specs.Search.{measure, tests_from, last_from, tests_needed, unresolved_count}
use Rattle.dd_isolator.proofs.search.isolate.Given as goal

abbrev pub invariant-loop-state : goal.invariant-loop-state
invariant-loop-state g l =
    let r = g.R.Rounds in
    record {
      fine : IsState l.state;
      same : r.outcome l.rounds ≡ r.outcome l.fn.rounds;
      events : r.events l.rounds ≡ r.events l.fn.rounds;
      within : r.asked l.rounds ≤ l.budget;
      asked : r.asked l.rounds + length (tests_from (r.outcome l.fn.rounds) l.state) ≡ tests_needed (r.outcome l.fn.rounds) (padded l.events l.pass l.fail) (padded l.events l.fail l.pass);
      unresolved : r.unresolved l.rounds + unresolved_among (r.outcome l.fn.rounds) (tests_from (r.outcome l.fn.rounds) l.state) ≡ unresolved_count (r.outcome l.fn.rounds) (padded l.events l.pass l.fail) (padded l.events l.fail l.pass);
      last : last_from (r.outcome l.fn.rounds) l.state ≡ last_from (r.outcome l.fn.rounds) (start (padded l.events l.pass l.fail) (padded l.events l.fail l.pass));
    }

abbrev pub decreases-loop-state : goal.decreases-loop-state
decreases-loop-state g l = measure l.state
