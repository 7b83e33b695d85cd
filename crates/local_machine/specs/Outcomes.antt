-- Outcomes of replies as the code has them.
use Rattle.std.specs.Prelude.{List, ◌∷◌}
use Rattle.machine_model.specs.Frames.{Frame, LocalState, Ended, Running, Raised, Waiting}
use Rattle.machine_model.specs.LocalStep as model
use Rattle.local_machine.specs.Completions.{Completion, completed_by}
use Rattle.local_machine.specs.declared.reply.Outcome.{Outcome}
use Rattle.local_machine.specs.declared.reply.Outcome.TheVariants as outcome

abbrev pub outcome_of : model.Outcome → Outcome
outcome_of model.Stays = outcome.Stays
outcome_of model.Ends = outcome.Ends
outcome_of (model.Raises kind) = outcome.Raises kind
outcome_of (model.StartsWaiting lock count) = outcome.StartsWaiting lock count
outcome_of (model.Completes brought) = outcome.Completes brought

-- the state l, whose frames are f and those below, after a reply of this outcome
abbrev pub answered_by : Outcome → Completion → Frame → List Frame → LocalState → LocalState
answered_by outcome.Stays c f below l = l
answered_by outcome.Ends c f below l = Ended
answered_by (outcome.Raises kind) c f below l = Running (f ∷ below) (Raised kind)
answered_by (outcome.StartsWaiting lock count) c f below l = Running (f ∷ below) (Waiting lock count)
answered_by (outcome.Completes brought) c f below l = completed_by c brought f below l
