-- The world as the code keeps it.
use Rattle.std.specs.Prelude.{◌≤◌, length, vec_capacity}
use Rattle.vm_model.specs.declared.limits.TheConstants.{MOST_EVENTS}
use Rattle.machine_model.specs.Operations.{IsLegalHistory}
use Rattle.shared_world.specs.Fitting.{FirstValuesFit, ValuesFit}
use Rattle.shared_world.specs.Kept.{IsKept}
use Rattle.shared_world.specs.Worlds.{WorldState}
use Rattle.shared_world.specs.declared.world.World.TheInside.{Inside}

abbrev pub view_of : Inside → WorldState
view_of w = record { declarations = w.start; budget = w.budget; shared = w.shared; history = w.history.items }

-- the history leads to the shared state, and there is room for all events of the budget
pub record IsSound (w : Inside) : Type 0 where
  pub legal : IsLegalHistory w.start w.history.items w.shared
  pub kept : IsKept w.start (length w.history.items) w.shared
  pub fit : FirstValuesFit w.start → ValuesFit w.start w.shared
  pub budget : w.budget ≤ MOST_EVENTS
  pub within : length w.history.items ≤ w.budget
  pub room : w.budget ≤ vec_capacity w.history
