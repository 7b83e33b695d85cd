-- A thread's fields as callers see them, and what holds of them.
use Rattle.std.specs.Prelude.{◌≤◌, is_some, vec_len, vec_capacity}
use Rattle.vm_model.specs.declared.limits.TheConstants.{MOST_LOCAL_STEPS}
use Rattle.local_machine.specs.declared.local.Local.TheInside.{Inside}
use Rattle.local_machine.specs.Fields.{AreAtCalls, callers}
use Rattle.local_machine.specs.LocalView.{LocalView}
use Rattle.local_machine.specs.States.{HasRoomIn, completion_in, pending_in, state_of}

abbrev pub view_of : Inside → LocalView
view_of l = record { state = state_of l.phase l.top l.below.items; steps = l.steps; is_ready = is_some l.ready; pending = pending_in l.ready; completion = completion_in l.ready }

-- the frames below stand at calls, and what is left to do has its room
pub record IsSound (l : Inside) : Type 0 where
  pub steps : l.steps ≤ MOST_LOCAL_STEPS
  pub below : AreAtCalls (callers l.below.items)
  pub room : HasRoomIn l.ready l.top l.below.items (vec_len l.below) (vec_capacity l.below)
