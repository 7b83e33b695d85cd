-- What the reading calls show.
use Rattle.std.specs.Prelude.{length}
use Rattle.machine_model.specs.declared.Row.{Row}
use Rattle.machine_model.specs.declared.RowState.{RowState}
use Rattle.machine_model.specs.Shared.{Monitor}
use Rattle.shared_world.specs.declared.world.LockState.{LockState}

abbrev pub state_of : Row → RowState
state_of row = row.state

-- the owner, how often it entered, and how many threads wait
abbrev pub lock_state_of : Monitor → LockState
lock_state_of m = record { owner = m.owner; count = m.count; waiters = length m.waiters }
