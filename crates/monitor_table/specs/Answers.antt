-- What the calls answer that only the owner of a lock may make.
use Rattle.std.specs.Prelude.{ℕ, Bool, if◌then◌else◌}
use Rattle.monitor_table.specs.declared.table.Owned.{Owned}
use Rattle.monitor_table.specs.declared.table.Owned.TheVariants as owned_as
use Rattle.monitor_table.specs.declared.table.Waited.{Waited}
use Rattle.monitor_table.specs.declared.table.Waited.TheVariants as waited_as

-- done by the owner, and NotOwner by any other thread
abbrev pub owned : Bool → Owned
owned is_owner = if is_owner then owned_as.Done else owned_as.NotOwner

-- how often the owner had entered the lock, and NotOwner to any other thread
abbrev pub waited_with : Bool → ℕ → Waited
waited_with is_owner count = if is_owner then waited_as.Count count else waited_as.NotOwner
