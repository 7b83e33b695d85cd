-- The monitor of a lock that exists, and who owns it.
use Rattle.std.specs.Prelude.{ℕ, Bool, unwrap_or}
use Rattle.vm_model.specs.declared.value.Lock.{Lock}
use Rattle.machine_model.specs.Shared.{Monitor, Monitors, monitor_at, free_monitor, is_owner}

-- the monitor of a lock that exists
abbrev pub monitor_of : Monitors → Lock → Monitor
monitor_of ms l = unwrap_or (monitor_at ms l) free_monitor

-- the thread owns the lock
abbrev pub owns : Monitors → Lock → ℕ → Bool
owns ms l t = is_owner (monitor_of ms l) t
