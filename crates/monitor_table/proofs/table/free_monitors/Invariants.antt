use Rattle.std.proofs.Common.{◌≡◌, replicate}
use Rattle.machine_model.specs.Shared.{free_monitor}
use Rattle.monitor_table.proofs.table.free_monitors.Given as goal

abbrev pub invariant-loop-i : goal.invariant-loop-i
invariant-loop-i l = l.monitors.items ≡ replicate l._i free_monitor
