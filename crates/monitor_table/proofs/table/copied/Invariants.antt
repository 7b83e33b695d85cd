use Rattle.std.proofs.Common.{◌≡◌, take}
use Rattle.monitor_table.proofs.table.copied.Given as goal

abbrev pub invariant-loop-monitor : goal.invariant-loop-monitor
invariant-loop-monitor l = l.copies.items ≡ take l.monitor-index l.monitors
