use Rattle.std.proofs.Common.{◌≡◌, take, length}
use Rattle.std.specs.List.{flat_map}
use Rattle.schedule_log.specs.Ordered.{reach}
use Rattle.schedule_log.specs.Logs.{threads_in}
use Rattle.schedule_log.proofs.log.Log.expand.Given as goal

abbrev pub invariant-loop-i : goal.invariant-loop-i
invariant-loop-i l = record {
  written : l.threads.items ≡ flat_map threads_in (take l.i-index l.i-items);
  so_many : length l.threads.items ≡ reach 0 (take l.i-index l.i-items);
}
