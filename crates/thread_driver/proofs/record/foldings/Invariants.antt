use Rattle.std.proofs.Common.{◌≡◌, [], length}
use Rattle.schedule_log.specs.Parts.{AreParts}
use Rattle.thread_driver.proofs.record.foldings.Given as goal

abbrev pub invariant-loop-thread : goal.invariant-loop-thread
invariant-loop-thread l = record {
  many : length l.parts.items ≡ l.thread;
  are : AreParts [] l.parts.items;
}
