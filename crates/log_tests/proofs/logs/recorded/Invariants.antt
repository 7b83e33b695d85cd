use Rattle.std.proofs.Common.{◌≡◌, length, take}
use Rattle.schedule_log.specs.Parts.{AreParts}
use Rattle.log_tests.proofs.logs.recorded.Given as goal

abbrev pub invariant-loop-clock : goal.invariant-loop-clock
invariant-loop-clock l = record {
  many : length l.parts.items ≡ 3;
  are : AreParts (take l.clock l.threads) l.parts.items;
}
