use Rattle.std.proofs.Common.{◌≡◌, ◌≤◌, ◌-◌, length, take}
use Rattle.paused_run.proofs.waiting.parting.Given as goal

abbrev pub invariant-loop-same : goal.invariant-loop-same
invariant-loop-same l = record {
  own : l.same ≤ length l.own;
  other : l.same ≤ length l.other;
  front : take l.same l.own ≡ take l.same l.other;
}

abbrev pub decreases-loop-same : goal.decreases-loop-same
decreases-loop-same l = length l.own - l.same
