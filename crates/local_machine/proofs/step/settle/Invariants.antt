use Rattle.std.proofs.Common.{◌-◌, ◌≤◌}
use Rattle.machine_model.specs.Frames.{Running, Plain}
use Rattle.local_machine.specs.Fields.{AreAtCalls, callers, frames_of}
use Rattle.local_machine.specs.Steps.{IsOnTheWay}
use Rattle.local_machine.proofs.step.settle.Given as goal

abbrev pub invariant-loop-acted : goal.invariant-loop-acted
invariant-loop-acted l = record {
  below : AreAtCalls (callers l.below.items);
  few : l.steps ≤ 4096;
  on_the_way : IsOnTheWay l.program (Running (frames_of l.initial.top l.initial.below.items) Plain) l.initial.steps (Running (frames_of l.top l.below.items) Plain) l.steps;
}

abbrev pub decreases-loop-acted : goal.decreases-loop-acted
decreases-loop-acted l = 4096 - l.steps
