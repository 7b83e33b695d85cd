use Rattle.std.proofs.Common.{◌≡◌, ◌-◌, ◌≤◌}
use Rattle.frame_actions.specs.Acts.{plain}
use Rattle.local_machine.specs.Steps.{LeadsOn}
use Rattle.local_machine.proofs.Settled.{IsTrying}
use Rattle.local_machine.proofs.step.walk.Given as goal

abbrev pub invariant-loop-steps : goal.invariant-loop-steps
invariant-loop-steps l = record {
  few : l.steps ≤ 4096;
  method : l.frame.method ≡ l.initial.frame.method;
  more : l.initial.steps ≤ l.steps;
  way : LeadsOn l.program (plain l.initial.frame) l.initial.steps (plain l.frame) l.steps;
  trying : IsTrying l.program (plain l.initial.frame) l.initial.steps (plain l.frame) l.steps;
}

abbrev pub decreases-loop-steps : goal.decreases-loop-steps
decreases-loop-steps l = 4096 - l.steps
