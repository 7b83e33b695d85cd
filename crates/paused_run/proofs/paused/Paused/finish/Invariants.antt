use Rattle.std.proofs.Common.{◌≡◌, ◌-◌, false}
use Rattle.paused_run.specs.Pauses.{clock_of, IsPausedOf}
use Rattle.paused_run.proofs.paused.Paused.finish.Given as goal

abbrev pub invariant-loop-end : goal.invariant-loop-end
invariant-loop-end l = record {
  own : IsPausedOf l.plain l.self;
  whole : l.self.machine.is_broken ≡ false;
  times : l.self.times ≡ l.initial.self.times;
  budget : l.self.machine.world.budget ≡ l.initial.self.machine.world.budget;
}

abbrev pub decreases-loop-end : goal.decreases-loop-end
decreases-loop-end l = l.self.machine.world.budget - clock_of l.self
