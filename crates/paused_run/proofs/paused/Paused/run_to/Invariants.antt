use Rattle.std.proofs.Common.{◌≡◌, ◌≤◌, ◌-◌, false}
use Rattle.std.specs.Prelude.{max}
use Rattle.paused_run.specs.Pauses.{clock_of, IsPausedOf}
use Rattle.paused_run.proofs.paused.Paused.run_to.Given as goal

abbrev pub invariant-loop-alloc : goal.invariant-loop-alloc
invariant-loop-alloc l = record {
  own : IsPausedOf l.plain l.self;
  whole : l.self.machine.is_broken ≡ false;
  times : l.self.times ≡ l.initial.self.times;
  budget : l.self.machine.world.budget ≡ l.initial.self.machine.world.budget;
  low : clock_of l.initial.self ≤ clock_of l.self;
  high : clock_of l.self ≤ max (clock_of l.initial.self) l.clock;
}

abbrev pub decreases-loop-alloc : goal.decreases-loop-alloc
decreases-loop-alloc l = l.clock - clock_of l.self
