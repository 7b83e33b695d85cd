use Rattle.std.proofs.Common.{◌≡◌, ◌-◌, [], false, length}
use Rattle.machine_model.specs.Machine.{threads_of}
use Rattle.schedule_log.specs.Parts.{AreParts}
use Rattle.event_machine.specs.MachineView.{machine_of, IsMachineOf}
use Rattle.thread_driver.specs.Recordings.{threads_on}
use Rattle.thread_driver.proofs.Recorded.{Follows}
use Rattle.thread_driver.proofs.record.record_on.Given as goal

abbrev pub invariant-loop-end : goal.invariant-loop-end
invariant-loop-end l = record {
  own : IsMachineOf l.plain l.machine;
  whole : l.machine.is_broken ≡ false;
  budget : l.machine.world.budget ≡ l.initial.machine.world.budget;
  many : length l.parts.items ≡ 64;
  parts : AreParts (threads_of l.machine.world.history) l.parts.items;
  follows : Follows l.plain [] l.initial.machine.world.budget (threads_on l.plain (machine_of l.initial.machine) l.initial.thread l.initial.machine.world.budget) (machine_of l.machine) l.thread;
}

abbrev pub decreases-loop-end : goal.decreases-loop-end
decreases-loop-end l = l.machine.world.budget - length l.machine.world.history
