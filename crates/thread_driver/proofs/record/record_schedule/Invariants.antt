use Rattle.std.proofs.Common.{◌≡◌, ◌≤◌, ◌-◌, false, length, drop}
use Rattle.machine_model.specs.Machine.{threads_of}
use Rattle.machine_model.specs.Ring.{schedule_threads}
use Rattle.schedule_log.specs.Parts.{AreParts}
use Rattle.event_machine.specs.MachineView.{machine_of, IsMachineOf}
use Rattle.thread_driver.specs.Waiting.{Awaits}
use Rattle.thread_driver.proofs.Recorded.{Follows}
use Rattle.thread_driver.proofs.record.record_schedule.Given as goal

abbrev pub invariant-loop-end : goal.invariant-loop-end
invariant-loop-end l = record {
  own : IsMachineOf l.plain l.machine;
  whole : l.machine.is_broken ≡ false;
  budget : l.machine.world.budget ≡ l.events;
  many : length l.parts.items ≡ 64;
  parts : AreParts (threads_of l.machine.world.history) l.parts.items;
  size : length l.sorted.items ≡ length l.times;
  reached : l.passed ≤ length l.sorted.items;
  waits : Awaits l.times (length l.machine.world.history) (drop l.passed l.sorted.items);
  follows : Follows l.plain l.times l.events (schedule_threads l.plain l.times l.events) (machine_of l.machine) l.thread;
}

abbrev pub decreases-loop-end : goal.decreases-loop-end
decreases-loop-end l = l.events - length l.machine.world.history
