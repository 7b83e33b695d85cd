use Rattle.std.proofs.Common.{◌≡◌, false, take, Some}
use Rattle.machine_model.specs.Machine.{run}
use Rattle.event_machine.specs.MachineView.{machine_of, IsMachineOf}
use Rattle.thread_driver.proofs.replay.turned.Given as goal

abbrev pub invariant-loop-clock : goal.invariant-loop-clock
invariant-loop-clock l = record {
  own : IsMachineOf l.plain l.machine;
  whole : l.machine.is_broken ≡ false;
  budget : l.machine.world.budget ≡ l.log.budget;
  runs : run l.plain (take l.clock l.threads) ≡ Some (machine_of l.machine);
}
