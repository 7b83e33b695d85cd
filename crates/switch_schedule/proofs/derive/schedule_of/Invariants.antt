use Rattle.std.proofs.Common.{◌≡◌, false, take, Some}
use Rattle.machine_model.specs.Machine.{run}
use Rattle.event_machine.specs.MachineView.{machine_of, IsMachineOf}
use Rattle.switch_schedule.specs.Derivations.{HasDerived}
use Rattle.switch_schedule.proofs.derive.schedule_of.Given as goal

abbrev pub invariant-loop-clock : goal.invariant-loop-clock
invariant-loop-clock l = record {
  own : IsMachineOf l.plain l.machine;
  whole : l.machine.is_broken ≡ false;
  budget : l.machine.world.budget ≡ l.log.budget;
  runs : run l.plain (take l.clock l.threads.items) ≡ Some (machine_of l.machine);
  so_far : HasDerived l.plain l.threads.items l.clock l.times.items l.passed;
}
