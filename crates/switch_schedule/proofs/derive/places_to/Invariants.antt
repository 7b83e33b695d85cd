use Rattle.std.proofs.Common.{◌≢◌, ◌<◌, ℕ, Some}
use Rattle.machine_model.specs.Ring.{pick}
use Rattle.event_machine.specs.MachineView.{machine_of}
use Rattle.switch_schedule.proofs.derive.places_to.Given as goal

abbrev pub invariant-loop-places : goal.invariant-loop-places
invariant-loop-places l = (fewer : ℕ) → fewer < l.places → pick l.plain (machine_of l.machine) l.before fewer ≢ Some l.thread
