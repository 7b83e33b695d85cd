use Rattle.std.proofs.Common.{◌≡◌, ◌-◌}
use Rattle.machine_model.specs.Ring.{moved_on}
use Rattle.event_machine.specs.MachineView.{machine_of}
use Rattle.event_machine.proofs.machine.Machine.moved_on.Given as goal

-- the places that are left lead to where all places lead
abbrev pub invariant-loop : goal.invariant-loop
invariant-loop l = moved_on (machine_of l.self) l.at (l.places - l.counter) ≡ moved_on (machine_of l.self) l.thread l.places
