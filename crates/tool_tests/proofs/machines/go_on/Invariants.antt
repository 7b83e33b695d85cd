use Rattle.event_machine.specs.MachineView.{IsMachineOf}
use Rattle.tool_tests.proofs.machines.go_on.Given as goal

-- the machine stays one of the program
abbrev pub invariant-loop-thread : goal.invariant-loop-thread
invariant-loop-thread l = IsMachineOf l.plain l.machine
