use Rattle.std.proofs.Common.{◌≡◌, take}
use Rattle.event_machine.proofs.threads.copy_all.Given as goal

abbrev pub invariant-loop-local : goal.invariant-loop-local
invariant-loop-local l = l.copies.items ≡ take l.local-index l.locals
