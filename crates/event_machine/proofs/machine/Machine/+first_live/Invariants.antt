use Rattle.event_machine.proofs.machine.Machine.+first_live.Given as goal

abbrev pub decreases-first_live : goal.decreases-first_live
decreases-first_live l = l.count
