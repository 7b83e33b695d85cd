use Rattle.race_report.specs.OwnersClocks.{AreKept}
use Rattle.race_report.proofs.order.clock_of_event.Given as goal

abbrev pub invariant-loop-earlier : goal.invariant-loop-earlier
invariant-loop-earlier l = AreKept l.history l.earlier l.clocks l.starts.items
