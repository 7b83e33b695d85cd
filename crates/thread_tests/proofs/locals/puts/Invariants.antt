use Rattle.local_machine.specs.LocalView.{IsReady}
use Rattle.thread_tests.proofs.locals.puts.Given as goal

abbrev pub invariant-loop-i : goal.invariant-loop-i
invariant-loop-i l = IsReady l.plain l.local
