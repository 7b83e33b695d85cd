use Rattle.local_machine.specs.LocalView.{IsReady}
use Rattle.thread_tests.proofs.locals.follows.Given as goal

abbrev pub invariant-loop-reply : goal.invariant-loop-reply
invariant-loop-reply l = IsReady l.plain l.local
