use Rattle.std.proofs.Common.{◌+◌, sym, subst, arith}
use Rattle.std.proofs.lemmas.List.{take_rest}
use Rattle.paused_run.proofs.Passed.{Passed, passed-all, passed-more, passed-up}
use Rattle.paused_run.proofs.waiting.passed_before.Goals as goal

pub loop-rest-preserved : goal.loop-rest-preserved
loop-rest-preserved c =
    let rest = c.loop-rest.rest.now in
    subst (Passed c.args.times.now c.args.clock (c.loop-rest.passed + 1)) (sym (take_rest rest 1))
    (passed-more c.args.times.now rest c.args.clock c.loop-rest.passed c.in-len1-up.len_at_least (omega (arith, c.from.ensures, c.if-from-clock.false)) c.loop-rest.invariant)

pub returns-in_default-clause-waits : goal.returns-in_default-clause-waits
returns-in_default-clause-waits c = passed-all c.args.times.now c.loop-rest.rest.now c.args.clock c.loop-rest.passed c.in_default.len_below c.loop-rest.invariant

pub returns-then-from-clock-clause-waits : goal.returns-then-from-clock-clause-waits
returns-then-from-clock-clause-waits c =
    passed-up c.args.times.now c.loop-rest.rest.now c.args.clock c.loop-rest.passed c.in-len1-up.len_at_least (omega (arith, c.from.ensures, c.if-from-clock.true)) c.loop-rest.invariant
