use Rattle.std.proofs.Common.{◌<◌, arith, length, get_or, refl, subst, sym, ◌∙◌}
use Rattle.event_machine.specs.MachineView.{machine_of}
use Rattle.thread_driver.specs.Answers.{RefusesBefore}
use Rattle.thread_driver.proofs.Repeated.{refused, turned-more}
use Rattle.thread_driver.proofs.replay.turned.Goals as goal

pub loop-clock-preserved : goal.loop-clock-preserved
loop-clock-preserved c =
    let kept = c.loop-clock.invariant in
    let old = machine_of c.loop-clock.machine in
    let threads = c.args.threads.now in
    let lt : c.loop-clock.clock < length threads = omega (arith, c.loop-clock-test.true, c.requires.within) in
    record {
      own = c.turn.ensures.own;
      whole = c.in-Ok.ensures.whole.1;
      budget = c.in-Ok.ensures.ok.budget ∙ kept.budget;
      runs = turned-more c.args.plain.now threads c.loop-clock.clock old (machine_of c.turn.new.self) lt kept.runs c.in-Ok.ensures.ok.turned;
    }

pub returns-in-Err-clause-err : goal.returns-in-Err-clause-err
returns-in-Err-clause-err c =
    let kept = c.loop-clock.invariant in
    let p = c.args.plain.now in
    let log = c.args.log.now in
    let threads = c.args.threads.now in
    let lt : c.loop-clock.clock < length threads = omega (arith, c.loop-clock-test.true, c.requires.within) in
    subst (RefusesBefore p log c.args.count) (sym c.refusal.ensures)
    (refused p log threads c.args.count c.loop-clock.clock (get_or threads c.loop-clock.clock 0) c.loop-clock.machine c.turn.new.self c.in-Err.fault c.requires.lawful c.requires.threads c.loop-clock-test.true lt refl kept.runs kept.budget c.in-Err.ensures.err)
