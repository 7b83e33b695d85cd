use Rattle.std.proofs.Common.{◌≡◌, ◌<◌, ℕ, [], length, Some, None, ap, sym, ◌∙◌, arith}
use Rattle.std.proofs.lemmas.Result.{IfOk-weaker}
use Rattle.machine_model.specs.Machine.{end_of}
use Rattle.machine_model.specs.Ring.{pick}
use Rattle.event_machine.specs.MachineView.{machine_of}
use Rattle.thread_driver.specs.Recordings.{threads_on}
use Rattle.thread_driver.proofs.Recorded.{follows-ended, follows-more, left, picked-enabled}
use Rattle.thread_driver.proofs.record.record_on.Goals as goal

pub returns-in-Ends-clause-threads : goal.returns-in-Ends-clause-threads
returns-in-Ends-clause-threads c =
    let p = c.args.plain.now in
    let m = c.loop-end.machine in
    let first = c.args.machine in
    let budget = first.world.budget in
    let kept = c.loop-end.invariant in
    let ended : end_of p (machine_of m) budget ≡ Some c.in-Ends.end = ap (λ (b : ℕ). end_of p (machine_of m) b) (sym kept.budget) ∙ c.in-Ends.ensures.meaning p kept.own in
    IfOk-weaker c.finished.result _ _ (λ r e. e ∙ follows-ended p [] budget (threads_on p (machine_of first) c.args.thread budget) (machine_of m) c.loop-end.thread c.in-Ends.end ended kept.follows) c.finished.ensures.threads

pub record_event-requires-clause-enabled : goal.record_event-requires-clause-enabled
record_event-requires-clause-enabled c =
    let p = c.args.plain.now in
    let m = c.loop-end.machine in
    picked-enabled p (machine_of m) c.loop-end.thread 0 c.in-Turns.next (c.in-Turns.ensures.meaning p c.loop-end.invariant.own).1

pub loop-end-smaller : goal.loop-end-smaller
loop-end-smaller c =
    let p = c.args.plain.now in
    let m = c.loop-end.machine in
    let kept = c.loop-end.invariant in
    let made = c.in_ok-record_event.ensures in
    let going : end_of p (machine_of m) m.world.budget ≡ None = (c.in-Turns.ensures.meaning p kept.own).0 in
    let room : length m.world.history < m.world.budget = left p (machine_of m) m.world.budget going (omega (arith, kept.follows.within, kept.budget)) in
    omega (arith, made.history, made.budget, room)

pub loop-end-preserved : goal.loop-end-preserved
loop-end-preserved c =
    let p = c.args.plain.now in
    let m = c.loop-end.machine in
    let first = c.args.machine in
    let budget = first.world.budget in
    let kept = c.loop-end.invariant in
    let made = c.in_ok-record_event.ensures in
    let going : end_of p (machine_of m) budget ≡ None = ap (λ (b : ℕ). end_of p (machine_of m) b) (sym kept.budget) ∙ (c.in-Turns.ensures.meaning p kept.own).0 in
    let picked : pick p (machine_of m) c.loop-end.thread 0 ≡ Some c.in-Turns.next = (c.in-Turns.ensures.meaning p kept.own).1 in
    record {
      own = made.own;
      whole = made.whole;
      budget = made.budget ∙ kept.budget;
      many = made.few;
      parts = made.parts;
      follows = follows-more p [] budget (threads_on p (machine_of first) c.args.thread budget) (machine_of m) (machine_of c.record_event.new.machine) c.loop-end.thread c.in-Turns.next going picked made.turned kept.follows;
    }
