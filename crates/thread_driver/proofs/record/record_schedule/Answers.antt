use Rattle.std.proofs.Common.{◌≡◌, ℕ, ◌-◌, length, take, drop, Some, None, ap, sym, ◌∙◌, arith}
use Rattle.std.proofs.lemmas.List.{length-drop, take_rest}
use Rattle.std.proofs.lemmas.Result.{IfOk-weaker}
use Rattle.machine_model.specs.Machine.{end_of}
use Rattle.machine_model.specs.Ring.{pick, schedule_threads, switches_at}
use Rattle.shared_world.specs.Worlds.{WorldState}
use Rattle.event_machine.specs.MachineView.{machine_of}
use Rattle.thread_driver.proofs.Recorded.{follows-ended, follows-more, picked-enabled}
use Rattle.thread_driver.proofs.Waiting.{awaited, awaits-more}
use Rattle.thread_driver.proofs.record.record_schedule.Goals as goal

pub returns-in-Ends-clause-threads : goal.returns-in-Ends-clause-threads
returns-in-Ends-clause-threads c =
    let p = c.args.plain.now in
    let m = c.loop-end.machine in
    let kept = c.loop-end.invariant in
    let ended : end_of p (machine_of m) c.args.events ≡ Some c.in-Ends.end = ap (λ (b : ℕ). end_of p (machine_of m) b) (sym kept.budget) ∙ c.in-Ends.ensures.meaning p kept.own in
    IfOk-weaker c.finished.result _ _ (λ r e. e ∙ follows-ended p c.args.times.now c.args.events (schedule_threads p c.args.times.now c.args.events) (machine_of m) c.loop-end.thread c.in-Ends.end ended kept.follows) c.finished.ensures.threads

pub record_event-requires-clause-enabled : goal.record_event-requires-clause-enabled
record_event-requires-clause-enabled c =
    let p = c.args.plain.now in
    let m = c.loop-end.machine in
    picked-enabled p (machine_of m) c.loop-end.thread c.places_at-places.result c.in-Turns.next (c.in-Turns.ensures.meaning p c.loop-end.invariant.own).1

pub loop-end-preserved : goal.loop-end-preserved
loop-end-preserved c =
    let p = c.args.plain.now in
    let m = c.loop-end.machine in
    let kept = c.loop-end.invariant in
    let made = c.in_ok-record_event.ensures in
    let going : end_of p (machine_of m) c.args.events ≡ None = ap (λ (b : ℕ). end_of p (machine_of m) b) (sym kept.budget) ∙ (c.in-Turns.ensures.meaning p kept.own).0 in
    let whole = c.deref.result.now in
    let waiting = take (length whole - c.loop-end.passed) (drop c.loop-end.passed whole) in
    let same : waiting ≡ drop c.loop-end.passed c.in_ok-sorted.sorted.items = take_rest whole c.loop-end.passed ∙ ap (drop c.loop-end.passed) c.deref.ensures.value in
    let now : c.clock.result ≡ length m.world.history = c.clock.ensures.value ∙ ap (λ (w : WorldState). length w.history) c.world.ensures in
    let places : c.places_at-places.result ≡ switches_at c.args.times.now (length m.world.history) = awaited c.args.times.now c.in_ok-sorted.sorted.items waiting c.loop-end.passed c.places_at-places.result (length m.world.history) c.clock.result same now kept.waits c.places_at-places.ensures.value in
    let picked : pick p (machine_of m) c.loop-end.thread (switches_at c.args.times.now (length m.world.history)) ≡ Some c.in-Turns.next = ap (pick p (machine_of m) c.loop-end.thread) (sym places) ∙ (c.in-Turns.ensures.meaning p kept.own).1 in
    record {
      own = made.own;
      whole = made.whole;
      budget = made.budget ∙ kept.budget;
      many = made.few;
      parts = made.parts;
      waits = awaits-more c.args.times.now c.in_ok-sorted.sorted.items waiting c.loop-end.passed c.places_at-places.result (length m.world.history) c.clock.result (length c.record_event.new.machine.world.history) same now made.history kept.waits c.places_at-places.ensures.rest;
      size = kept.size;
      reached = omega (arith, c.places_at-places.ensures.within, ap length same ∙ length-drop c.loop-end.passed c.in_ok-sorted.sorted.items, kept.reached);
      follows = follows-more p c.args.times.now c.args.events (schedule_threads p c.args.times.now c.args.events) (machine_of m) (machine_of c.record_event.new.machine) c.loop-end.thread c.in-Turns.next going picked made.turned kept.follows;
    }
