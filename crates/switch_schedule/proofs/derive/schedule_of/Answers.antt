use Rattle.std.proofs.Common.{◌≡◌, ◌<◌, ◌+◌, ℕ, List, false, arith, length, get_or, ap, subst, sym, ◌∙◌}
use Rattle.std.proofs.lemmas.List.{get_or_default}
use Rattle.machine_model.specs.Machine.{is_enabled, turn}
use Rattle.event_machine.specs.MachineView.{machine_of}
use Rattle.thread_driver.specs.Answers.{refusal}
use Rattle.thread_driver.proofs.Repeated.{refused, refused_at_all, turned-more}
use Rattle.switch_schedule.specs.Derivations.{HasDerived}
use Rattle.switch_schedule.specs.Refusals.{RefusesDerivation}
use Rattle.switch_schedule.proofs.Refused.{disabled, few_events, refused_alike, whole_log}
use Rattle.switch_schedule.proofs.derive.schedule_of.Goals as goal

pub returns-then-not-is_enabled-clause-refused : goal.returns-then-not-is_enabled-clause-refused
returns-then-not-is_enabled-clause-refused c =
    let kept = c.loop-clock.invariant in
    let p = c.args.plain.now in
    let m = machine_of c.loop-clock.machine in
    let lt : c.loop-clock.clock < length c.in-Ok.threads.items = omega (arith, c.loop-clock-test.true, c.len-clock-end.ensures) in
    let at : c.index-thread.result.now ≡ get_or c.in-Ok.threads.items c.loop-clock.clock 0 = c.index-thread.ensures ∙ get_or_default c.in-Ok.threads.items c.loop-clock.clock c.index-thread.result.now 0 lt in
    let off : is_enabled p m c.index-thread.result.now ≡ false = sym (c.is_enabled.ensures.meaning p kept.own) ∙ c.if-not-is_enabled.true in
    subst (RefusesDerivation p c.args.log.now) (sym c.refusal.ensures) (disabled p c.args.log.now c.in-Ok.threads.items c.loop-clock.clock c.index-thread.result.now m c.in-Ok.ensures.threads lt at kept.runs off)

pub derive_event-requires-clause-limit : goal.derive_event-requires-clause-limit
derive_event-requires-clause-limit c = few_events c.args.log.now c.deref.result.now c.expand.ensures.lawful (c.deref.ensures.value ∙ c.in-Ok.ensures.threads)

pub returns-in-Err-clause-refused : goal.returns-in-Err-clause-refused
returns-in-Err-clause-refused c =
    let kept = c.loop-clock.invariant in
    let p = c.args.plain.now in
    let log = c.args.log.now in
    let lt : c.loop-clock.clock < length c.in-Ok.threads.items = omega (arith, c.loop-clock-test.true, c.len-clock-end.ensures) in
    let at : c.index-thread.result.now ≡ get_or c.in-Ok.threads.items c.loop-clock.clock 0 = c.index-thread.ensures ∙ get_or_default c.in-Ok.threads.items c.loop-clock.clock c.index-thread.result.now 0 lt in
    subst (RefusesDerivation p log) (sym c.refusal-in-Err.ensures)
    (refused_alike p log c.loop-clock.clock c.index-thread.result.now c.in-Err.fault
    (refused_at_all p log (c.loop-clock.clock + 1) (refusal c.in-Err.fault c.loop-clock.clock c.index-thread.result.now)
    (refused p log c.in-Ok.threads.items (c.loop-clock.clock + 1) c.loop-clock.clock c.index-thread.result.now c.loop-clock.machine c.turn.new.self c.in-Err.fault c.expand.ensures.lawful c.in-Ok.ensures.threads (omega arith) lt at kept.runs kept.budget c.in-Err.ensures.err)))

pub loop-clock-preserved : goal.loop-clock-preserved
loop-clock-preserved c =
    let kept = c.loop-clock.invariant in
    let p = c.args.plain.now in
    let old = machine_of c.loop-clock.machine in
    let lt : c.loop-clock.clock < length c.in-Ok.threads.items = omega (arith, c.loop-clock-test.true, c.len-clock-end.ensures) in
    let at : c.index-thread.result.now ≡ get_or c.in-Ok.threads.items c.loop-clock.clock 0 = c.index-thread.ensures ∙ get_or_default c.in-Ok.threads.items c.loop-clock.clock c.index-thread.result.now 0 lt in
    record {
      own = c.turn.ensures.own;
      whole = c.in-Ok-turn.ensures.whole.1;
      budget = c.in-Ok-turn.ensures.ok.budget ∙ kept.budget;
      runs = turned-more p c.in-Ok.threads.items c.loop-clock.clock old (machine_of c.turn.new.self) lt kept.runs (ap (λ (t : ℕ). turn p old t) (sym at) ∙ c.in-Ok-turn.ensures.ok.turned);
      so_far = subst (λ (ts : List ℕ). HasDerived p ts (c.loop-clock.clock + 1) c.derive_event.new.times.items c.in-Ok-derive_event.now) c.deref.ensures.value c.in-Ok-derive_event.ensures.so_far;
    }

pub derived-requires-clause-so_far : goal.derived-requires-clause-so_far
derived-requires-clause-so_far c =
    let at : c.loop-clock.clock ≡ length c.in-Ok.threads.items = omega (arith, c.loop-clock-test.false, c.loop-clock.auto.clock-end, c.len-clock-end.ensures, c.in-Ok.threads.ok.0) in
    whole_log c.args.plain.now c.args.log.now c.in-Ok.threads.items c.loop-clock.clock c.loop-clock.times.items c.loop-clock.passed c.in-Ok.ensures.threads at c.loop-clock.invariant.so_far
