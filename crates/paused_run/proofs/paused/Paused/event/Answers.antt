use Rattle.std.proofs.Common.{◌≡◌, ◌+◌, ◌-◌, false, length, take, drop, Some, None, ap, sym, subst, ◌∙◌, arith}
use Rattle.std.proofs.lemmas.List.{length-drop, take_rest}
use Rattle.machine_model.specs.Machine.{end_of}
use Rattle.machine_model.specs.Ring.{pick, switches_at}
use Rattle.shared_world.specs.Worlds.{WorldState}
use Rattle.event_machine.specs.MachineView.{machine_of}
use Rattle.thread_driver.proofs.Recorded.{length-more, open-picks, picked-enabled}
use Rattle.thread_driver.proofs.Waiting.{awaited, awaits-more}
use Rattle.paused_run.specs.Pauses.{clock_of, IsPausedOf, PausedRun}
use Rattle.paused_run.specs.PausedView.{view_of}
use Rattle.paused_run.proofs.Kept.{own_more}
use Rattle.paused_run.proofs.paused.Paused.event.Goals as goal

pub unreachable-requires : goal.unreachable-requires
unreachable-requires c =
    let p = c.args.plain.now in
    let inside = c.self.inside in
    let own : IsPausedOf p (view_of inside) = subst (IsPausedOf p) (sym c.self.view_is) c.requires.own in
    let going : end_of p (machine_of inside.machine) inside.machine.world.budget ≡ None = ap (λ (r : PausedRun). end_of p (machine_of r.machine) r.machine.world.budget) c.self.view_is ∙ c.requires.open in
    open-picks p (machine_of inside.machine) inside.machine.world.budget inside.thread c.places_at-places.result going (sym (c.pick.ensures.meaning p own.own) ∙ c.in_default.is)

pub turn_of-requires-clause-enabled : goal.turn_of-requires-clause-enabled
turn_of-requires-clause-enabled c =
    let p = c.args.plain.now in
    let inside = c.self.inside in
    let own : IsPausedOf p (view_of inside) = subst (IsPausedOf p) (sym c.self.view_is) c.requires.own in
    picked-enabled p (machine_of inside.machine) inside.thread c.places_at-places.result c.in-Some.next (sym (c.pick.ensures.meaning p own.own) ∙ c.in-Some.is)

pub invariant_of-self-2 : goal.invariant_of-self-2
invariant_of-self-2 c =
    let p = c.args.plain.now in
    let inside = c.self.inside in
    let m = inside.machine in
    let times = inside.times.items in
    let kept = c.self.invariant in
    let whole : m.is_broken ≡ false = ap (λ (r : PausedRun). r.machine.is_broken) c.self.view_is ∙ c.requires.whole in
    let all = c.deref.result.now in
    let waiting = take (length all - inside.passed) (drop inside.passed all) in
    let same : waiting ≡ drop inside.passed times = take_rest all inside.passed ∙ ap (drop inside.passed) c.deref.ensures.value in
    let now : c.clock.result ≡ length m.world.history = c.clock.ensures.value ∙ ap (λ (w : WorldState). length w.history) c.world.ensures in
    let more : length c.turn_of.new.machine.world.history ≡ length m.world.history + 1 = length-more p (machine_of m) (machine_of c.turn_of.new.machine) c.in-Some.next c.in_ok-turn_of.ensures.turned in
    record {
      few = kept.few;
      rising = kept.rising;
      reached = omega (arith, c.places_at-places.ensures.within, ap length same ∙ length-drop inside.passed times, kept.reached);
      waits = λ w. awaits-more times times waiting inside.passed c.places_at-places.result (length m.world.history) c.clock.result (length c.turn_of.new.machine.world.history) same now more (kept.waits whole) c.places_at-places.ensures.rest;
    }

pub returns-clause-own : goal.returns-clause-own
returns-clause-own c =
    let p = c.args.plain.now in
    let inside = c.self.inside in
    let m = inside.machine in
    let times = inside.times.items in
    let kept = c.self.invariant in
    let own : IsPausedOf p (view_of inside) = subst (IsPausedOf p) (sym c.self.view_is) c.requires.own in
    let whole : m.is_broken ≡ false = ap (λ (r : PausedRun). r.machine.is_broken) c.self.view_is ∙ c.requires.whole in
    let going : end_of p (machine_of m) m.world.budget ≡ None = ap (λ (r : PausedRun). end_of p (machine_of r.machine) r.machine.world.budget) c.self.view_is ∙ c.requires.open in
    let all = c.deref.result.now in
    let waiting = take (length all - inside.passed) (drop inside.passed all) in
    let same : waiting ≡ drop inside.passed times = take_rest all inside.passed ∙ ap (drop inside.passed) c.deref.ensures.value in
    let now : c.clock.result ≡ length m.world.history = c.clock.ensures.value ∙ ap (λ (w : WorldState). length w.history) c.world.ensures in
    let places : c.places_at-places.result ≡ switches_at times (length m.world.history) = awaited times times waiting inside.passed c.places_at-places.result (length m.world.history) c.clock.result same now (kept.waits whole) c.places_at-places.ensures.value in
    let picked : pick p (machine_of m) inside.thread (switches_at times (length m.world.history)) ≡ Some c.in-Some.next = ap (pick p (machine_of m) inside.thread) (sym places) ∙ sym (c.pick.ensures.meaning p own.own) ∙ c.in-Some.is in
    own_more p (view_of inside) c.turn_of.new.machine c.in-Some.next whole going picked c.in_ok-turn_of.ensures.turned c.in_ok-turn_of.ensures.budget c.in_ok-turn_of.ensures.own own

pub returns-clause-clock : goal.returns-clause-clock
returns-clause-clock c =
    let inside = c.self.inside in
    length-more c.args.plain.now (machine_of inside.machine) (machine_of c.turn_of.new.machine) c.in-Some.next c.in_ok-turn_of.ensures.turned ∙ ap (λ (r : PausedRun). clock_of r + 1) c.self.view_is
