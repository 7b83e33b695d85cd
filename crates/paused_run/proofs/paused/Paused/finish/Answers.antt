use Rattle.std.proofs.Common.{◌≡◌, ◌<◌, None, sym, ◌∙◌, arith}
use Rattle.machine_model.specs.Machine.{end_of}
use Rattle.event_machine.specs.MachineView.{machine_of}
use Rattle.paused_run.specs.Pauses.{clock_of}
use Rattle.paused_run.proofs.Kept.{ends_as, ends_at, room_left}
use Rattle.paused_run.proofs.paused.Paused.finish.Goals as goal

pub returns-in-Some-clause-end : goal.returns-in-Some-clause-end
returns-in-Some-clause-end c =
    let p = c.args.plain.now in
    let r = c.loop-end.self in
    let kept = c.loop-end.invariant in
    ends_as p r c.args.self.now.times c.args.self.now.machine.world.budget c.in-Some.end kept.whole kept.times kept.budget kept.own (sym (c.end.ensures p kept.own) ∙ c.in-Some.is)

pub returns-in-Some-clause-clock : goal.returns-in-Some-clause-clock
returns-in-Some-clause-clock c =
    let p = c.args.plain.now in
    let r = c.loop-end.self in
    let kept = c.loop-end.invariant in
    ends_at p r c.args.self.now.times c.args.self.now.machine.world.budget c.in-Some.end kept.whole kept.times kept.budget kept.own (sym (c.end.ensures p kept.own) ∙ c.in-Some.is)

pub loop-end-smaller : goal.loop-end-smaller
loop-end-smaller c =
    let p = c.args.plain.now in
    let r = c.loop-end.self in
    let kept = c.loop-end.invariant in
    let going : end_of p (machine_of r.machine) r.machine.world.budget ≡ None = sym (c.end.ensures p kept.own) ∙ c.in_default.is in
    let room : clock_of r < r.machine.world.budget = room_left p r kept.whole kept.own going in
    omega (arith, room, c.in_ok-event.ensures.clock, c.in_ok-event.ensures.budget)
