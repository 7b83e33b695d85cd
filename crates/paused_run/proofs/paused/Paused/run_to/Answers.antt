use Rattle.std.proofs.Common.{◌≡◌, length, sym, ◌∙◌, arith}
use Rattle.machine_model.specs.Ring.{schedule_threads}
use Rattle.paused_run.specs.Pauses.{clock_of}
use Rattle.paused_run.proofs.Kept.{ends_at, some_end}
use Rattle.paused_run.proofs.paused.Paused.run_to.Goals as goal

pub returns-then-is_some-clause-clock : goal.returns-then-is_some-clause-clock
returns-then-is_some-clause-clock c =
    let p = c.args.plain.now in
    let r = c.loop-alloc.self in
    let kept = c.loop-alloc.invariant in
    let e = some_end c.end.result (sym c.if-is_some.ensures) in
    let all : clock_of r ≡ length (schedule_threads p c.args.self.now.times c.args.self.now.machine.world.budget) =
    ends_at p r c.args.self.now.times c.args.self.now.machine.world.budget e.0 kept.whole kept.times kept.budget kept.own (sym (c.end.ensures p kept.own) ∙ e.1) in
    omega (arith, all, kept.low, c.loop-alloc-test.true, c.clock.ensures)
