use Rattle.std.proofs.Common.{refl, ℕ, sym, subst}
use Rattle.std.proofs.Math.Dec.{leb}
use Rattle.std.specs.Prelude.{IsTrue}
use Rattle.schedule_model.specs.Schedules.{Agree}
use Rattle.paused_run.specs.Partings.{PartAt}
use Rattle.paused_run.specs.Pauses.{clock_of}
use Rattle.paused_run.proofs.Passed.{agree_if}
use Rattle.paused_run.proofs.paused.Paused.agrees.Goals as goal

pub returns-in-Some : goal.returns-in-Some
returns-in-Some c =
    let xs = c.args.self.now.times in
    let ys = c.args.times.now in
    let own = clock_of c.args.self.now in
    let part : PartAt c.from.result xs ys = subst (λ (time : ℕ). PartAt time xs ys) (sym c.from.ensures) c.in-Some.ensures in
    subst (λ (clock : ℕ). (IsTrue (leb c.clock.result c.from.result) → Agree clock xs ys) × (Agree clock xs ys → IsTrue (leb c.clock.result c.from.result))) c.clock.ensures (agree_if xs ys c.clock.result c.from.result (leb c.clock.result c.from.result) refl part)
