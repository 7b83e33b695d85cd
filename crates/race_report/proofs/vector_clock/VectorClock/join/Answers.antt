use Rattle.std.proofs.Common.{ℕ, ◌<◌, ◌↔◌, ◌⊎◌, length, arith, rules}
use Rattle.race_report.specs.Clocks.{time}
use Rattle.race_report.proofs.Times.{join_step, join_end}
use Rattle.race_report.proofs.vector_clock.VectorClock.join.Goals as goal

pub loop-t-preserved : goal.loop-t-preserved
loop-t-preserved c =
    let fits : c.loop-t.t < length c.loop-t.self-inside.times = omega (arith, c.loop-t.invariant.size, c.loop-t-test.true) in
    record {
      size = search rules;
      other = c.other.told;
      joined = join_step _ _ _ _ _ fits c.loop-t.invariant.joined c.later.ensures.either;
    }

pub returns : goal.returns
returns c =
    let whole : (t n : ℕ) → (n < time (record { times = c.loop-t.self-inside.times }) t) ↔ ((n < time (record { times = c.self.inside.times }) t) ⊎ (n < time (record { times = c.other.inside.times }) t)) =
    join_end _ _ _ _ (omega (arith, c.loop-t.invariant.size, c.loop-t-test.false)) (omega (arith, c.self.told, c.loop-t-test.false)) (omega (arith, c.other.told, c.loop-t-test.false)) c.loop-t.invariant.joined in
    record { joined = rw (← c.self.view_is, ← c.other.view_is) whole }
