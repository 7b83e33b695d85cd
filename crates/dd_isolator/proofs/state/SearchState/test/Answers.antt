use Rattle.std.proofs.Common.{◌≡◌, ◌-◌, sym, ap, ◌∙◌, subst, arith}
use Rattle.std.specs.Prelude.{IfOk}
use Rattle.dd_isolator.specs.Rounds.{Test, taken}
use Rattle.dd_isolator.proofs.Stating.{below_twice, test_added, test_taken}
use Rattle.dd_isolator.proofs.state.SearchState.test.Goals as goal

pub taken-requires : goal.taken-requires
taken-requires c = omega (arith, below_twice c.args.self.now c.args.i c.requires)

pub returns-then-i-parts-clause-times : goal.returns-then-i-parts-clause-times
returns-then-i-parts-clause-times c = subst (λ (t : Test). IfOk c.added.result (λ times. times.items ≡ t.times)) (sym (test_added c.args.self.now c.args.i (omega arith))) c.added.ensures.times

pub returns-else-i-parts-clause-times : goal.returns-else-i-parts-clause-times
returns-else-i-parts-clause-times c =
    let e : c.parts-parts.result ≡ c.args.self.now.parts = c.parts-parts.ensures in
    subst (λ (t : Test). IfOk c.taken.result (λ times. times.items ≡ t.times)) (ap (λ n. taken c.args.self.now (c.args.i - n)) e ∙ sym (test_taken c.args.self.now c.args.i (omega arith))) c.taken.ensures.times
