use Rattle.std.proofs.Common.{◌≡◌, ◌-◌, ap, ◌∙◌, arith, refl, max}
use Rattle.dd_isolator.proofs.Stating.{below_twice, same_state, after_fail_added, after_fail_taken}
use Rattle.dd_isolator.proofs.state.SearchState.failed.Goals as goal

pub overflow_sub-parts : goal.overflow_sub-parts
overflow_sub-parts c = omega (arith, below_twice c.args.self.now c.args.place c.requires)

pub returns-then-place-parts : goal.returns-then-place-parts
returns-then-place-parts c = same_state _ _ _ _ _ _ c.new.result _ c.new.ensures.state (c.in_ok-passing.ensures ∙ c.passing.ensures.value) c.in_ok-failing.ensures.times refl (after_fail_added c.args.self.now c.args.place (omega arith))

pub returns-else-place-parts : goal.returns-else-place-parts
returns-else-place-parts c =
    let parts : c.max.result ≡ max (c.args.self.now.parts - 1) 2 = c.max.ensures ∙ ap (λ n. max (n - 1) 2) c.parts-parts.ensures in
    same_state _ _ _ _ _ _ c.new-else-place-parts.result _ c.new-else-place-parts.ensures.state (c.in_ok-passing.ensures ∙ c.passing.ensures.value) c.in_ok-failing.ensures.times parts (after_fail_taken c.args.self.now c.args.place (omega arith))
