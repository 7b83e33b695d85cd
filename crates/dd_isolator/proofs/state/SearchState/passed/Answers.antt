use Rattle.std.proofs.Common.{◌≡◌, ◌-◌, ap, ◌∙◌, arith, refl, max}
use Rattle.dd_isolator.proofs.Stating.{same_state, after_pass_added, after_pass_taken}
use Rattle.dd_isolator.proofs.state.SearchState.passed.Goals as goal

pub returns-then-place-parts : goal.returns-then-place-parts
returns-then-place-parts c =
    let parts : c.max.result ≡ max (c.args.self.now.parts - 1) 2 = c.max.ensures ∙ ap (λ n. max (n - 1) 2) c.parts-parts.ensures in
    same_state _ _ _ _ _ _ c.new.result _ c.new.ensures.state c.in_ok-passing.ensures.times (c.in_ok-failing.ensures ∙ c.failing.ensures.value) parts (after_pass_added c.args.self.now c.args.place (omega arith))

pub returns-else-place-parts : goal.returns-else-place-parts
returns-else-place-parts c = same_state _ _ _ _ _ _ c.new-else-place-parts.result _ c.new-else-place-parts.ensures.state c.in_ok-passing.ensures.times (c.in_ok-failing.ensures ∙ c.failing.ensures.value) refl (after_pass_taken c.args.self.now c.args.place (omega arith))
