use Rattle.std.proofs.Common.{◌-◌, ◌∙◌, ap, arith, max, refl}
use Rattle.switch_reducer.proofs.Stating.{test_part, test_complement, below_complement, some_parts}
use Rattle.switch_reducer.proofs.state.SearchState.test.Goals as goal

pub complement-requires : goal.complement-requires
complement-requires c = omega (arith, below_complement c.args.self.now c.args.i c.requires (omega arith))

pub overflow_sub-parts : goal.overflow_sub-parts
overflow_sub-parts c = omega (arith, some_parts c.args.self.now c.args.i c.requires (omega arith))

pub returns-in_ok-part : goal.returns-in_ok-part
returns-in_ok-part c = test_part c.args.self.now c.args.i c.in_ok-part.field-0.items _ c.new.result (omega arith) c.in_ok-part.ensures.times refl c.new.ensures.state

pub returns-in_ok-complement : goal.returns-in_ok-complement
returns-in_ok-complement c =
    test_complement c.args.self.now c.args.i (c.args.i - c.parts-parts.result) c.in_ok-complement.field-0.items c.max.result c.new-else-i-parts.result (omega arith) (ap (λ n. c.args.i - n) c.parts-parts.ensures.parts) c.in_ok-complement.ensures.times
    (c.max.ensures ∙ ap (λ n. max (n - 1) 2) c.parts-parts.ensures.parts) c.new-else-i-parts.ensures.state
