use Rattle.std.proofs.Common.{sym, ◌∙◌, ap, arith, inl, inr}
use Rattle.std.proofs.lemmas.Bool.Decides.{nat_tests}
use Rattle.name_resolver.proofs.Types.{one-more, none-left}
use Rattle.name_resolver.proofs.descriptors.types_in.Goals as goal

pub returns-then-is_empty : goal.returns-then-is_empty
returns-then-is_empty c = sym (none-left c.loop-left.types.items c.loop-left.left c.args.classes.now c.loop-left.rest.now (inr (grind (arith, nat_tests, c.is_empty.ensures, c.if-is_empty.true)))) ∙ c.loop-left.invariant

pub loop-left-preserved : goal.loop-left-preserved
loop-left-preserved c =
    rw (c.in_ok-push.ensures.items, c.unless_bad-rest.ensures, ap (λ x. x.0) c.type_at-found.ensures, ap (λ x. x.1) c.type_at-found.ensures) (one-more c.loop-left.types.items c.loop-left.left c.args.classes.now c.loop-left.rest.now c.loop-left-test.true (grind (arith, nat_tests, c.is_empty.ensures, c.if-is_empty.false)))
    ∙ c.loop-left.invariant

pub returns : goal.returns
returns c = sym (none-left c.loop-left.types.items c.loop-left.left c.args.classes.now c.loop-left.rest.now (inl (omega (arith, c.loop-left-test.false)))) ∙ c.loop-left.invariant
