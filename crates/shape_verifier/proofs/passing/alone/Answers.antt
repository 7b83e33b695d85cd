use Rattle.std.proofs.Common.{◌≡◌, ◌+◌, ◌-◌, ◌++◌, replicate, None, ap, sym, ◌∙◌, arith}
use Rattle.std.proofs.lemmas.List.{append-nil}
use Rattle.shape_verifier.specs.Passing.{PassState}
use Rattle.shape_verifier.proofs.Places.{none_more}
use Rattle.shape_verifier.proofs.passing.alone.Goals as goal

pub loop-place-preserved : goal.loop-place-preserved
loop-place-preserved c =
    ap (λ (x : PassState). x ++ replicate (c.args.count - (c.loop-place._place + 1)) None) c.in_ok-push-2.ensures.items
    ∙ none_more c.loop-place.state.items c.args.count c.loop-place._place c.loop-place-test.true ∙ c.loop-place.invariant

pub returns : goal.returns
returns c = let past : c.args.count - c.loop-place._place ≡ 0 = omega arith in
    sym (append-nil c.loop-place.state.items) ∙ sym (ap (λ n. c.loop-place.state.items ++ replicate n None) past) ∙ c.loop-place.invariant
