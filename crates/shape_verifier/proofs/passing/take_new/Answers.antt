use Rattle.std.proofs.Common.{◌+◌, false, ◌∙◌, ◌<◌, ◌≤◌, length, Some, ap, sym, subst, arith}
use Rattle.std.specs.Prelude.{slice_set}
use Rattle.shape_verifier.specs.Passing.{PassState, least_new, reached}
use Rattle.shape_verifier.specs.Turning.{NoneNewBelow, is_new_in}
use Rattle.shape_verifier.proofs.News.{least_is, none_here, none_is, none_marked}
use Rattle.shape_verifier.proofs.Places.{read, same_again}
use Rattle.shape_verifier.proofs.passing.take_new.Goals as goal
use Rattle.shape_verifier.proofs.passing.take_new.Goals.{in-Some+else-here, in_default}

pub returns : goal.returns
returns c =
    let past : length c.loop-place.state ≤ c.loop-place.place = omega arith in
    (ap (λ (x : PassState). least_new 0 x) (sym c.loop-place.invariant.same) ∙ none_is c.loop-place.state c.loop-place.place c.loop-place.invariant.none past, c.loop-place.invariant.same)

pub returns-then-here : goal.returns-then-here
returns-then-here c =
    let low : c.loop-place.place < length c.loop-place.state = omega arith in
    let at = read c.loop-place.state c.loop-place.place c.index-state-place.result low ∙ ap Some c.in-Some.is in
    let shape = sym c.in_ok-shape.ensures in
    let least = least_is c.loop-place.state c.loop-place.place c.in-Some.here c.loop-place.invariant.none at c.if-here.true in
    let marked = none_marked c.loop-place.state c.loop-place.place c.in-Some.here.shape _ c.loop-place.invariant.none at in (
      ap (λ (x : PassState). least_new 0 x) (sym c.loop-place.invariant.same) ∙ least ∙ ap (λ s. Some (c.loop-place.place, s)) shape,
      ap (λ (x : PassState). slice_set x c.loop-place.place (reached false c.in-Some.here.shape)) c.loop-place.invariant.same ∙ ap (λ s. slice_set c.args.state.now c.loop-place.place (reached false s)) shape,
      marked,
    )

pub loop-place-preserved : goal.loop-place-preserved
loop-place-preserved c =
    elim c.match-state-place.branch [
      | in-Some+else-here w ↦
          let low : c.loop-place.place < length c.loop-place.state = omega arith in
          let at = read c.loop-place.state c.loop-place.place c.index-state-place.result low ∙ ap Some w.in-Some.is in
          let same = w.state-is ∙ same_again c.loop-place.state c.loop-place.place _ at in
          let none = none_here c.loop-place.state c.loop-place.place c.loop-place.invariant.none (ap is_new_in at ∙ w.if-here.false) in
          record { same = same ∙ c.loop-place.invariant.same; none = subst (λ (x : PassState). NoneNewBelow (c.loop-place.place + 1) x) (sym same) none }
      | in_default w ↦
          let low : c.loop-place.place < length c.loop-place.state = omega arith in
          let at = read c.loop-place.state c.loop-place.place c.index-state-place.result low in
          let same = w.state-is ∙ same_again c.loop-place.state c.loop-place.place _ at in
          let none = none_here c.loop-place.state c.loop-place.place c.loop-place.invariant.none (ap is_new_in (at ∙ ap Some w.in_default.is)) in
          record { same = same ∙ c.loop-place.invariant.same; none = subst (λ (x : PassState). NoneNewBelow (c.loop-place.place + 1) x) (sym same) none }
    ]
