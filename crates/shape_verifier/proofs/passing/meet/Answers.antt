use Rattle.std.proofs.Common.{Bool, Ok, Some, ◌∙◌, ap, subst}
use Rattle.shape_lattice.specs.Merging.{merged_shape, takes}
use Rattle.shape_verifier.specs.Turning.{RaisedSo}
use Rattle.shape_verifier.proofs.Places.{read, same_again}
use Rattle.shape_verifier.proofs.Arriving.{stays, stops}
use Rattle.shape_verifier.proofs.passing.meet.Goals as goal

pub returns-in_default : goal.returns-in_default
returns-in_default c =
    let at = read c.args.state.now c.args.place c.index-state-place.result c.if-place-state.false in
    (at ∙ ap Some c.in_default.is, same_again c.args.state.now c.args.place _ at)

pub returns-in-Ok-false : goal.returns-in-Ok-false
returns-in-Ok-false c =
    let at = read c.args.state.now c.args.place c.index-state-place.result c.if-place-state.false ∙ ap Some c.in-Some.is in
    stays c.args.program.now c.args.state.now c.args.place c.args.shape.now c.in-Some.here c.raise.new.here at
    (subst (λ (b : Bool). RaisedSo (Ok b) c.in-Some.here c.raise.new.here (takes c.args.program.now c.args.shape.now c.in-Some.here.shape) (merged_shape c.args.program.now c.args.shape.now c.in-Some.here.shape)) c.in-Ok-false.field-0-test c.in-Ok-false.ensures)

pub returns-in-Err : goal.returns-in-Err
returns-in-Err c =
    let at = read c.args.state.now c.args.place c.index-state-place.result c.if-place-state.false ∙ ap Some c.in-Some.is in
    stops c.args.program.now c.args.state.now c.args.place c.args.shape.now c.in-Some.here c.in-Err.kind at c.in-Err.ensures
