use Rattle.std.proofs.Common.{◌≡◌, ◌<◌, length, Ok, Err, sym, subst, ◌∙◌, arith, rules}
use Rattle.std.specs.Prelude.{Result}
use Rattle.vm_model.specs.declared.memory.Failure.{Failure}
use Rattle.shape_verifier.specs.declared.fault.Refusal.{Refusal}
use Rattle.shape_verifier.specs.Turning.{SettledSo}
use Rattle.shape_verifier.proofs.Settling.{settled, stopped, taken, turn_keeps, turn_lower}
use Rattle.shape_verifier.proofs.Turns.{leads_on}
use Rattle.shape_verifier.proofs.passing.settle.Goals as goal

pub turn-requires-clause-place : goal.turn-requires-clause-place
turn-requires-clause-place c =
    let t = taken c.args.program.now c.args.number c.args.method.now c.turns.state c.take_new.new.state c.in_ok-place.field-0 c.in-Some.place c.in-Some.shape c.turns.invariant.within c.in_ok-place.ensures c.in-Some.is in
    let low : c.in-Some.place < length c.turns.state = t.low in
    omega (arith, c.turns.invariant.long)

pub turn-requires-clause-within : goal.turn-requires-clause-within
turn-requires-clause-within c =
    (taken c.args.program.now c.args.number c.args.method.now c.turns.state c.take_new.new.state c.in_ok-place.field-0 c.in-Some.place c.in-Some.shape c.turns.invariant.within c.in_ok-place.ensures c.in-Some.is).within

pub turn-requires-clause-locals : goal.turn-requires-clause-locals
turn-requires-clause-locals c =
    (taken c.args.program.now c.args.number c.args.method.now c.turns.state c.take_new.new.state c.in_ok-place.field-0 c.in-Some.place c.in-Some.shape c.turns.invariant.within c.in_ok-place.ensures c.in-Some.is).wide

pub turns-smaller : goal.turns-smaller
turns-smaller c =
    let t = taken c.args.program.now c.args.number c.args.method.now c.turns.state c.take_new.new.state c.in_ok-place.field-0 c.in-Some.place c.in-Some.shape c.turns.invariant.within c.in_ok-place.ensures c.in-Some.is in
    turn_lower c.args.program.now c.args.number c.args.method.now c.turns.state c.take_new.new.state c.turn.new.state c.in-Some.place c.in-Some.shape t c.in_ok-from.ensures.0

pub turns-preserved : goal.turns-preserved
turns-preserved c =
    let t = taken c.args.program.now c.args.number c.args.method.now c.turns.state c.take_new.new.state c.in_ok-place.field-0 c.in-Some.place c.in-Some.shape c.turns.invariant.within c.in_ok-place.ensures c.in-Some.is in
    let k = turn_keeps c.args.program.now c.args.number c.args.method.now c.turns.state c.take_new.new.state c.turn.new.state c.in-Some.place c.in-Some.shape t c.in_ok-from.ensures.0 in
    record {
      long = k.long ∙ t.long ∙ c.turns.invariant.long;
      within = k.within;
      none = c.in_ok-from.ensures.1;
      leads = leads_on c.args.program.now c.args.number c.args.method.now c.args.state.now c.turns.state c.turn.new.state c.turns.invariant.leads (t.turns (Ok c.turn.new.state) c.in_ok-from.ensures.0);
    }

pub returns-in_err-from : goal.returns-in_err-from
returns-in_err-from c =
    let t = taken c.args.program.now c.args.number c.args.method.now c.turns.state c.take_new.new.state c.in_ok-place.field-0 c.in-Some.place c.in-Some.shape c.turns.invariant.within c.in_ok-place.ensures c.in-Some.is in
    let is : c.from_residual-in_err-from.result ≡ Err c.in_err-from.field-0.0 = search rules in
    subst (λ (r : Result (Unit {0}) (Failure Refusal)). SettledSo r c.args.program.now c.args.number c.args.method.now c.args.state.now c.turn.new.state) (sym is)
    (stopped c.args.program.now c.args.number c.args.method.now c.args.state.now c.turns.state c.take_new.new.state c.turn.new.state c.in-Some.place c.in-Some.shape c.in_err-from.field-0.0 c.turns.invariant.leads t c.in_err-from.ensures)

pub returns : goal.returns
returns c = settled c.args.program.now c.args.number c.args.method.now c.args.state.now c.turns.state c.take_new.new.state c.in_ok-place.field-0 c.turns.invariant.leads c.in_ok-place.ensures c.in_default.is
