use Rattle.std.proofs.Common.{◌≡◌, length, refl, sym, subst}
use Rattle.std.specs.Prelude.{◌≢◌, Option, Some, None, Result, Ok, Err, OnErr}
use Rattle.vm_model.specs.declared.memory.NoMemory.{NoMemory}
use Rattle.frame_actions.specs.declared.acted.Acted.{Acted}
use Rattle.local_machine.specs.declared.completion.Ready.{Ready}
use Rattle.frame_actions.specs.Acts.{plain}
use Rattle.local_machine.specs.Fields.{callers}
use Rattle.local_machine.specs.States.{IsReached, StandsAt, state_of}
use Rattle.local_machine.proofs.Moved.{length-callers}
use Rattle.local_machine.proofs.Reached.{on_the_way-at, reached-at, reached-elsewhere}
use Rattle.local_machine.proofs.reach.reach.Goals as goal

on_err : {P : Type 0} (r : Result (Option Ready) NoMemory) → P → OnErr r P
on_err (Ok x) h = tt
on_err (Err e) h = h

is_none : (o : Option Acted) → ((a : Acted) → o ≢ Some a) → o ≡ None
is_none None h = refl
is_none (Some a) h = absurd (h a refl)

pub returns-in_default-clause-ok : goal.returns-in_default-clause-ok
returns-in_default-clause-ok c =
    let p = c.args.program.now in
    let top = c.args.top.now in
    let below = c.args.below.now.items in
    let top' = c.stand.new.top in
    let below' = c.stand.new.below.items in
    let steps = c.args.steps.now in
    let s = c.stand.new.steps in
    let there = subst (λ (o : Option Acted). StandsAt p c.args.phase (plain top) (callers below) steps (plain top') (callers below') s o) (is_none c.in_ok-acted.field-0 c.in_default.not-Some) c.in_ok-acted.ensures.ok in
    subst (λ (r : Option Ready). IsReached p (state_of c.args.phase top below) steps (state_of c.args.phase top' below') s r) (sym c.elsewhere.ensures)
    (reached-elsewhere p c.args.phase top top' below below' steps s there)

pub returns-in_err-ready-clause-err : goal.returns-in_err-ready-clause-err
returns-in_err-ready-clause-err c =
    let p = c.args.program.now in
    let top = c.args.top.now in
    let below = c.args.below.now.items in
    let top' = c.stand.new.top in
    let mid = c.stand.new.below.items in
    let steps = c.args.steps.now in
    let s = c.stand.new.steps in
    let there = subst (λ (o : Option Acted). StandsAt p c.args.phase (plain top) (callers below) steps (plain top') (callers mid) s o) c.in-Some.is c.in_ok-acted.ensures.ok in
    on_err c.from_residual-in_err-ready.result
    (on_the_way-at p c.args.phase top top' below mid c.prepare.new.below.items steps s c.in-Some.acted there c.in_err-ready.ensures.below)

pub returns-clause-ok : goal.returns-clause-ok
returns-clause-ok c =
    let p = c.args.program.now in
    let top = c.args.top.now in
    let below = c.args.below.now.items in
    let top' = c.stand.new.top in
    let mid = c.stand.new.below.items in
    let below' = c.prepare.new.below.items in
    let steps = c.args.steps.now in
    let s = c.stand.new.steps in
    let asks = c.in_ok-ready.ensures in
    let there = subst (λ (o : Option Acted). StandsAt p c.args.phase (plain top) (callers below) steps (plain top') (callers mid) s o) c.in-Some.is c.in_ok-acted.ensures.ok in
    subst (λ (r : Ready). IsReached p (state_of c.args.phase top below) steps (state_of c.args.phase top' below') s (Some r)) (sym c.ready_at.ensures)
    (reached-at p c.args.phase top top' below mid below' steps s c.in-Some.acted c.in_ok-ready.ready (length mid) there asks.below (sym (length-callers mid)) asks.op asks.completion)
