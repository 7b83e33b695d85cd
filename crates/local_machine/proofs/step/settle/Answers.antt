use Rattle.std.proofs.Common.{arith, refl}
use Rattle.std.specs.Prelude.{Result, Ok, Err, IfOk}
use Rattle.vm_model.specs.declared.memory.NoMemory.{NoMemory}
use Rattle.machine_model.specs.Frames.{Running, Plain}
use Rattle.frame_actions.specs.declared.acted.Acted.{Acted}
use Rattle.frame_actions.specs.Acts.{plain}
use Rattle.local_machine.specs.Fields.{callers, frames_of}
use Rattle.local_machine.proofs.Settled.{on_the_way_here, on_the_way-made, settled-looked, settled-unmade, walked-waits}
use Rattle.local_machine.proofs.step.settle.Goals as goal

looked : {P Q : Acted → Type 0} (r : Result Acted NoMemory) → ((a : Acted) → P a → Q a) → IfOk r P → IfOk r Q
looked (Ok a) go h = go a h
looked (Err e) go h = h

pub loop-acted-init : goal.loop-acted-init
loop-acted-init c = record {
  below = c.requires.below;
  few = c.requires.steps;
  on_the_way = on_the_way_here c.args.program.now (Running (frames_of c.args.top.now c.args.below.now.items) Plain) c.args.steps.now;
}

pub returns-then-steps-eq-MOST_LOCAL_STEPS-clause-ok : goal.returns-then-steps-eq-MOST_LOCAL_STEPS-clause-ok
returns-then-steps-eq-MOST_LOCAL_STEPS-clause-ok c =
    let p = c.args.program.now in
    let old = Running (frames_of c.args.top.now c.args.below.now.items) Plain in
    let below = callers c.loop-acted.below.items in
    let way = c.in_ok-acted.ensures.way old c.args.steps.now below c.loop-acted.invariant.on_the_way in
    looked c.look.result
    (λ (a : Acted) q. settled-looked p old (plain c.walk.new.frame) (plain c.look.new.top) below c.args.steps.now c.walk.new.steps a way (omega arith) c.look.ensures.frame q)
    c.look.ensures.acted

pub returns-then-not-branch-clause-ok : goal.returns-then-not-branch-clause-ok
returns-then-not-branch-clause-ok c =
    let p = c.args.program.now in
    let old = Running (frames_of c.args.top.now c.args.below.now.items) Plain in
    let f = plain c.walk.new.frame in
    let below = callers c.loop-acted.below.items in
    let way = c.in_ok-acted.ensures.way old c.args.steps.now below c.loop-acted.invariant.on_the_way in
    let waits = walked-waits p f c.walk.new.steps c.in_ok-acted.acted c.in_ok-acted.ensures.ok c.if-steps-eq-MOST_LOCAL_STEPS.false in
    settled-unmade p old f f f (plain c.follow.new.top) below (callers c.follow.new.below.items) c.args.steps.now c.walk.new.steps c.in_ok-acted.acted c.in_ok-follow.field-0 way refl waits.1 waits.2 c.if-not-branch.true c.in_ok-follow.ensures.ok

pub loop-acted-preserved : goal.loop-acted-preserved
loop-acted-preserved c =
    let p = c.args.program.now in
    let old = Running (frames_of c.args.top.now c.args.below.now.items) Plain in
    let f = plain c.walk.new.frame in
    let below = callers c.loop-acted.below.items in
    let way = c.in_ok-acted.ensures.way old c.args.steps.now below c.loop-acted.invariant.on_the_way in
    let waits = walked-waits p f c.walk.new.steps c.in_ok-acted.acted c.in_ok-acted.ensures.ok c.if-steps-eq-MOST_LOCAL_STEPS.false in
    record {
      below = c.in_ok-follow.ensures.below;
      few = omega (arith, waits.0);
      on_the_way = on_the_way-made p old f f f below (frames_of c.follow.new.top c.follow.new.below.items) c.args.steps.now c.walk.new.steps c.in_ok-acted.acted c.in_ok-follow.field-0 way waits.0 refl waits.1 waits.2 c.if-not-branch.false c.in_ok-follow.ensures.ok;
    }
