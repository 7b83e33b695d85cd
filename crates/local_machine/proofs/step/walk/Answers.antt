use Rattle.std.proofs.Common.{◌≡◌, ◌∙◌, ap, arith}
use Rattle.machine_model.specs.Frames.{Frame}
use Rattle.machine_model.specs.Effect.{action}
use Rattle.frame_actions.specs.declared.acted.Acted.TheVariants as acted
use Rattle.frame_actions.specs.Acts.{plain}
use Rattle.local_machine.proofs.Moved.{frame-stays}
use Rattle.local_machine.proofs.Settled.{leads-made, leads-stays, tried-ended, tried-stopped, trying-made, walked-stopped}
use Rattle.local_machine.proofs.step.walk.Goals as goal
use Rattle.local_machine.proofs.step.walk.Goals.{in-Goes, in_default}

pub returns-in_err-reserve-clause-way : goal.returns-in_err-reserve-clause-way
returns-in_err-reserve-clause-way c =
    leads-stays c.args.program.now (plain c.args.frame.now) (plain c.loop-steps.frame) (plain c.reserve.new.self) c.args.steps.now c.loop-steps.steps c.loop-steps.invariant.way c.in_err-reserve.ensures.frame

pub returns-then-not-matches-clause-ok : goal.returns-then-not-matches-clause-ok
returns-then-not-matches-clause-ok c =
    let p = c.args.program.now in
    let f = plain c.reserve.new.self in
    let acts = c.act_at_place-acted in
    elim c.match-matches.branch [
      | in-Goes w ↦ absurd (let told = w.matches-is in let other = c.if-not-matches.true in cc)
      | in_default w ↦ walked-stopped p f (plain acts.new.frame) c.loop-steps.steps acts.result c.loop-steps-test.true w.in_default.not-Goes acts.ensures.acted (frame-stays (action p f) f (plain acts.new.frame) acts.result acts.ensures.acted acts.ensures.frame w.in_default.not-Goes)
    ]

pub returns-then-not-matches-clause-way : goal.returns-then-not-matches-clause-way
returns-then-not-matches-clause-way c =
    let p = c.args.program.now in
    let f = plain c.reserve.new.self in
    let acts = c.act_at_place-acted in
    elim c.match-matches.branch [
      | in-Goes w ↦ absurd (let told = w.matches-is in let other = c.if-not-matches.true in cc)
      | in_default w ↦ leads-stays p (plain c.args.frame.now) (plain c.loop-steps.frame) (plain acts.new.frame) c.args.steps.now c.loop-steps.steps c.loop-steps.invariant.way (frame-stays (action p f) f (plain acts.new.frame) acts.result acts.ensures.acted acts.ensures.frame w.in_default.not-Goes ∙ c.in_ok-reserve.ensures.frame)
    ]

pub returns-then-not-matches-clause-tried : goal.returns-then-not-matches-clause-tried
returns-then-not-matches-clause-tried c =
    let p = c.args.program.now in
    let acts = c.act_at_place-acted in
    tried-stopped p (plain c.args.frame.now) (plain c.loop-steps.frame) (plain c.reserve.new.self) (plain acts.new.frame) c.args.steps.now c.loop-steps.steps acts.result c.loop-steps.invariant.trying c.loop-steps-test.true c.in_ok-reserve.ensures.frame acts.ensures.acted acts.ensures.frame

pub loop-steps-preserved : goal.loop-steps-preserved
loop-steps-preserved c =
    let p = c.args.program.now in
    let l = c.loop-steps in
    let acts = c.act_at_place-acted in
    let goes = elim c.match-matches.branch as (λ _. acts.result ≡ acted.Goes) [
      | in-Goes w ↦ w.in-Goes.is
      | in_default w ↦ absurd (let told = w.matches-is in let other = c.if-not-matches.false in cc)
    ] in
    record {
      few = omega arith;
      method = acts.ensures.method ∙ ap (λ (f : Frame). f.method) c.in_ok-reserve.ensures.frame ∙ l.invariant.method;
      more = omega arith;
      way = leads-made p (plain c.args.frame.now) (plain l.frame) (plain c.reserve.new.self) (plain acts.new.frame) c.args.steps.now l.steps acts.result l.invariant.way c.loop-steps-test.true c.in_ok-reserve.ensures.frame acts.ensures.acted acts.ensures.frame goes;
      trying = trying-made p (plain c.args.frame.now) (plain l.frame) (plain c.reserve.new.self) (plain acts.new.frame) c.args.steps.now l.steps acts.result l.invariant.trying c.loop-steps-test.true c.in_ok-reserve.ensures.frame acts.ensures.acted acts.ensures.frame goes;
    }

pub returns-clause-tried : goal.returns-clause-tried
returns-clause-tried c = tried-ended c.args.program.now (plain c.args.frame.now) (plain c.loop-steps.frame) c.args.steps.now c.loop-steps.steps c.loop-steps.invariant.trying (omega arith)
