use Rattle.std.proofs.Common.{◌<◌, ℕ, length, get_or, arith, sym}
use Rattle.paused_run.proofs.Passed.{none_left, none_yet, parts-swap, parts_here}
use Rattle.paused_run.proofs.waiting.parting.Goals as goal

pub returns-then-same-other : goal.returns-then-same-other
returns-then-same-other c =
    let own = c.args.own.now in
    let other = c.args.other.now in
    let n : ℕ = c.loop-same.same in
    parts_here own other n c.requires.own c.loop-same-test.true c.loop-same.invariant.front (λ time low. none_left other n time (omega (arith, c.if-same-other.true)))

pub returns-then-own-same : goal.returns-then-own-same
returns-then-own-same c =
    let own = c.args.own.now in
    let other = c.args.other.now in
    let n : ℕ = c.loop-same.same in
    let within : n < length other = omega (arith, c.loop-same.invariant.other, c.if-same-other.false) in
    parts_here own other n c.requires.own c.loop-same-test.true c.loop-same.invariant.front (λ time low. none_yet other n time c.requires.other within (omega (arith, low, c.if-own-same.true)))

pub returns-then-own-same-2 : goal.returns-then-own-same-2
returns-then-own-same-2 c =
    let own = c.args.own.now in
    let other = c.args.other.now in
    let n : ℕ = c.loop-same.same in
    let within : n < length other = omega (arith, c.loop-same.invariant.other, c.if-same-other.false) in
    parts-swap own other (get_or other n 0)
    (parts_here other own n c.requires.other within (sym c.loop-same.invariant.front) (λ time low. none_yet own n time c.requires.own c.loop-same-test.true (omega (arith, low, c.if-own-same-2.true))))

pub returns-then-same-other-2 : goal.returns-then-same-other-2
returns-then-same-other-2 c =
    let own = c.args.own.now in
    let other = c.args.other.now in
    let n : ℕ = c.loop-same.same in
    parts-swap own other (get_or other n 0)
    (parts_here other own n c.requires.other c.if-same-other-2.true (sym c.loop-same.invariant.front) (λ time low. none_left own n time (omega (arith, c.loop-same-test.false))))
