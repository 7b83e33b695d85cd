use Rattle.std.proofs.Common.{ℕ, ◌+◌, List, ap, sym, ◌∙◌, subst, arith, take}
use Rattle.std.specs.Prelude.{Contains, Ok, Err, slice_set}
use Rattle.std.proofs.lemmas.List.{length-set}
use Rattle.lane_core.specs.Slots.{AllFollow, AreOfLane, RisesFrom, SoFar}
use Rattle.lane_core.specs.Parts.{FollowsAt}
use Rattle.lane_core.specs.declared.pace.Pace.{Pace}
use Rattle.lane_core.proofs.Rounds.{contains_thread, follow_set, of_lane_at, read_at, round_then, so_far_more, threads_set, told_off_same, with_memory}
use Rattle.lane_core.proofs.round.round.Goals as goal

pub returns-in-Err-clause-threads : goal.returns-in-Err-clause-threads
returns-in-Err-clause-threads g c =
    let xs = c.loop-i.slots.items in
    let at = read_at xs c.loop-i.i c.index_mut-slot.result.now (omega arith) c.index_mut-slot.ensures.value in
    threads_set xs c.loop-i.i c.index_mut-slot.result.now c.step.new.slot at c.in-Err.ensures.thread ∙ c.loop-i.invariant.threads

pub returns-in-Err-clause-round : goal.returns-in-Err-clause-round
returns-in-Err-clause-round g c =
    let xs = c.loop-i.slots.items in
    let at = read_at xs c.loop-i.i c.index_mut-slot.result.now (omega arith) c.index_mut-slot.ensures.value in
    let has = contains_thread xs c.loop-i.i c.index_mut-slot.result.now at in
    round_then _ c.args.lane c.index_mut-slot.result.now.thread (g.G.Gate.told c.args.seat.now) (g.G.Gate.told c.loop-i.seat) (g.G.Gate.told c.step.new.seat)
    (subst (λ (ts : List ℕ). Contains ts c.index_mut-slot.result.now.thread) c.loop-i.invariant.threads has) c.loop-i.invariant.round c.in-Err.ensures.only

pub loop-i-preserved : goal.loop-i-preserved
loop-i-preserved g c =
    let xs = c.loop-i.slots.items in
    let i = c.loop-i.i in
    let s = c.index_mut-slot.result.now in
    let s' = c.step.new.slot in
    let kept = c.loop-i.invariant in
    let start = g.G.Gate.told c.args.seat.now in
    let old = g.G.Gate.told c.loop-i.seat in
    let new = g.G.Gate.told c.step.new.seat in
    let done = c.in-Ok.ensures in
    let at = read_at xs i s (omega arith) c.index_mut-slot.ensures.value in
    let has = contains_thread xs i s at in
    record {
      seat = done.seat;
      lane = subst (λ (ls : List ℕ). Contains ls c.args.lane) (sym done.only.lanes) kept.lane;
      many = length-set xs i s' ∙ kept.many;
      threads = threads_set xs i s s' at done.thread ∙ kept.threads;
      follows = follow_set c.args.plain.now old new c.args.lane 0 xs i s s' at (subst (RisesFrom 0) (sym kept.threads) c.requires.rises) done.only kept.follows done.follows;
      round = round_then _ c.args.lane s.thread start old new (subst (λ (ts : List ℕ). Contains ts s.thread) kept.threads has) kept.round done.only;
      told_off = told_off_same c.in-Ok.next old new done.paced ∙ kept.told_off;
      so_far =
          subst (λ (q : Pace). SoFar q (take (i + 1) (slice_set xs i s')) start new) (sym c.joined-pace.ensures)
          (so_far_more c.loop-i.pace c.in-Ok.next xs i s s' start old new at kept.round.tries done.only.tries (λ e. done.ended (ap Ok e)) done.paced kept.so_far);
    }

pub step-requires-clause-thread : goal.step-requires-clause-thread
step-requires-clause-thread g c κs within =
    let xs = c.loop-i.slots.items in
    let at = read_at xs c.loop-i.i c.index_mut-slot.result.now (omega arith) c.index_mut-slot.ensures.value in
    of_lane_at (g.G.Gate.about c.args.gate.now).lanes c.args.lane xs c.loop-i.i c.index_mut-slot.result.now at (subst (AreOfLane (g.G.Gate.about c.args.gate.now).lanes c.args.lane) (sym c.loop-i.invariant.threads) c.requires.of_lane)

pub returns-in-Err-clause-follows : goal.returns-in-Err-clause-follows
returns-in-Err-clause-follows g c =
    let xs = c.loop-i.slots.items in
    let i = c.loop-i.i in
    let s = c.index_mut-slot.result.now in
    let s' = c.step.new.slot in
    let old = g.G.Gate.told c.loop-i.seat in
    let new = g.G.Gate.told c.step.new.seat in
    let at = read_at xs i s (omega arith) c.index_mut-slot.ensures.value in
    with_memory {A = Pace} (Err c.in-Err.end) (FollowsAt c.args.plain.now new c.args.lane s'.thread s'.part) (AllFollow c.args.plain.now new c.args.lane (slice_set xs i s'))
    (λ follows. follow_set c.args.plain.now old new c.args.lane 0 xs i s s' at (subst (RisesFrom 0) (sym c.loop-i.invariant.threads) c.requires.rises) c.in-Err.ensures.only c.loop-i.invariant.follows follows)
    c.in-Err.ensures.follows
