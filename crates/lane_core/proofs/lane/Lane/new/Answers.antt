use Rattle.std.proofs.Common.{◌≡◌, ℕ, ◌<◌, ◌+◌, ◌%◌, List, [], ◌∷◌, ◌++◌, ap, sym, ◌∙◌, subst, arith}
use Rattle.std.specs.Prelude.{Contains}
use Rattle.std.proofs.lemmas.List.{map-append}
use Rattle.lane_core.specs.Lanes.{AllNew, IsNewAt}
use Rattle.gate_core.specs.Seats.{of_thread}
use Rattle.lane_core.specs.Slots.{AreOfLane, RisesFrom, thread_in, threads_in}
use Rattle.lane_core.proofs.Laning.{AllBelow, all_push, below_later, new_follow, new_push, rises_push, whole_push}
use Rattle.lane_core.proofs.lane.Lane.new.Goals as goal

pub loop-thread-preserved : goal.loop-thread-preserved
loop-thread-preserved c =
    let xs = c.loop-thread.slots.items in
    let s = c.in_ok-new_slot.field-0 in
    let k = c.loop-thread.thread in
    let kept = c.loop-thread.invariant in
    let items = c.in_ok-push.ensures.items in
    let threads : threads_in c.push.new.self.items ≡ threads_in xs ++ k ∷ [] =
    ap threads_in items ∙ map-append thread_in xs (s ∷ []) ∙ ap (λ (n : ℕ). threads_in xs ++ n ∷ []) c.in_ok-new_slot.ensures.thread in
    record {
      of_lane = subst (AreOfLane c.args.lanes c.args.number) (sym threads) (all_push (λ (t : ℕ). t % c.args.lanes ≡ c.args.number) (threads_in xs) k kept.of_lane (grind arith));
      rises = subst (RisesFrom 0) (sym threads) (rises_push 0 k (threads_in xs) (omega arith) kept.below kept.rises);
      below = subst (AllBelow (k + 1)) (sym threads) (all_push (λ (t : ℕ). t < k + 1) (threads_in xs) k (below_later k (k + 1) (threads_in xs) (omega arith) kept.below) (omega arith));
      whole = λ t low of_lane. subst (λ (ts : List ℕ). Contains ts t) (sym threads) (whole_push c.args.lanes c.args.number k (threads_in xs) kept.whole t low of_lane);
      new = subst (AllNew c.args.plain.now) (sym items) (new_push c.args.plain.now xs s kept.new (subst (λ (n : ℕ). IsNewAt c.args.plain.now n s.part) (sym c.in_ok-new_slot.ensures.thread) c.in_ok-new_slot.ensures.new));
    }

pub returns-clause-follows : goal.returns-clause-follows
returns-clause-follows c = λ seat none. record {
  each = new_follow c.args.plain.now seat c.args.number c.loop-thread.slots.items none c.loop-thread.invariant.new;
  only = λ t absent. ap (of_thread t) none;
}
