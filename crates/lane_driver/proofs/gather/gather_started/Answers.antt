use Rattle.std.proofs.Common.{ℕ, ◌+◌, List, [], ◌∷◌, length, ap, sym, ◌∙◌, subst}
use Rattle.std.proofs.lemmas.List.{length-append, length-set}
use Rattle.machine_model.specs.Machine.{threads_of}
use Rattle.schedule_log.specs.Parts as log
use Rattle.schedule_log.specs.Foldings.{PlainFolding}
use Rattle.local_machine.specs.LocalView.{LocalView}
use Rattle.lane_driver.specs.Gathered.{AllParts, AllStand, Stands}
use Rattle.lane_driver.proofs.Gathering.{fit_later, push_each}
use Rattle.lane_driver.proofs.gather.gather_started.Goals as goal

pub loop-thread-preserved : goal.loop-thread-preserved
loop-thread-preserved c =
    let p = c.args.plain.now in
    let h = c.args.world.now.history in
    let kept = c.loop-thread.invariant in
    let xs = c.loop-thread.locals.items in
    let fs = c.loop-thread.parts.items in
    let l = c.in_ok-local.local in
    let f = c.in_ok-local.folding in
    record {
      size = length-set c.loop-thread.table.items c.loop-thread.thread c.take-kept.new.self ∙ kept.size;
      fit = fit_later p h c.loop-thread.thread c.loop-thread.table.items c.take-kept.new.self kept.fit;
      many = ap length c.in_ok-push.ensures.items ∙ length-append xs (l ∷ []) ∙ ap (λ (n : ℕ). n + 1) kept.many;
      parts_many = ap length c.in_ok-push-2.ensures.items ∙ length-append fs (f ∷ []) ∙ ap (λ (n : ℕ). n + 1) kept.parts_many;
      stand =
          subst (λ (ls : List LocalView). AllStand p h ls) (sym c.in_ok-push.ensures.items)
          (push_each (λ (t : ℕ) (m : LocalView). Stands p h t m) xs l kept.stand (subst (λ (n : ℕ). Stands p h n l) (sym kept.many) c.in_ok-local.ensures.local));
      parts =
          subst (λ (gs : List PlainFolding). AllParts h gs) (sym c.in_ok-push-2.ensures.items)
          (push_each (λ (t : ℕ) (m : PlainFolding). log.IsPart (threads_of h) t m) fs f kept.parts (subst (λ (n : ℕ). log.IsPart (threads_of h) n f) (sym kept.parts_many) c.in_ok-local.ensures.folding));
    }
