use Rattle.std.proofs.Common.{ℕ, ◌+◌, List, [], ◌∷◌, length, Some, ap, sym, ◌∙◌, subst, arith}
use Rattle.std.proofs.lemmas.List.{length-append, length-set}
use Rattle.machine_model.specs.Machine.{threads_of}
use Rattle.schedule_log.specs.Parts as log
use Rattle.schedule_log.specs.Foldings.{PlainFolding}
use Rattle.lane_driver.specs.Gathered.{AllParts}
use Rattle.lane_driver.proofs.Gathering.{are_parts, note_later, push_each, read_at}
use Rattle.lane_driver.proofs.gather.gather_rest.Goals as goal

pub loop-thread-preserved : goal.loop-thread-preserved
loop-thread-preserved c =
    let h = c.args.world.now.history in
    let kept = c.loop-thread.invariant in
    let fs = c.loop-thread.parts.items in
    let f = c.folding_of.result in
    let table = c.loop-thread.table.items in
    let at = read_at table c.loop-thread.thread c.index_mut-slot.result.now (omega (arith, kept.size, c.loop-thread-test.true)) c.index_mut-slot.ensures.value ∙ ap Some (sym c.take-kept.ensures.value) in
    record {
      size = length-set c.loop-thread.table.items c.loop-thread.thread c.take-kept.new.self ∙ kept.size;
      note = note_later (threads_of h) c.loop-thread.thread c.loop-thread.table.items c.take-kept.new.self kept.note;
      many = ap length c.in_ok-push.ensures.items ∙ length-append fs (f ∷ []) ∙ ap (λ (n : ℕ). n + 1) kept.many;
      parts =
          subst (λ (gs : List PlainFolding). AllParts h gs) (sym c.in_ok-push.ensures.items)
          (push_each (λ (t : ℕ) (m : PlainFolding). log.IsPart (threads_of h) t m) fs f kept.parts
          (subst (λ (n : ℕ). log.IsPart (threads_of h) n f) (sym kept.many) (c.folding_of.ensures (threads_of h) (kept.note c.loop-thread.thread c.take-kept.result (omega arith) at))));
    }

pub returns-clause-parts : goal.returns-clause-parts
returns-clause-parts c =
    let noted = c.loop-thread.invariant in
    are_parts c.args.world.now.history c.started_count-thread.result c.loop-thread.parts.items c.started_count-thread.ensures.threads (omega (arith, noted.many, c.loop-thread-test.false, c.started_count-thread.ensures.few)) noted.parts

pub returns-clause-many : goal.returns-clause-many
returns-clause-many c = omega (arith, c.loop-thread.invariant.many, c.loop-thread-test.false, c.loop-thread.auto.thread-end c.started_count-thread.ensures.few)
