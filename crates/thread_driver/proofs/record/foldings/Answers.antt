use Rattle.std.proofs.Common.{◌+◌, ◌∷◌, [], length, subst, ap, sym, ◌∙◌}
use Rattle.std.proofs.lemmas.List.{length-append}
use Rattle.schedule_log.specs.Foldings.{PlainFolding}
use Rattle.schedule_log.specs.Parts.{AreParts}
use Rattle.schedule_log.proofs.Recording.{parts_start}
use Rattle.thread_driver.proofs.record.foldings.Goals as goal

pub loop-thread-preserved : goal.loop-thread-preserved
loop-thread-preserved c =
    let made = c.new.ensures in
    let more = parts_start [] c.loop-thread.parts.items c.new.result c.loop-thread.invariant.are (ap (λ (f : PlainFolding). f.thread) made ∙ sym c.loop-thread.invariant.many) (ap (λ (f : PlainFolding). f.intervals) made) in
    record {
      many = ap length c.in_ok-push.ensures.items ∙ length-append c.loop-thread.parts.items (c.new.result ∷ []) ∙ ap (λ n. n + 1) c.loop-thread.invariant.many;
      are = subst (AreParts []) (sym c.in_ok-push.ensures.items) more;
    }
