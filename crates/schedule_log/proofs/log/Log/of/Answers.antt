use Rattle.schedule_log.proofs.Whole.{parts_go_on}
use Rattle.schedule_log.proofs.Merging.{apart_from_maximal}
use Rattle.schedule_log.proofs.log.Log.of.Goals as goal

pub merged-requires : goal.merged-requires
merged-requires c = rw c.intervals.ensures.items (apart_from_maximal _ 0 _ c.intervals.ensures.maximal)

pub loop-part-preserved : goal.loop-part-preserved
loop-part-preserved c = rw (c.in_ok-intervals.ensures, c.deref.ensures.value, c.intervals.ensures.items) (parts_go_on c.loop-part.part-index c.loop-part.intervals.items _ c.deref-part-items.result.now c.part-item.result c.loop-part-test.true c.part-item.is c.loop-part.invariant)
