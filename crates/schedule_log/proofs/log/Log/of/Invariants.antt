use Rattle.std.proofs.Common.{◌≡◌, drop, []}
use Rattle.std.specs.List.{flat_map}
use Rattle.schedule_log.specs.Foldings.{PlainFolding}
use Rattle.schedule_log.specs.Logs.{put_all}
use Rattle.schedule_log.proofs.log.Log.of.Given as goal

abbrev pub invariant-loop-part : goal.invariant-loop-part
invariant-loop-part l = put_all l.intervals.items (flat_map (λ (f : PlainFolding). f.intervals) (drop l.part-index l.part-items)) ≡ put_all [] (flat_map (λ (f : PlainFolding). f.intervals) l.fn.parts.items)
