use Rattle.std.proofs.Common.{◌≡◌, ◌+◌, ◌-◌, length, sym, ◌∙◌, arith}
use Rattle.schedule_log.proofs.Runs.{reach_last}
use Rattle.schedule_log.proofs.Tiling.{counted_all}
use Rattle.schedule_log.proofs.placing.events_of.Goals as goal

pub returns-else-count-eq0 : goal.returns-else-count-eq0
returns-else-count-eq0 c =
    let is = c.args.intervals.now in
    let size : length is ≡ length is - 1 + 1 = omega arith in
    let total = counted_all is c.requires.contiguous in
    let last = reach_last 0 is (length is - 1) (record { thread = 0; first = 0; last = 0 }) size in
    sym last ∙ sym total
