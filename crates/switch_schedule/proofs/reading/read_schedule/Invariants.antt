use Rattle.std.proofs.Common.{◌≡◌, ◌++◌, length}
use Rattle.switch_schedule.specs.Texts.{AreTimes, schedule_text}
use Rattle.switch_schedule.proofs.reading.read_schedule.Given as goal

abbrev pub invariant-loop-rest : goal.invariant-loop-rest
invariant-loop-rest l = record { parted : l.bytes ≡ schedule_text l.times.items ++ l.rest; right : AreTimes l.events l.times.items }

abbrev pub decreases-loop-rest : goal.decreases-loop-rest
decreases-loop-rest l = length l.rest
