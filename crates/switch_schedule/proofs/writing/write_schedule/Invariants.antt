use Rattle.std.proofs.Common.{◌≡◌, take}
use Rattle.switch_schedule.specs.Texts.{schedule_text}
use Rattle.switch_schedule.proofs.writing.write_schedule.Given as goal

abbrev pub invariant-loop-time : goal.invariant-loop-time
invariant-loop-time l = l.out.items ≡ schedule_text (take l.time-index l.time-items)
