use Rattle.std.proofs.Common.{◌≡◌, ◌≤◌, length}
use Rattle.switch_schedule.specs.Lines.{number_from, number_in}
use Rattle.switch_schedule.proofs.reading.value_of.Given as goal

abbrev pub invariant-loop-rest : goal.invariant-loop-rest
invariant-loop-rest l = record { within : l.number ≤ 9999999; so_far : number_from l.number l.rest ≡ number_in l.digits }

abbrev pub decreases-loop-rest : goal.decreases-loop-rest
decreases-loop-rest l = length l.rest
