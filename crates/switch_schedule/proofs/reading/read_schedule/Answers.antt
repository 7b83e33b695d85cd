use Rattle.std.proofs.Common.{◌-◌, length, arith}
use Rattle.switch_schedule.proofs.First.{spelled-faultless}
use Rattle.switch_schedule.proofs.Texts.{faults_here}
use Rattle.switch_schedule.proofs.reading.read_schedule.Goals as goal

pub returns-in-Err-clause-only : goal.returns-in-Err-clause-only
returns-in-Err-clause-only c times spells =
    let kept = c.loop-rest.invariant in
    let rest = c.loop-rest.rest.now in
    let bytes = c.args.bytes.now in
    absurd (spelled-faultless c.args.events (length bytes - length rest) times bytes c.in-Err.kind spells (faults_here c.in-Err.kind c.args.events c.len.result c.loop-rest.times.items rest bytes kept.parted kept.right (omega (arith, c.len.ensures, c.loop-rest.times.ok.0)) c.in-Err.ensures.err))
