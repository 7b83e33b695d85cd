use Rattle.program_reducer.proofs.Stored.{small_left, times_left}
use Rattle.program_reducer.proofs.program.reduce_program.Goals as goal

pub returns-in_ok-reduce_fault-in-Fault-clause-times : goal.returns-in_ok-reduce_fault-in-Fault-clause-times
returns-in_ok-reduce_fault-in-Fault-clause-times g c = λ times.
    times_left c.args.plain.now c.args.events c.args.fail.now c.in-Fault.fault c.in_ok-reduce_fault-in-Fault.field-0 c.in_ok-reduce_fault-in-Fault.ensures.left times

pub returns-in_ok-reduce_fault-in-Fault-clause-small : goal.returns-in_ok-reduce_fault-in-Fault-clause-small
returns-in_ok-reduce_fault-in-Fault-clause-small g c = λ times.
    small_left c.args.plain.now c.args.events c.args.fail.now c.in-Fault.fault c.in_ok-reduce_fault-in-Fault.field-0 c.in_ok-reduce_fault-in-Fault.ensures.left times c.requires.limit
