-- The log that was read is the recording's, so its run is.
use Rattle.std.proofs.Common.{ap, length}
use Rattle.dejavu_tool.proofs.Repeating.{tells_again}
use Rattle.dejavu_tool.proofs.drilling.replayed.Goals as goal

pub returns : goal.returns
returns c =
    tells_again c.run_text.result (λ v. v.items) c.args.plain.now c.program.result.now 1 1048576 c.args.run.now.bytes.items c.args.run.now.text.items c.in_ok-log.log c.in_ok-again.again.log
    c.events.result (length c.intervals.result.now) c.in_ok-again.again.end c.in_ok-again.again.output.items c.deref.result.now
    c.requires c.in_ok-log.ensures c.in_ok-again.ensures.recording c.in_ok-again.ensures.log c.program.ensures.value c.events.ensures.count (ap length c.intervals.ensures.items) c.deref.ensures.value c.run_text.ensures
