-- Both are the run of one program by one log.
use Rattle.std.proofs.Common.{sym}
use Rattle.dejavu_tool.proofs.Repeating.{same_files}
use Rattle.dejavu_tool.proofs.laws.replay_prints_recording.Goals as goal

pub returns : goal.returns
returns g = λ c d s t program log other_program other_log lanes events recording replay texts bytes.
    sym (same_files c.before c.after d.before d.before program log other_program other_log recording.printed replay.printed recording.run replay.run texts bytes)
