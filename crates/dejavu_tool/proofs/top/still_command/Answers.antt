-- A recording, a replay and completeness follow from what each status says.
use Rattle.dejavu_tool.proofs.Answering.{recording_holds, replay_holds}
use Rattle.dejavu_tool.proofs.Completing.{is_complete}
use Rattle.dejavu_tool.proofs.top.still_command.Goals as goal

pub returns-clause-recording : goal.returns-clause-recording
returns-clause-recording g c = recording_holds _ _ _ _ c.answered.ensures.answer

pub returns-clause-replay : goal.returns-clause-replay
returns-clause-replay g c = replay_holds _ _ _ _ c.answered.ensures.answer

pub returns-clause-complete : goal.returns-clause-complete
returns-clause-complete g c = is_complete _ _ _ _ c.answered.ensures.answer
