-- The headline, the other commands and completeness follow from what each status says.
use Rattle.dejavu_tool.proofs.Answering.{check_holds, derive_holds, drill_holds, isolation_holds, races_hold, recording_holds, reduce_holds, seek_holds, replay_holds, run_holds, show_holds, tiles_hold}
use Rattle.dejavu_tool.proofs.Completing.{is_complete}
use Rattle.dejavu_tool.proofs.top.dejavu.Goals as goal

pub returns-clause-check : goal.returns-clause-check
returns-clause-check g c = check_holds _ _ _ _ c.answered_by_lanes.ensures.answer

pub returns-clause-recording : goal.returns-clause-recording
returns-clause-recording g c = recording_holds _ _ _ _ c.answered_by_lanes.ensures.answer

pub returns-clause-replay : goal.returns-clause-replay
returns-clause-replay g c = replay_holds _ _ _ _ c.answered_by_lanes.ensures.answer

pub returns-clause-show : goal.returns-clause-show
returns-clause-show g c = show_holds _ _ _ _ c.answered_by_lanes.ensures.answer

pub returns-clause-run : goal.returns-clause-run
returns-clause-run g c = run_holds _ _ _ _ c.answered_by_lanes.ensures.answer

pub returns-clause-drill : goal.returns-clause-drill
returns-clause-drill g c = drill_holds _ _ _ _ c.answered_by_lanes.ensures.answer

pub returns-clause-derive : goal.returns-clause-derive
returns-clause-derive g c = derive_holds _ _ _ _ c.answered_by_lanes.ensures.answer

pub returns-clause-seek : goal.returns-clause-seek
returns-clause-seek g c = seek_holds _ _ _ _ c.answered_by_lanes.ensures.answer

pub returns-clause-isolation : goal.returns-clause-isolation
returns-clause-isolation g c = isolation_holds _ _ _ _ c.answered_by_lanes.ensures.answer

pub returns-clause-reduction : goal.returns-clause-reduction
returns-clause-reduction g c = reduce_holds _ _ _ _ c.answered_by_lanes.ensures.answer

pub returns-clause-races : goal.returns-clause-races
returns-clause-races g c = races_hold _ _ _ _ c.answered_by_lanes.ensures.answer

pub returns-clause-tiles : goal.returns-clause-tiles
returns-clause-tiles g c = tiles_hold _ _ _ _ c.answered_by_lanes.ensures.answer

pub returns-clause-complete : goal.returns-clause-complete
returns-clause-complete g c = is_complete _ _ _ _ c.answered_by_lanes.ensures.answer
