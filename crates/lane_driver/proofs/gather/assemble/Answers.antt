use Rattle.std.proofs.Common.{length}
use Rattle.lane_driver.proofs.Gathering.{fit_note, stand_project, stand_ready}
use Rattle.lane_driver.proofs.gather.assemble.Goals as goal

pub assemble-requires-clause-ready : goal.assemble-requires-clause-ready
assemble-requires-clause-ready c = stand_ready c.args.plain.now c.args.world.history c.in_ok-locals.locals.items c.in_ok-locals.ensures.stand

pub assemble-requires-clause-projections : goal.assemble-requires-clause-projections
assemble-requires-clause-projections c = stand_project c.args.plain.now c.args.world.history c.args.world.shared c.in_ok-locals.locals.items c.in_ok-locals.ensures.many c.in_ok-locals.ensures.stand

pub gather_rest-requires-clause-note : goal.gather_rest-requires-clause-note
gather_rest-requires-clause-note c = fit_note c.args.plain.now c.args.world.history (length c.args.world.shared.rows) c.gather_started.new.table.items c.in_ok-locals.ensures.rest
