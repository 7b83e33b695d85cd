use Rattle.std.proofs.Common.{◌≡◌, sym}
use Rattle.event_machine.proofs.Going.{history_after, turn_made, whole_after}
use Rattle.event_machine.proofs.machine.event_of.Goals as goal

pub returns-in_err-go_on-clause-history : goal.returns-in_err-go_on-clause-history
returns-in_err-go_on-clause-history c =
    history_after c.args.plain.now c.args.world.now c.make.new.self c.args.locals.now.items c.args.thread c.args.op c.requires.whole c.requires.asks c.requires.enabled c.requires.open c.in-Ok.ensures.world

pub returns-in_err-start-clause-history : goal.returns-in_err-start-clause-history
returns-in_err-start-clause-history c =
    history_after c.args.plain.now c.args.world.now c.make.new.self c.args.locals.now.items c.args.thread c.args.op c.requires.whole c.requires.asks c.requires.enabled c.requires.open c.in-Ok.ensures.world

pub returns-clause-turned : goal.returns-clause-turned
returns-clause-turned c =
    turn_made c.args.plain.now c.args.world.now c.make.new.self c.args.locals.now.items c.go_on.new.locals.items c.start.new.locals.items c.args.thread c.args.op c.in-Ok.reply
    c.requires.whole.declarations c.requires.whole.ready c.requires.asks c.requires.enabled c.requires.open c.in-Ok.ensures.reply c.in-Ok.ensures.world c.in_ok-go_on.ensures.states c.in_ok-start.ensures.states

pub returns-clause-whole : goal.returns-clause-whole
returns-clause-whole c =
    let turned = turn_made c.args.plain.now c.args.world.now c.make.new.self c.args.locals.now.items c.go_on.new.locals.items c.start.new.locals.items c.args.thread c.args.op c.in-Ok.reply
    c.requires.whole.declarations c.requires.whole.ready c.requires.asks c.requires.enabled c.requires.open c.in-Ok.ensures.reply c.in-Ok.ensures.world c.in_ok-go_on.ensures.states c.in_ok-start.ensures.states in
    whole_after c.args.plain.now c.args.world.now c.make.new.self c.args.locals.now.items c.start.new.locals.items c.args.thread c.args.op c.requires.whole c.in-Ok.ensures.world turned c.in_ok-start.ensures.ready

pub returns-clause-history : goal.returns-clause-history
returns-clause-history c =
    history_after c.args.plain.now c.args.world.now c.make.new.self c.args.locals.now.items c.args.thread c.args.op c.requires.whole c.requires.asks c.requires.enabled c.requires.open c.in-Ok.ensures.world
