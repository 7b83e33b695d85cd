use Rattle.std.proofs.lemmas.Result.{on_ok_weaker}
use Rattle.event_machine.proofs.Going.{slice_get-read, goes_on_at}
use Rattle.event_machine.proofs.threads.go_on.Goals as goal

pub returns-clause-states : goal.returns-clause-states
returns-clause-states c =
    let read = slice_get-read c.args.locals.now.items c.args.thread c.index_mut-local.result.now c.requires.thread c.index_mut-local.ensures.value in
    on_ok_weaker c.go_on_one.result (λ h. goes_on_at c.args.plain.now c.args.locals.now.items c.args.thread c.args.reply c.index_mut-local.result.now c.go_on_one.new.local read h) c.go_on_one.ensures.state
