use Rattle.std.proofs.Common.{◌≡◌, ◌∙◌, Option, Some, ap}
use Rattle.std.proofs.lemmas.Result.{on_ok_weaker}
use Rattle.machine_model.specs.LocalStep.{absorb}
use Rattle.vm_model.specs.declared.op.Op.{Op}
use Rattle.local_machine.specs.LocalView.{absorbed_by, advanced, fresh}
use Rattle.event_machine.proofs.Going.{fresh-ready, some_of}
use Rattle.event_machine.proofs.threads.go_on_one.Goals as goal

pub returns-clause-ready : goal.returns-clause-ready
returns-clause-ready c =
    let p = c.args.plain.now in
    let o = some_of c.args.local.now.pending c.requires.asks in
    let absorbed = c.absorb.ensures ∙ ap (λ (q : Option Op). fresh (absorbed_by p q c.args.local.now.state c.args.reply)) o.1 in
    on_ok_weaker c.advance.result (λ e. (fresh-ready p (absorb p c.args.local.now.state o.0 c.args.reply) c.advance.new.self (e ∙ ap (advanced p) absorbed)).1) c.advance.ensures.ok
