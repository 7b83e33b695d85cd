use Rattle.std.proofs.Common.{refl}
use Rattle.std.specs.Prelude.{Result, Option, Ok, Err, OnErr}
use Rattle.vm_model.specs.declared.memory.NoMemory.{NoMemory}
use Rattle.frame_actions.specs.declared.acted.Acted.{Acted}
use Rattle.local_machine.proofs.Reached.{waiting-on_the_way}
use Rattle.local_machine.proofs.reach.stand.Goals as goal

on_err : {P : Type 0} (r : Result (Option Acted) NoMemory) → P → OnErr r P
on_err (Ok x) h = tt
on_err (Err e) h = h

pub returns-in_err-acted-in-Waiting-clause-err : goal.returns-in_err-acted-in-Waiting-clause-err
returns-in_err-acted-in-Waiting-clause-err c =
    on_err c.from_residual-in_err-acted-in-Waiting.result
    (waiting-on_the_way c.args.program.now c.args.phase c.in-Waiting.lock c.in-Waiting.count c.args.top.now c.look.new.top c.args.below.now.items c.args.below.now.items c.args.steps.now c.in-Waiting.is c.in_err-acted-in-Waiting.ensures.frame refl)
