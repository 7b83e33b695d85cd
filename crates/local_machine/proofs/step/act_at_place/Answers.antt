use Rattle.std.proofs.Common.{◌<◌, ◌^◌, Option, Some, ◌∙◌, ap, sym, subst}
use Rattle.vm_model.specs.declared.instr.Instr.{Instr}
use Rattle.machine_model.specs.Effect.{effect, effect_at}
use Rattle.frame_actions.specs.declared.acted.Acted.{Acted}
use Rattle.frame_actions.specs.Acts.{plain, acted_of, after}
use Rattle.local_machine.specs.Fields.{Stands}
use Rattle.local_machine.proofs.Small.{found_in_code, small_place}
use Rattle.local_machine.proofs.Stands.{stands}
use Rattle.local_machine.proofs.step.act_at_place.Goals as goal

pub returns-in-Some-clause-acted : goal.returns-in-Some-clause-acted
returns-in-Some-clause-acted c =
    let p = c.args.program.now in
    let f = c.args.frame.now in
    let here = found_in_code p f.method f.place c.args.code.now (Some c.in-Some.instr) c.requires.code c.in-Some.ensures in
    c.act.ensures.acted ∙ ap (λ (o : Option Instr). acted_of (effect_at p o (plain f))) (sym here)

pub returns-in-Some-clause-frame : goal.returns-in-Some-clause-frame
returns-in-Some-clause-frame c =
    let p = c.args.program.now in
    let f = c.args.frame.now in
    let here = found_in_code p f.method f.place c.args.code.now (Some c.in-Some.instr) c.requires.code c.in-Some.ensures in
    c.act.ensures.frame ∙ ap (λ (o : Option Instr). after (effect_at p o (plain f)) (plain f)) (sym here)

pub returns-in-Some-clause-stands : goal.returns-in-Some-clause-stands
returns-in-Some-clause-stands c =
    let p = c.args.program.now in
    let f = c.args.frame.now in
    let i = c.in-Some.instr in
    let here = found_in_code p f.method f.place c.args.code.now (Some i) c.requires.code c.in-Some.ensures in
    let place : f.place < 2 ^ 31 = small_place p f.method f.place i c.requires.small here in
    let there = stands (effect p i (plain f)) (plain f) c.act.new.frame f.stack.room c.act.ensures.frame c.requires.room c.act.ensures.room place in
    subst (λ (a : Acted). Stands a c.act.new.frame) (sym c.act.ensures.acted) there
