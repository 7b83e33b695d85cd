-- Three loads only read.
use Rattle.std.proofs.Common.{refl, sym, subst, ◌∙◌, arith}
use Rattle.std.proofs.lemmas.Result.{err_from_is_err_and}
use Rattle.vm_model.specs.Program.{PlainProgram}
use Rattle.tool_stages.specs.Calls.{folder_call}
use Rattle.tool_stages.specs.Files.{LoadsProgram}
use Rattle.dejavu_tool.proofs.Earlier.{fail_halts, isolate_halts_so, isolates_so, program_earlier, schedule_earlier}
use Rattle.dejavu_tool.proofs.isolating.isolate_file.Goals as goal

pub returns-in_err-failing-clause-halts : goal.returns-in_err-failing-clause-halts
returns-in_err-failing-clause-halts g c =
    let p = err_from_is_err_and c.from_residual-in_err-failing.result c.from_residual-in_err-failing.ensures.1 in
    let told = g.F.Folder.is_told in
    let file = g.F.Folder.file in
    let loads = g.F.Folder.load_faults in
    let stores = g.F.Folder.store_faults in
    let first = folder_call told file loads stores c.args.folder.now c.load_program.new.folder in
    let second = folder_call told file loads stores c.load_program.new.folder c.load_schedule.new.folder in
    let third = folder_call told file loads stores c.load_schedule.new.folder c.load_schedule-2.new.folder in
    let whole = folder_call told file loads stores c.args.folder.now c.load_schedule-2.new.folder in
    rw (p.1, p.2) (fail_halts third whole c.args.program.now c.args.pass.now c.args.fail.now c.args.tests c.args.workers c.args.events c.in_ok-shaped.shaped c.in_ok-passing.passing c.in_err-failing.field-0.0
    (record {
      told = sym (c.load_schedule.ensures.told ∙ c.load_program.ensures.told);
      before = λ n. sym (c.load_schedule.ensures.reads.files n ∙ c.load_program.ensures.reads.files n);
    })
    (sym (c.in_ok-passing.ensures.counts ∙ c.in_ok-shaped.ensures.counts))
    refl
    (λ t n. c.load_schedule-2.ensures.reads.files n ∙ c.load_schedule.ensures.reads.files n ∙ c.load_program.ensures.reads.files n)
    (program_earlier first whole c.args.program.now c.in_ok-shaped.shaped (record { told = refl; before = λ n. refl }) c.in_ok-shaped.ensures.loads)
    (schedule_earlier second whole c.args.events c.args.pass.now c.in_ok-passing.passing (record { told = sym c.load_program.ensures.told; before = λ n. sym (c.load_program.ensures.reads.files n) }) c.in_ok-passing.ensures.loads)
    c.in_err-failing.ensures.halts)

pub returns-clause-isolates : goal.returns-clause-isolates
returns-clause-isolates g c =
    let told = g.F.Folder.is_told in
    let file = g.F.Folder.file in
    let loads = g.F.Folder.load_faults in
    let stores = g.F.Folder.store_faults in
    let first = folder_call told file loads stores c.args.folder.now c.load_program.new.folder in
    let second = folder_call told file loads stores c.load_program.new.folder c.load_schedule.new.folder in
    let third = folder_call told file loads stores c.load_schedule.new.folder c.load_schedule-2.new.folder in
    let whole = folder_call told file loads stores c.args.folder.now c.load_schedule-2.new.folder in
    let program = program_earlier first whole c.args.program.now c.in_ok-shaped.shaped (record { told = refl; before = λ n. refl }) c.in_ok-shaped.ensures.loads in
    isolates_so c.text_between.result (λ v. v.items) whole c.args.program.now c.args.pass.now c.args.fail.now c.args.tests c.args.events c.plain.result.now c.in_ok-passing.passing c.in_ok-failing.failing
    (λ t n. c.load_schedule-2.ensures.reads.files n ∙ c.load_schedule.ensures.reads.files n ∙ c.load_program.ensures.reads.files n)
    (subst (λ (q : PlainProgram). LoadsProgram whole c.args.program.now q) (sym c.plain.ensures.value) program)
    (schedule_earlier second whole c.args.events c.args.pass.now c.in_ok-passing.passing (record { told = sym c.load_program.ensures.told; before = λ n. sym (c.load_program.ensures.reads.files n) }) c.in_ok-passing.ensures.loads)
    (schedule_earlier third whole c.args.events c.args.fail.now c.in_ok-failing.failing
    (record {
      told = sym (c.load_schedule.ensures.told ∙ c.load_program.ensures.told);
      before = λ n. sym (c.load_schedule.ensures.reads.files n ∙ c.load_program.ensures.reads.files n);
    })
    c.in_ok-failing.ensures.loads)
    c.text_between.ensures.isolated

pub returns-clause-halts : goal.returns-clause-halts
returns-clause-halts g c =
    let told = g.F.Folder.is_told in
    let file = g.F.Folder.file in
    let loads = g.F.Folder.load_faults in
    let stores = g.F.Folder.store_faults in
    let first = folder_call told file loads stores c.args.folder.now c.load_program.new.folder in
    let second = folder_call told file loads stores c.load_program.new.folder c.load_schedule.new.folder in
    let third = folder_call told file loads stores c.load_schedule.new.folder c.load_schedule-2.new.folder in
    let whole = folder_call told file loads stores c.args.folder.now c.load_schedule-2.new.folder in
    let program = program_earlier first whole c.args.program.now c.in_ok-shaped.shaped (record { told = refl; before = λ n. refl }) c.in_ok-shaped.ensures.loads in
    isolate_halts_so c.text_between.result whole c.args.program.now c.args.pass.now c.args.fail.now c.args.tests c.args.workers c.args.events c.plain.result.now c.in_ok-passing.passing c.in_ok-failing.failing
    (λ t n. c.load_schedule-2.ensures.reads.files n ∙ c.load_schedule.ensures.reads.files n ∙ c.load_program.ensures.reads.files n)
    (subst (λ (q : PlainProgram). LoadsProgram whole c.args.program.now q) (sym c.plain.ensures.value) program)
    (schedule_earlier second whole c.args.events c.args.pass.now c.in_ok-passing.passing (record { told = sym c.load_program.ensures.told; before = λ n. sym (c.load_program.ensures.reads.files n) }) c.in_ok-passing.ensures.loads)
    (schedule_earlier third whole c.args.events c.args.fail.now c.in_ok-failing.failing
    (record {
      told = sym (c.load_schedule.ensures.told ∙ c.load_program.ensures.told);
      before = λ n. sym (c.load_schedule.ensures.reads.files n ∙ c.load_program.ensures.reads.files n);
    })
    c.in_ok-failing.ensures.loads)
    c.text_between.ensures.halts
