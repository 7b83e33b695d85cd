-- A store that fails comes after two loads that only read.
use Rattle.std.proofs.Common.{refl, sym, ◌∙◌}
use Rattle.std.proofs.lemmas.Result.{err_from_is_err_and}
use Rattle.tool_stages.specs.Calls.{folder_call}
use Rattle.dejavu_tool.proofs.Composing.{reduce_store}
use Rattle.dejavu_tool.proofs.Earlier.{program_earlier, schedule_earlier}
use Rattle.dejavu_tool.proofs.reducing.reduce_file.Goals as goal

pub returns-in_err-store_file-clause-halts : goal.returns-in_err-store_file-clause-halts
returns-in_err-store_file-clause-halts g c =
    let p = err_from_is_err_and c.from_residual-in_err-store_file.result c.from_residual-in_err-store_file.ensures.1 in
    let told = g.F.Folder.is_told in
    let file = g.F.Folder.file in
    let loads = g.F.Folder.load_faults in
    let stores = g.F.Folder.store_faults in
    let first = folder_call told file loads stores c.args.folder.now c.load_program.new.folder in
    let second = folder_call told file loads stores c.load_program.new.folder c.load_schedule.new.folder in
    let both = folder_call told file loads stores c.args.folder.now c.load_schedule.new.folder in
    rw (p.1, p.2) (reduce_store
    both
    (folder_call told file loads stores c.load_schedule.new.folder c.store_file.new.folder)
    (folder_call told file loads stores c.args.folder.now c.store_file.new.folder)
    c.args.program.now c.args.fail.now c.args.schedule.now c.args.tests c.args.events c.in_ok-shaped.shaped c.in_ok-failing.failing c.in_err-store_file.field-0.0
    (record {
      told = c.load_schedule.ensures.told ∙ c.load_program.ensures.told;
      c_told = refl;
      before = λ n. refl;
      between = λ n. c.load_schedule.ensures.reads.files n ∙ c.load_program.ensures.reads.files n;
      after = λ n. refl;
      stores = sym (c.load_schedule.ensures.reads.stores ∙ c.load_program.ensures.reads.stores);
      stores_after = refl;
    })
    (program_earlier first both c.args.program.now c.in_ok-shaped.shaped (record { told = refl; before = λ n. refl }) c.in_ok-shaped.ensures.loads)
    (schedule_earlier second both c.args.events c.args.fail.now c.in_ok-failing.failing (record { told = sym c.load_program.ensures.told; before = λ n. sym (c.load_program.ensures.reads.files n) }) c.in_ok-failing.ensures.loads)
    c.in_err-store_file.ensures.halts)
