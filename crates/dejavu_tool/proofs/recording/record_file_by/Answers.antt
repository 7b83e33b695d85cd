-- A store that fails comes after a load that only read.
use Rattle.std.proofs.Common.{refl, sym}
use Rattle.std.proofs.lemmas.Result.{err_from_is_err_and}
use Rattle.tool_stages.specs.Calls.{folder_call}
use Rattle.dejavu_tool.proofs.Composing.{then_store}
use Rattle.dejavu_tool.proofs.recording.record_file_by.Goals as goal

pub returns-in_err-store_file-clause-halts : goal.returns-in_err-store_file-clause-halts
returns-in_err-store_file-clause-halts g c =
    let p = err_from_is_err_and c.from_residual-in_err-store_file.result c.from_residual-in_err-store_file.ensures.1 in
    let told = g.F.Folder.is_told in
    let file = g.F.Folder.file in
    let loads = g.F.Folder.load_faults in
    let stores = g.F.Folder.store_faults in
    rw (p.1, p.2) (then_store
    (folder_call told file loads stores c.args.folder.now c.load_program.new.folder)
    (folder_call told file loads stores c.load_program.new.folder c.store_file.new.folder)
    (folder_call told file loads stores c.args.folder.now c.store_file.new.folder)
    c.args.program.now c.args.log.now c.args.lanes c.args.events c.in_ok-shaped.shaped c.in_err-store_file.field-0.0
    (record {
      told = c.load_program.ensures.told;
      c_told = refl;
      before = λ n. refl;
      between = c.load_program.ensures.reads.files;
      after = λ n. refl;
      stores = sym c.load_program.ensures.reads.stores;
      stores_after = refl;
    })
    c.in_ok-shaped.ensures.loads c.in_err-store_file.ensures.halts)
