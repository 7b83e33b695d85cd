use Rattle.std.proofs.Common.{refl, ◌∙◌, ap}
use Rattle.tool_io.specs.Memory.{Stored}
use Rattle.tool_io.proofs.Files.{file_in-set_same, file_in-set_other, file_in-append_same, file_in-append_other}
use Rattle.tool_io.proofs.memory.keep.Goals as goal

pub returns-in-Some-clause-ok : goal.returns-in-Some-clause-ok
returns-in-Some-clause-ok c =
    let d = c.index_mut.result.now in
    let found = rw (c.deref.ensures.value, c.bytes.ensures) at c.in-Some.ensures.found in
    let here = ap (λ (f : Stored). f.0) c.index_mut.ensures.value ∙ found.there d in (
      file_in-set_same c.args.files.now.items c.args.name c.in-Some.i d (c.index_mut.result.now.0, c.args.bytes) found.within found.before here,
      λ other ne. file_in-set_other c.args.files.now.items c.args.name other c.in-Some.i d (c.index_mut.result.now.0, c.args.bytes) found.within (found.there d) here ne,
    )

pub returns-in_ok-push-in-None-clause-ok : goal.returns-in_ok-push-in-None-clause-ok
returns-in_ok-push-in-None-clause-ok c =
    let none = rw (c.deref.ensures.value, c.bytes.ensures) at c.in-None.ensures.none in
    rw c.in_ok-push-in-None.ensures.items (
      file_in-append_same c.args.files.now.items c.args.name (c.args.name, c.args.bytes) none refl,
      λ other ne. file_in-append_other c.args.files.now.items c.args.name other (c.args.name, c.args.bytes) refl ne,
    )
