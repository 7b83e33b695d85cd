use Rattle.std.proofs.Common.{ap, Some, ℕ, List}
use Rattle.tool_io.specs.Memory.{Stored}
use Rattle.tool_io.proofs.Files.{file_in-at}
use Rattle.tool_io.proofs.memory.bytes_of.Goals as goal

pub returns-in-Some : goal.returns-in-Some
returns-in-Some c =
    let d = c.index-files-i.result in
    let found = file_in-at c.args.files.now c.args.name.now c.in-Some.i d c.in-Some.ensures.found.within c.in-Some.ensures.found.before (c.in-Some.ensures.found.there d) in
    let value = ap (λ (xs : List ℕ). Some xs) c.as_slice.ensures.value in
    let item = ap (λ (f : Stored). Some f.1.items) c.index-files-i.is in
    cc (value, item, found)
