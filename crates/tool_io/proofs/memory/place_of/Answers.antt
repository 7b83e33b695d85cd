use Rattle.std.proofs.Common.{sym, ◌∙◌, ap, List, ℕ}
use Rattle.std.specs.Str.{bytes_eq}
use Rattle.tool_io.specs.Memory.{Stored}
use Rattle.tool_io.proofs.Files.{file_in-take_more}
use Rattle.tool_io.proofs.memory.place_of.Goals as goal

pub loop-i-preserved : goal.loop-i-preserved
loop-i-preserved c =
    let name = ap (λ (f : Stored). f.0) c.index-files-i.is in
    let other = ap (λ (xs : List ℕ). bytes_eq xs c.args.name.now) (sym name ∙ sym c.bytes.ensures) ∙ sym c.eq.ensures ∙ c.if-eq.false in
    file_in-take_more c.args.files.now c.args.name.now c.loop-i.i c.index-files-i.result c.loop-i-test.true c.loop-i.invariant other
