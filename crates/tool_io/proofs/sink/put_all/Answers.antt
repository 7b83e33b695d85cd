use Rattle.std.proofs.Common.{◌∙◌, sym, ap, subst, ◌++◌, List, ℕ, take, drop, append_assoc, arith}
use Rattle.std.specs.Prelude.{IsTrue}
use Rattle.std.proofs.lemmas.List.{take_rest, length-drop}
use Rattle.tool_io.proofs.Files.{take-split}
use Rattle.tool_io.proofs.sink.put_all.Goals as goal

pub loop-done-preserved : goal.loop-done-preserved
loop-done-preserved g c =
    let left = take_rest c.args.bytes.now c.loop-done.done in
    let takes = rw left at c.in-Taken.ensures.takes in
    let gives = rw left at c.in-Taken.ensures.gives in
    record {
      within = omega (arith, takes.1, length-drop c.loop-done.done c.args.bytes.now);
      told = c.put.ensures.told ∙ c.loop-done.invariant.told;
      taken = λ h.
          gives (subst IsTrue (sym c.loop-done.invariant.told) h)
          ∙ ap (λ (xs : List ℕ). xs ++ take c.in-Taken.count (drop c.loop-done.done c.args.bytes.now)) (c.loop-done.invariant.taken h)
          ∙ append_assoc (g.O.Sink.taken c.args.out.now) (take c.loop-done.done c.args.bytes.now) (take c.in-Taken.count (drop c.loop-done.done c.args.bytes.now))
          ∙ ap (λ (xs : List ℕ). g.O.Sink.taken c.args.out.now ++ xs) (take-split c.args.bytes.now c.loop-done.done c.in-Taken.count);
      faults = c.in-Taken.ensures.failed ∙ c.loop-done.invariant.faults;
    }
