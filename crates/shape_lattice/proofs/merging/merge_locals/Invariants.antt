use Rattle.std.proofs.Common.{◌≡◌, ◌++◌, take, drop}
use Rattle.shape_lattice.specs.Merging.{merged_locals}
use Rattle.shape_lattice.proofs.merging.merge_locals.Given as goal

-- what is left to merge, after what was merged
abbrev pub invariant-loop-i : goal.invariant-loop-i
invariant-loop-i l = take l.i l.old ++ merged_locals l.program (drop l.i l.new) (drop l.i l.old) ≡ merged_locals l.program l.fn.new l.fn.old
