use Rattle.std.proofs.Common.{◌≡◌, take, drop}
use Rattle.shape_lattice.specs.Merging.{merged_kinds}
use Rattle.shape_lattice.proofs.Meeting.{merged_behind}
use Rattle.shape_lattice.proofs.merging.merge_kinds.Given as goal

-- what is left to merge, after what was merged
abbrev pub invariant-loop-i : goal.invariant-loop-i
invariant-loop-i l = merged_behind (take l.i l.old) (merged_kinds l.program (drop l.i l.new) (drop l.i l.old)) ≡ merged_kinds l.program l.fn.new l.fn.old
