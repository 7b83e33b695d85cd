use Rattle.std.proofs.Common.{◌≡◌, ◌-◌}
use Rattle.machine_model.specs.Declarations.{declarations_of}
use Rattle.machine_model.specs.Kinds.{chain, supers_within}
use Rattle.shape_lattice.specs.Merging.{first_common, nearest_super}
use Rattle.shape_lattice.proofs.merging.nearest_super.Given as goal

-- the supers that are left are searched
abbrev pub invariant-loop-depth : goal.invariant-loop-depth
invariant-loop-depth l =
    first_common (chain (declarations_of l.program) l.first) (supers_within (6 - l.depth) (declarations_of l.program) l.class)
    ≡ nearest_super (declarations_of l.program) l.first l.second
