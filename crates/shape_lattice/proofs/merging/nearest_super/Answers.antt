use Rattle.std.proofs.Common.{◌≡◌, ℕ, ◌+◌, ◌-◌, Option, sym, subst}
use Rattle.machine_model.specs.Declarations.{declarations_of}
use Rattle.machine_model.specs.Kinds.{chain, supers_within}
use Rattle.shape_lattice.specs.Merging.{first_common, nearest_super}
use Rattle.shape_lattice.proofs.Meeting.{all_supers, next_super}
use Rattle.shape_lattice.proofs.merging.nearest_super.Goals as goal

pub loop-depth-init : goal.loop-depth-init
loop-depth-init c = all_supers (declarations_of c.args.program.now) c.args.first c.args.second

pub loop-depth-preserved : goal.loop-depth-preserved
loop-depth-preserved c =
    let d = declarations_of c.args.program.now in
    subst (λ (o : Option ℕ). first_common (chain d c.args.first) (supers_within (6 - (c.loop-depth.depth + 1)) d o) ≡ nearest_super d c.args.first c.args.second) (sym c.super_of-class.ensures)
    (next_super d c.loop-depth.depth c.args.first c.in-Some.c c.loop-depth.class _ c.loop-depth-test.true c.in-Some.is (sym c.if-is_among_supers.ensures) c.loop-depth.invariant)
