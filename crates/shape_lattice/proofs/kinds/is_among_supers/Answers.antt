use Rattle.std.proofs.Common.{ℕ, List, ◌∙◌, ap}
use Rattle.vm_model.specs.Program.{PlainClass, PlainProgram}
use Rattle.machine_model.specs.Declarations.{declarations_of}
use Rattle.machine_model.specs.Kinds.{chain}
use Rattle.class_kinds.specs.Classes.{classes_alone, is_among}
use Rattle.class_kinds.proofs.Alone.{same_chain}
use Rattle.shape_lattice.proofs.kinds.is_among_supers.Goals as goal

pub returns : goal.returns
returns c =
    c.is_among_supers.ensures
    ∙ ap (λ (cs : List PlainClass). is_among (chain (classes_alone cs) c.args.class) c.args.wanted) (c.as_slice.ensures.value ∙ ap (λ (p : PlainProgram). p.classes) c.program.view_is)
    ∙ ap (λ (cs : List ℕ). is_among cs c.args.wanted) (same_chain (declarations_of c.args.program.now) c.args.class)
