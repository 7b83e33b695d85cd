use Rattle.std.proofs.Common.{List, ◌∙◌, ap}
use Rattle.vm_model.specs.Program.{PlainClass, PlainProgram}
use Rattle.machine_model.specs.Declarations.{declarations_of}
use Rattle.machine_model.specs.Kinds.{is_assignable}
use Rattle.class_kinds.specs.Classes.{classes_alone}
use Rattle.class_kinds.proofs.Alone.{same_assignable}
use Rattle.shape_lattice.proofs.kinds.is_assignable.Goals as goal

pub returns : goal.returns
returns c =
    c.is_assignable.ensures
    ∙ ap (λ (cs : List PlainClass). is_assignable (classes_alone cs) c.args.from c.args.to) (c.as_slice.ensures.value ∙ ap (λ (p : PlainProgram). p.classes) c.program.view_is)
    ∙ same_assignable (declarations_of c.args.program.now) c.args.from c.args.to
