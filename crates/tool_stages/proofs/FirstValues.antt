-- What the statics of a linked program hold at first is of their kinds.
use Rattle.std.proofs.Common.{◌≡◌, ℕ, List, [], ◌∷◌, Ok, subst}
use Rattle.std.specs.Prelude.{IsTrue, map}
use Rattle.std.specs.List.{AllByRecursion}
use Rattle.vm_model.specs.declared.program.StaticSlot.{StaticSlot}
use Rattle.vm_model.specs.Program.{PlainProgram}
use Rattle.machine_model.specs.Declarations.{declarations_of}
use Rattle.machine_model.specs.Kinds.{fits}
use Rattle.machine_model.specs.Shared.{start_of_slot}
use Rattle.shared_world.specs.Fitting.{AllFit, FirstValuesFit, kind_of_slot}
use Rattle.jasmin_lines.specs.Plain.{PlainClassText}
use Rattle.name_resolver.specs.Names.{names_of}
use Rattle.class_linker.specs.Linking.{linking}
use Rattle.shape_laws.specs.Fitting.{is_made, is_of}
use Rattle.shape_laws.proofs.Tests.{both}
use Rattle.linking_laws.proofs.Statics.{Fits, statics_fit}
use Rattle.linking_laws.proofs.Linkings.{GivesByLinking, given}

-- values that are of their kinds fit them
all_fit : (p : PlainProgram) (slots : List StaticSlot) → Fits p slots → AllFit (declarations_of p) (map start_of_slot slots) (map kind_of_slot slots)
all_fit p [] all = tt
all_fit p (s ∷ slots) all = ((both (is_made s.start) (fits (declarations_of p) s.start s.kind) all.0).1, all_fit p slots all.1)

-- each static of a linked program begins with a value of its kind
pub first_values_fit : (classes : List PlainClassText) (p : PlainProgram) → linking classes ≡ Ok p → FirstValuesFit (declarations_of p)
first_values_fit classes p e =
    let g : GivesByLinking classes p = given classes p e in
    record { statics = all_fit p p.statics (subst (λ (q : PlainProgram). Fits p q.statics) g.is (statics_fit p (names_of classes).1 32 classes)); heap = tt }
