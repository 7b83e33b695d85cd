-- Each static, each field and each item holds a value of the kind that is declared for it.
use Rattle.std.specs.Prelude.{◌≡◌, ℕ, true, List, [], ◌∷◌, map, Option, Some, None, ⊤}
use Rattle.std.specs.List.{AllByRecursion}
use Rattle.vm_model.specs.declared.value.Value.{Value}
use Rattle.vm_model.specs.declared.value.Kind.{Kind}
use Rattle.vm_model.specs.declared.value.Kind.TheVariants as kind
use Rattle.vm_model.specs.declared.program.StaticSlot.{StaticSlot}
use Rattle.machine_model.specs.Declarations.{Declarations}
use Rattle.machine_model.specs.Kinds.{field_kinds, fits}
use Rattle.machine_model.specs.Shared.{HeapItem, SharedState, start}

-- each value fits the kind at its place, and there are as many values as kinds
abbrev pub AllFit : Declarations → List Value → List Kind → Type 0
AllFit d [] [] = ⊤
AllFit d [] (k ∷ ks) = ⊥
AllFit d (v ∷ vs) [] = ⊥
AllFit d (v ∷ vs) (k ∷ ks) = (fits d v k ≡ true) × AllFit d vs ks

abbrev pub kind_of_slot : StaticSlot → Kind
kind_of_slot slot = slot.kind

-- the fields of an object, or the items of an array
abbrev pub WordsFit : Declarations → Option ℕ → List Value → Type 0
WordsFit d None words = AllByRecursion (λ v. fits d v kind.Int ≡ true) words
WordsFit d (Some class) words = AllFit d words (field_kinds d class)

abbrev pub ItemFits : Declarations → HeapItem → Type 0
ItemFits d item = WordsFit d item.class item.words

pub record ValuesFit (d : Declarations) (s : SharedState) : Type 0 where
  pub statics : AllFit d s.statics (map kind_of_slot d.statics)
  pub heap : AllByRecursion (ItemFits d) s.heap

-- what the statics hold at first fits them
abbrev pub FirstValuesFit : Declarations → Type 0
FirstValuesFit d = ValuesFit d (start d)
