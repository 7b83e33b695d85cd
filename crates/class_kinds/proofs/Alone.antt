-- Which classes a class extends, and which kind may stand for which, is told by the user classes alone.
use Rattle.std.proofs.Common.{◌≡◌, ℕ, zero, suc, ◌∷◌, Option, Some, None, refl, ap}
use Rattle.std.specs.Prelude.{◌==◌, ◌&&◌, ◌||◌, List}
use Rattle.vm_model.specs.declared.value.Kind.{Kind}
use Rattle.vm_model.specs.declared.value.Kind.TheVariants as kind
use Rattle.built_in_classes.specs.declared.numbers.TheConstants.{LONGEST_CHAIN, RUNNABLE}
use Rattle.machine_model.specs.Declarations.{Declarations}
use Rattle.machine_model.specs.Kinds.{super_of, supers_within, chain, is_runnable_class, extends, is_assignable}
use Rattle.class_kinds.specs.Classes.{classes_alone, is_among}

pub same_supers : (n : ℕ) (d : Declarations) (class : Option ℕ) → supers_within n (classes_alone d.classes) class ≡ supers_within n d class
same_supers zero d class = refl
same_supers (suc n) d None = refl
same_supers (suc n) d (Some class) = ap (λ (l : List ℕ). class ∷ l) (same_supers n d (super_of d class))

pub same_chain : (d : Declarations) (class : ℕ) → chain (classes_alone d.classes) class ≡ chain d class
same_chain d class = unfold chain in same_supers LONGEST_CHAIN d (Some class)

pub same_extends : (d : Declarations) (class super : ℕ) → extends (classes_alone d.classes) class super ≡ extends d class super
same_extends d class super = ap (λ (l : List ℕ). is_among l super || (super == RUNNABLE && is_runnable_class d class)) (same_chain d class)

pub same_assignable : (d : Declarations) (from to : Kind) → is_assignable (classes_alone d.classes) from to ≡ is_assignable d from to
same_assignable d kind.Int kind.Int = refl
same_assignable d kind.Int kind.Null = refl
same_assignable d kind.Int (kind.Ref super) = refl
same_assignable d kind.Int kind.Arr = refl
same_assignable d kind.Int kind.Args = refl
same_assignable d kind.Null kind.Int = refl
same_assignable d kind.Null kind.Null = refl
same_assignable d kind.Null (kind.Ref super) = refl
same_assignable d kind.Null kind.Arr = refl
same_assignable d kind.Null kind.Args = refl
same_assignable d (kind.Ref class) kind.Int = refl
same_assignable d (kind.Ref class) kind.Null = refl
same_assignable d (kind.Ref class) (kind.Ref super) = same_extends d class super
same_assignable d (kind.Ref class) kind.Arr = refl
same_assignable d (kind.Ref class) kind.Args = refl
same_assignable d kind.Arr kind.Int = refl
same_assignable d kind.Arr kind.Null = refl
same_assignable d kind.Arr (kind.Ref super) = refl
same_assignable d kind.Arr kind.Arr = refl
same_assignable d kind.Arr kind.Args = refl
same_assignable d kind.Args kind.Int = refl
same_assignable d kind.Args kind.Null = refl
same_assignable d kind.Args (kind.Ref super) = refl
same_assignable d kind.Args kind.Arr = refl
same_assignable d kind.Args kind.Args = refl
