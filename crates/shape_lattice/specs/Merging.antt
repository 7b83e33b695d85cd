-- Merging shapes: the least that takes both (JVMS SE 8 §4.10.2.2, in the project's own profile).
use Rattle.std.specs.Prelude.{ℕ, ◌==◌, Bool, true, false, ◌&&◌, if◌then◌else◌, List, [], ◌∷◌, length, Option, Some, None, option_map, Result, Ok, Err}
use Rattle.vm_model.specs.declared.value.Kind.{Kind}
use Rattle.vm_model.specs.declared.value.Kind.TheVariants as kind
use Rattle.vm_model.specs.Program.{PlainProgram}
use Rattle.built_in_classes.specs.declared.numbers.TheConstants.{OBJECT}
use Rattle.machine_model.specs.Declarations.{Declarations, declarations_of}
use Rattle.machine_model.specs.Kinds.{chain}
use Rattle.machine_model.specs.Shapes.{Shape, Takes, is_subsumed}
use Rattle.class_kinds.specs.Classes.{is_among}
use Rattle.shape_lattice.specs.declared.fault.ShapeKind.{ShapeKind}
use Rattle.shape_lattice.specs.declared.fault.ShapeKind.TheVariants as fault

-- ---- kinds

-- the first class of the second list that is in the first
abbrev pub first_common : List ℕ → List ℕ → Option ℕ
first_common classes [] = None
first_common classes (c ∷ cs) = if is_among classes c then Some c else first_common classes cs

-- the nearest class that both are or extend
abbrev pub nearest_super : Declarations → ℕ → ℕ → Option ℕ
nearest_super d c e = first_common (chain d c) (chain d e)

-- an array and an object of this class are both objects, where the class extends Object
abbrev pub merged_array : Declarations → ℕ → Option Kind
merged_array d class = if is_among (chain d class) OBJECT then Some (kind.Ref OBJECT) else None

-- the first kind, merged into the second; none where they have no common kind
abbrev pub merged_kind : PlainProgram → Kind → Kind → Option Kind
merged_kind p kind.Int kind.Int = Some kind.Int
merged_kind p kind.Int kind.Null = None
merged_kind p kind.Int (kind.Ref d) = None
merged_kind p kind.Int kind.Arr = None
merged_kind p kind.Int kind.Args = None
merged_kind p kind.Null kind.Int = None
merged_kind p kind.Null kind.Null = Some kind.Null
merged_kind p kind.Null (kind.Ref d) = Some (kind.Ref d)
merged_kind p kind.Null kind.Arr = Some kind.Arr
merged_kind p kind.Null kind.Args = None
merged_kind p (kind.Ref c) kind.Int = None
merged_kind p (kind.Ref c) kind.Null = Some (kind.Ref c)
merged_kind p (kind.Ref c) (kind.Ref d) = option_map kind.Ref (nearest_super (declarations_of p) c d)
merged_kind p (kind.Ref c) kind.Arr = merged_array (declarations_of p) c
merged_kind p (kind.Ref c) kind.Args = None
merged_kind p kind.Arr kind.Int = None
merged_kind p kind.Arr kind.Null = Some kind.Arr
merged_kind p kind.Arr (kind.Ref d) = merged_array (declarations_of p) d
merged_kind p kind.Arr kind.Arr = Some kind.Arr
merged_kind p kind.Arr kind.Args = None
merged_kind p kind.Args kind.Int = None
merged_kind p kind.Args kind.Null = None
merged_kind p kind.Args (kind.Ref d) = None
merged_kind p kind.Args kind.Arr = None
merged_kind p kind.Args kind.Args = Some kind.Args

-- ---- stacks and locals

abbrev pub with_top : Option Kind → Option (List Kind) → Option (List Kind)
with_top None rest = None
with_top (Some k) None = None
with_top (Some k) (Some rest) = Some (k ∷ rest)

-- stacks of equal depth, merged operand by operand
abbrev pub merged_kinds : PlainProgram → List Kind → List Kind → Option (List Kind)
merged_kinds p [] [] = Some []
merged_kinds p [] (l ∷ ls) = None
merged_kinds p (k ∷ ks) [] = None
merged_kinds p (k ∷ ks) (l ∷ ls) = with_top (merged_kind p k l) (merged_kinds p ks ls)

-- locals that have no common kind are not set after
abbrev pub merged_local : PlainProgram → Option Kind → Option Kind → Option Kind
merged_local p None l = None
merged_local p (Some k) None = None
merged_local p (Some k) (Some l) = merged_kind p k l

abbrev pub merged_locals : PlainProgram → List (Option Kind) → List (Option Kind) → List (Option Kind)
merged_locals p [] ls = []
merged_locals p (k ∷ ks) [] = []
merged_locals p (k ∷ ks) (l ∷ ls) = merged_local p k l ∷ merged_locals p ks ls

-- ---- shapes

abbrev pub merged_over : Option (List Kind) → List (Option Kind) → Result Shape ShapeKind
merged_over None locals = Err fault.Kind
merged_over (Some stack) locals = Ok (record { stack = stack; locals = locals })

-- the first shape, merged into the second
abbrev pub merged_shape : PlainProgram → Shape → Shape → Result Shape ShapeKind
merged_shape p new old =
    if length new.stack == length old.stack
    then merged_over (merged_kinds p new.stack old.stack) (merged_locals p new.locals old.locals)
    else Err fault.Depth

-- a merged shape is there, and this shape takes it
abbrev pub IsBelow : PlainProgram → Result Shape ShapeKind → Shape → Type 0
IsBelow p (Ok merged) both = Takes p merged both
IsBelow p (Err _) both = ⊥

-- ---- when merging changes nothing

abbrev pub takes_kinds : PlainProgram → List Kind → List Kind → Bool
takes_kinds p [] [] = true
takes_kinds p [] (l ∷ ls) = false
takes_kinds p (k ∷ ks) [] = false
takes_kinds p (k ∷ ks) (l ∷ ls) = is_subsumed p k l && takes_kinds p ks ls

abbrev pub takes_local : PlainProgram → Option Kind → Option Kind → Bool
takes_local p k None = true
takes_local p None (Some l) = false
takes_local p (Some k) (Some l) = is_subsumed p k l

abbrev pub takes_locals : PlainProgram → List (Option Kind) → List (Option Kind) → Bool
takes_locals p [] [] = true
takes_locals p [] (l ∷ ls) = false
takes_locals p (k ∷ ks) [] = false
takes_locals p (k ∷ ks) (l ∷ ls) = takes_local p k l && takes_locals p ks ls

-- merging the first shape into the second leaves the second as it is
abbrev pub takes : PlainProgram → Shape → Shape → Bool
takes p new old = takes_kinds p new.stack old.stack && takes_locals p new.locals old.locals
