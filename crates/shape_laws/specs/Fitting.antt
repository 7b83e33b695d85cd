-- When the values of a frame are of the kinds that a shape tells.
use Rattle.std.specs.Prelude.{◌≡◌, ℕ, ◌==◌, Bool, true, not, ◌&&◌, ◌||◌, List, [], ◌∷◌, Option, Some, None}
use Rattle.vm_model.specs.declared.value.Value.{Value}
use Rattle.vm_model.specs.declared.value.Value.TheVariants as value
use Rattle.vm_model.specs.declared.value.Kind.{Kind}
use Rattle.vm_model.specs.Program.{PlainProgram}
use Rattle.built_in_classes.specs.declared.numbers.TheConstants.{PRINT_STREAM, RUNNABLE, STRING}
use Rattle.machine_model.specs.Declarations.{declarations_of}
use Rattle.machine_model.specs.Kinds.{fits}
use Rattle.machine_model.specs.Frames.{Frame}
use Rattle.machine_model.specs.Shapes.{Shape, Table, shape_at}

-- there are objects of this class: texts and the stream are values of their own, and Runnable is implemented only
abbrev pub has_objects : ℕ → Bool
has_objects class = not (class == RUNNABLE || class == STRING || class == PRINT_STREAM)

-- a value that a run may make
abbrev pub is_made : Value → Bool
is_made (value.Int n) = true
is_made value.Null = true
is_made (value.Obj id class) = has_objects class
is_made (value.Arr id len) = true
is_made (value.Text text) = true
is_made value.Stream = true

-- the value is one that a run makes, and of this kind
abbrev pub is_of : PlainProgram → Value → Kind → Bool
is_of p v k = is_made v && fits (declarations_of p) v k

-- each value is of the kind at its place, and there are as many of both
abbrev pub FitsKinds : PlainProgram → List Value → List Kind → Type 0
FitsKinds p [] [] = Unit {0}
FitsKinds p [] (k ∷ ks) = ⊥
FitsKinds p (v ∷ vs) [] = ⊥
FitsKinds p (v ∷ vs) (k ∷ ks) = (is_of p v k ≡ true) × FitsKinds p vs ks

-- the same of locals, where one that isn't set takes every value
abbrev pub FitsLocals : PlainProgram → List Value → List (Option Kind) → Type 0
FitsLocals p [] [] = Unit {0}
FitsLocals p [] (k ∷ ks) = ⊥
FitsLocals p (v ∷ vs) [] = ⊥
FitsLocals p (v ∷ vs) (None ∷ ks) = FitsLocals p vs ks
FitsLocals p (v ∷ vs) (Some k ∷ ks) = (is_of p v k ≡ true) × FitsLocals p vs ks

-- the operands and the locals of a frame are of the kinds of the shape
pub record FitsShape (p : PlainProgram) (s : Shape) (f : Frame) : Type 0 where
  pub stack : FitsKinds p f.stack s.stack
  pub locals : FitsLocals p f.locals s.locals

-- the frame stands at an instruction with a shape, and fits it
pub record FitsAt (p : PlainProgram) (table : Table) (f : Frame) : Type 0 where
  pub shape : Shape
  pub is_there : shape_at table f.method f.place ≡ Some shape
  pub fits_it : FitsShape p shape f
