-- What the shared world knows of a program: its user classes, its statics and its text constants.
use Rattle.std.specs.Prelude.{ℕ, List, [], Option, slice_get, unwrap_or}
use Rattle.vm_model.specs.declared.program.StaticSlot.{StaticSlot}
use Rattle.vm_model.specs.Program.{PlainClass, PlainProgram, class_in}

pub record Declarations : Type 0 where
  pub classes : List PlainClass
  pub statics : List StaticSlot
  pub texts : List (List ℕ)

abbrev pub declarations_of : PlainProgram → Declarations
declarations_of p = record { classes = p.classes; statics = p.statics; texts = p.texts }

abbrev pub class_at : Declarations → ℕ → Option PlainClass
class_at d class = class_in d.classes class

abbrev pub static_at : Declarations → ℕ → Option StaticSlot
static_at d slot = slice_get d.statics slot

-- the bytes of a text constant
abbrev pub text_at : Declarations → ℕ → List ℕ
text_at d text = unwrap_or (slice_get d.texts text) []
