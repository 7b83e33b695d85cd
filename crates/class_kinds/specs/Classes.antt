-- User classes alone, and what is said of a class and its supers.
use Rattle.std.specs.Prelude.{ℕ, ◌==◌, Bool, List, []}
use Rattle.std.specs.List.{list_any}
use Rattle.vm_model.specs.Program.{PlainClass}
use Rattle.machine_model.specs.Declarations.{Declarations}

-- a program that declares these classes and nothing else
abbrev pub classes_alone : List PlainClass → Declarations
classes_alone classes = record { classes = classes; statics = []; texts = [] }

-- the class is one of these
abbrev pub is_among : List ℕ → ℕ → Bool
is_among classes class = list_any (λ c. c == class) classes
