-- When the shared world holds values of the kinds that the program declares, and when a whole machine fits a table of shapes.
use Rattle.std.specs.Prelude.{◌≡◌, ℕ, true, List, map, Option, Some, None}
use Rattle.std.specs.List.{AllByRecursion}
use Rattle.vm_model.specs.declared.value.Value.{Value}
use Rattle.vm_model.specs.declared.value.Kind.{Kind}
use Rattle.vm_model.specs.declared.value.Kind.TheVariants as kind
use Rattle.vm_model.specs.declared.program.StaticSlot.{StaticSlot}
use Rattle.vm_model.specs.Program.{PlainProgram}
use Rattle.machine_model.specs.Declarations.{declarations_of}
use Rattle.machine_model.specs.Kinds.{field_kinds}
use Rattle.machine_model.specs.Shared.{HeapItem, SharedState}
use Rattle.machine_model.specs.Machine.{MachineState}
use Rattle.machine_model.specs.Shapes.{Table}
use Rattle.shape_laws.specs.Fitting.{has_objects, is_of, FitsKinds}
use Rattle.shape_laws.specs.States.{FitsTable}

abbrev pub kind_of_slot : StaticSlot → Kind
kind_of_slot slot = slot.kind

-- an object has the fields of its class, and an array holds ints
abbrev pub FitsWords : PlainProgram → Option ℕ → List Value → Type 0
FitsWords p None words = AllByRecursion (λ (v : Value). is_of p v kind.Int ≡ true) words
FitsWords p (Some class) words = (has_objects class ≡ true) × FitsKinds p words (field_kinds (declarations_of p) class)

abbrev pub FitsItem : PlainProgram → HeapItem → Type 0
FitsItem p item = FitsWords p item.class item.words

pub record FitsWorld (p : PlainProgram) (s : SharedState) : Type 0 where
  pub statics : FitsKinds p s.statics (map kind_of_slot p.statics)
  pub heap : AllByRecursion (FitsItem p) s.heap

-- the world holds values of the declared kinds, and the state of each thread fits the table
pub record FitsMachine (p : PlainProgram) (table : Table) (m : MachineState) : Type 0 where
  pub world : FitsWorld p m.world
  pub locals : AllByRecursion (FitsTable p table) m.locals
