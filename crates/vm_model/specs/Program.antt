-- Programs as plain records of lists. A name is the list of its bytes.
use Rattle.std.specs.Prelude.{ℕ, ◌+◌, ◌-◌, ◌≤◌, Bool, true, false, if◌then◌else◌, nat_le, List, [], length, Option, Some, None, slice_get, unwrap_or}
use Rattle.std.specs.List.{AllByRecursion}
use Rattle.vm_model.specs.declared.instr.Instr.{Instr}
use Rattle.vm_model.specs.declared.value.Kind.{Kind}
use Rattle.vm_model.specs.declared.limits.TheConstants.{FIRST_USER_CLASS, MOST_LOCALS, MOST_TEXT_BYTES}
use Rattle.vm_model.specs.declared.program.Field.{Field}
use Rattle.vm_model.specs.declared.program.StaticSlot.{StaticSlot}

pub record PlainClass : Type 0 where
  pub name : List ℕ
  pub is_thread : Bool
  pub is_runnable : Bool
  pub fields : List Field
  pub run : Option ℕ

pub record PlainMethod : Type 0 where
  pub class : ℕ
  pub name : List ℕ
  pub params : List Kind
  pub gives : Option Kind
  pub is_static : Bool
  pub is_synchronized : Bool
  pub max_stack : Option ℕ
  pub max_locals : Option ℕ
  pub code : List Instr

pub record PlainProgram : Type 0 where
  pub classes : List PlainClass
  pub methods : List PlainMethod
  pub statics : List StaticSlot
  pub texts : List (List ℕ)
  pub main : ℕ

abbrev pub method_at : PlainProgram → ℕ → Option PlainMethod
method_at p method = slice_get p.methods method

abbrev pub code_at : Option PlainMethod → ℕ → Option Instr
code_at None place = None
code_at (Some m) place = slice_get m.code place

-- the instruction at a place of a method, if there is one
abbrev pub instr_at : PlainProgram → ℕ → ℕ → Option Instr
instr_at p method place = code_at (method_at p method) place

-- user classes have the numbers after those of the built-in ones
abbrev pub class_in : List PlainClass → ℕ → Option PlainClass
class_in classes class = if nat_le FIRST_USER_CLASS class then slice_get classes (class - FIRST_USER_CLASS) else None

abbrev pub class_at : PlainProgram → ℕ → Option PlainClass
class_at p class = class_in p.classes class

abbrev pub static_at : PlainProgram → ℕ → Option StaticSlot
static_at p slot = slice_get p.statics slot

-- the bytes of a text constant
abbrev pub text_at : PlainProgram → ℕ → List ℕ
text_at p text = unwrap_or (slice_get p.texts text) []

-- how many operands a call takes: the receiver and the arguments
abbrev pub arity_of : PlainMethod → ℕ
arity_of m = if m.is_static then length m.params else length m.params + 1

-- how many locals a frame has: without a limit as many as a frame may have
abbrev pub locals_of : PlainMethod → ℕ
locals_of m = unwrap_or m.max_locals MOST_LOCALS

-- no method has more instructions than a text of the greatest length can hold
abbrev pub IsSmall : PlainProgram → Type 0
IsSmall p = AllByRecursion (λ (m : PlainMethod). length m.code ≤ MOST_TEXT_BYTES) p.methods
