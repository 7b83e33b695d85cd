-- The limits that linking judges.
use Rattle.std.specs.Prelude.{ℕ, ◌+◌, ◌≤◌, List, IfSome, length}
use Rattle.std.specs.List.{AllByRecursion}
use Rattle.vm_model.specs.declared.limits.TheConstants.{MOST_CLASSES, MOST_FIELDS, MOST_INSTRUCTIONS, MOST_LOCALS, MOST_METHODS, MOST_OPERANDS, MOST_PARAMETERS, MOST_STATICS, MOST_TEXT_CONSTANT_BYTES}
use Rattle.vm_model.specs.Program.{PlainClass, PlainMethod, PlainProgram}

-- at most 16 parameters, 16,384 instructions, 1,024 operands and 256 locals
pub record KeepsLimits (m : PlainMethod) : Type 0 where
  pub params : length m.params ≤ MOST_PARAMETERS
  pub code : length m.code ≤ MOST_INSTRUCTIONS
  pub stack : IfSome m.max_stack (λ n. n ≤ MOST_OPERANDS)
  pub locals : IfSome m.max_locals (λ n. n ≤ MOST_LOCALS)

-- ---- the program as a whole

abbrev pub HasFewClasses : PlainProgram → Type 0
HasFewClasses p = length p.classes ≤ MOST_CLASSES

-- those of the text, and Thread's own run
abbrev pub HasFewMethods : PlainProgram → Type 0
HasFewMethods p = length p.methods ≤ MOST_METHODS + 1

abbrev pub HasFewStatics : PlainProgram → Type 0
HasFewStatics p = length p.statics ≤ MOST_STATICS

-- the fields that a class declares for its objects: a thread's target doesn't count
abbrev pub HasFewFields : PlainProgram → Type 0
HasFewFields p = AllByRecursion (λ (c : PlainClass). length c.fields ≤ MOST_FIELDS) p.classes

abbrev pub HasShortTexts : PlainProgram → Type 0
HasShortTexts p = AllByRecursion (λ (text : List ℕ). length text ≤ MOST_TEXT_CONSTANT_BYTES) p.texts

-- no more than instructions of all methods, so that each text constant has a number of its own
abbrev pub HasFewTexts : PlainProgram → Type 0
HasFewTexts p = length p.texts ≤ 16777216
