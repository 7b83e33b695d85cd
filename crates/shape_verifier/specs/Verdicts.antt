-- Why a program isn't verified, and the bounds of the shapes of a method.
use Rattle.std.specs.Prelude.{◌≡◌, ℕ, ◌≤◌, length, Option, Some, None, Result, Ok, Err}
use Rattle.vm_model.specs.Program.{PlainMethod, PlainProgram, locals_of, method_at}
use Rattle.machine_model.specs.Shapes.{Shape, Table, IsShapeTable, shape_at}
use Rattle.shape_verifier.specs.declared.fault.ShapeFault.{ShapeFault}
use Rattle.shape_verifier.specs.declared.fault.ShapeFault.TheVariants as fault
use Rattle.shape_verifier.specs.declared.verifying.Room.{Room}
use Rattle.shape_verifier.specs.declared.fault.Refusal.{Refusal}
use Rattle.shape_verifier.specs.Judging.{stack_limit}
use Rattle.vm_model.specs.declared.memory.Failure.{Failure}
use Rattle.vm_model.specs.declared.memory.Failure.TheVariants as failure
use Rattle.shape_verifier.specs.Passing.{EndsWith, HasTable, IsRefused}

-- the program has a least method without a closed table, over which the pass stops there, unless memory ran out
abbrev pub Refuses : PlainProgram → ShapeFault → Type 0
Refuses p (fault.At kind method at) = IsRefused p method (record { kind = kind; at = at })
Refuses p fault.NoMemory = Unit {0}

-- the limits of the method
abbrev pub IsLimitOf : Option PlainMethod → Room → Type 0
IsLimitOf None room = ⊥
IsLimitOf (Some m) room = (room.stack ≡ stack_limit m) × (room.locals ≡ locals_of m)

-- no shape of the method in any closed table is deeper or has more locals
abbrev pub IsRoomFor : PlainProgram → ℕ → Room → Type 0
IsRoomFor p method room =
    (table : Table) (place : ℕ) (s : Shape) → IsShapeTable p table → shape_at table method place ≡ Some s
    → (length s.stack ≤ room.stack) × (length s.locals ≤ room.locals)

-- ---- one method

-- what the end of a pass over a method says of the program
abbrev pub fault_at : (Failure Refusal) → ℕ → ShapeFault
fault_at failure.Memory n = fault.NoMemory
fault_at (failure.Fault refusal) n = fault.At refusal.kind n refusal.at

-- the pass over a method stops here, and the method has no closed table
pub record StopsAt (p : PlainProgram) (n : ℕ) (refusal : Refusal) : Type 0 where
  pub method : PlainMethod
  pub is_method : method_at p n ≡ Some method
  pub stops : EndsWith p n method (Err refusal)
  pub none : HasTable p n → ⊥

abbrev pub FailsSo : ShapeFault → PlainProgram → ℕ → Type 0
FailsSo (fault.At kind method at) p n = (method ≡ n) × StopsAt p n (record { kind = kind; at = at })
FailsSo fault.NoMemory p n = Unit {0}

-- a method has a closed table, if it is there, or the pass over it stops, unless memory ran out
abbrev pub VerifiedSo : Result (Unit {0}) ShapeFault → PlainProgram → ℕ → Type 0
VerifiedSo (Ok _) p n = HasTable p n
VerifiedSo (Err f) p n = FailsSo f p n
