-- The limits of a method bound its shapes.
use Rattle.std.proofs.Common.{◌≡◌, ℕ, ◌≤◌, length, Option, Some, sym, subst, arith}
use Rattle.std.specs.Prelude.{unwrap_or}
use Rattle.vm_model.specs.Program.{PlainMethod, PlainProgram, locals_of, method_at}
use Rattle.machine_model.specs.Shapes.{HasShapes}
use Rattle.shape_verifier.specs.Judging.{stack_limit}
use Rattle.shape_verifier.specs.declared.verifying.Room.{Room}
use Rattle.shape_verifier.specs.Verdicts.{IsLimitOf, IsRoomFor}

pub room_for : (p : PlainProgram) (n : ℕ) (m : PlainMethod) (room : Room) → method_at p n ≡ Some m → room.stack ≡ unwrap_or m.max_stack 1024 → room.locals ≡ locals_of m → IsRoomFor p n room
room_for p n m room is stack locals = λ table place s closed at.
    let shapes = subst (HasShapes p table n) is (closed n) in
    let within = (shapes.1 place s at).0 in
    (subst (λ (k : ℕ). length s.stack ≤ k) (sym stack) within.stack, omega (arith, within.locals, locals))

pub limits_are : (o : Option PlainMethod) (m : PlainMethod) (room : Room) → o ≡ Some m → room.stack ≡ stack_limit m → room.locals ≡ locals_of m → IsLimitOf o room
limits_are o m room is stack locals = subst (λ (x : Option PlainMethod). IsLimitOf x room) (sym is) (stack, locals)
