-- What each thread did in a history, and where its own entries lead the thread by itself.
use Rattle.std.specs.Prelude.{◌≡◌, ℕ, zero, suc, ◌==◌, if◌then◌else◌, List, [], ◌∷◌, length, Option, Some, None, slice_get}
use Rattle.vm_model.specs.declared.value.ObjRef.{ObjRef}
use Rattle.vm_model.specs.declared.op.Entry.{Entry}
use Rattle.vm_model.specs.declared.op.Op.{Op}
use Rattle.vm_model.specs.declared.op.Op.TheVariants as op
use Rattle.vm_model.specs.declared.op.Reply.{Reply}
use Rattle.vm_model.specs.declared.op.Reply.TheVariants as reply
use Rattle.vm_model.specs.Program.{PlainProgram}
use Rattle.machine_model.specs.Frames.{LocalState}
use Rattle.machine_model.specs.LocalStep.{settled, pending_operation, absorb, first_of_main, first_of_thread}
use Rattle.machine_model.specs.Machine.{MachineState}
use Rattle.machine_model.specs.Shared.{SharedState}

-- ---- a thread by itself

-- the entries of a thread, in order
abbrev pub own : ℕ → List Entry → List Entry
own t [] = []
own t (e ∷ es) = if e.thread == t then e ∷ own t es else own t es

-- From one state to another over these entries: each has the operation that the thread asks for, and the thread goes on
-- after its reply to the next one.
abbrev pub GoesAlone : PlainProgram → LocalState → List Entry → LocalState → Type 0
GoesAlone p l [] end = l ≡ end
GoesAlone p l (e ∷ es) end = (pending_operation p l ≡ Some e.op) × GoesAlone p (settled p (absorb p l e.op e.reply)) es end

abbrev pub GoesFrom : PlainProgram → Option LocalState → List Entry → LocalState → Type 0
GoesFrom p None es end = ⊥
GoesFrom p (Some l) es end = GoesAlone p l es end

-- ---- where threads begin

-- the object whose thread this operation starts, if it starts thread t
abbrev pub target_by : Op → Reply → ℕ → Option ObjRef
target_by (op.Start target) (reply.Began u) t = if u == t then Some target else None
target_by _ _ t = None

abbrev pub target_or : Option ObjRef → Option ObjRef → Option ObjRef
target_or None other = other
target_or (Some target) other = Some target

-- the object whose thread is thread t, in a history that starts it
abbrev pub target_in : List Entry → ℕ → Option ObjRef
target_in [] t = None
target_in (e ∷ es) t = target_or (target_by e.op e.reply t) (target_in es t)

-- that object's thread at its first operation
abbrev pub begun_for : PlainProgram → Option ObjRef → Option LocalState
begun_for p None = None
begun_for p (Some target) = Some (settled p (first_of_thread p target))

-- a thread at its first operation: the main thread, or one that the history starts
abbrev pub first_in : PlainProgram → List Entry → ℕ → Option LocalState
first_in p h zero = Some (settled p (first_of_main p))
first_in p h (suc t) = begun_for p (target_in h (suc t))

-- ---- projections

-- the thread's own entries lead it by itself to this state
abbrev pub IsProjection : PlainProgram → List Entry → ℕ → LocalState → Type 0
IsProjection p h t l = GoesFrom p (first_in p h t) (own t h) l

-- one such state for each thread that was started
pub record AreProjections (p : PlainProgram) (h : List Entry) (s : SharedState) (ls : List LocalState) : Type 0 where
  pub length : length ls ≡ length s.rows
  pub each : (t : ℕ) (l : LocalState) → slice_get ls t ≡ Some l → IsProjection p h t l

abbrev pub machine_of : SharedState → List LocalState → List Entry → MachineState
machine_of s ls h = record { world = s; locals = ls; history = h }
