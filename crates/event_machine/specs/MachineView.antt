-- The machine as callers see it.
use Rattle.std.specs.Prelude.{◌≡◌, ℕ, ◌==◌, Bool, false, not, List, [], ◌∷◌, ◌++◌, length, map, find, Option, Some, None, slice_get, slice_set}
use Rattle.std.specs.List.{AllByRecursion, list_any, list_all, range_with_len}
use Rattle.vm_model.specs.declared.ends.End.{End}
use Rattle.vm_model.specs.declared.op.Op.{Op}
use Rattle.vm_model.specs.declared.op.Reply.{Reply}
use Rattle.vm_model.specs.declared.op.Entry.{Entry}
use Rattle.vm_model.specs.Program.{PlainProgram}
use Rattle.machine_model.specs.Declarations.{declarations_of}
use Rattle.machine_model.specs.Frames.{LocalState}
use Rattle.machine_model.specs.LocalStep.{absorb, settled}
use Rattle.machine_model.specs.Operations as world
use Rattle.machine_model.specs.Machine.{MachineState, first_end, has_ended, history, threads_of, IsRun}
use Rattle.machine_model.specs.Ring.{moved_on, ring_after}
use Rattle.local_machine.specs.LocalView.{LocalView, IsReady}
use Rattle.shared_world.specs.Worlds.{WorldState}

pub record MachineView : Type 0 where
  pub world : WorldState
  -- one for each thread that was started
  pub locals : List LocalView
  -- memory ran out in the middle of a turn
  pub is_broken : Bool

abbrev pub state_of : LocalView → LocalState
state_of l = l.state

-- the machine of the definitions
abbrev pub machine_from : WorldState → List LocalView → MachineState
machine_from w ls = record { world = w.shared; locals = map state_of ls; history = w.history }

abbrev pub machine_of : MachineView → MachineState
machine_of m = machine_from m.world m.locals

-- each thread asks for the operation of its state
abbrev pub AllReady : PlainProgram → List LocalView → Type 0
AllReady p ls = AllByRecursion (IsReady p) ls

-- the machine is the run of its own thread column, and each thread is at its next operation
pub record IsWhole (p : PlainProgram) (w : WorldState) (ls : List LocalView) : Type 0 where
  pub declarations : w.declarations ≡ declarations_of p
  pub ready : AllReady p ls
  pub run : IsRun p (machine_from w ls)

-- the history is that of the run of its thread column
abbrev pub IsHistory : PlainProgram → List Entry → Type 0
IsHistory p h = history p (threads_of h) ≡ h

-- A machine of the program: its history is that of a run, and unless it is broken the machine is that run.
pub record IsMachineOf (p : PlainProgram) (m : MachineView) : Type 0 where
  pub history : IsHistory p m.world.history
  pub whole : m.is_broken ≡ false → IsWhole p m.world m.locals

-- ---- what the machine shows of the next event

abbrev pub pending_of : Option LocalView → Option Op
pending_of None = None
pending_of (Some l) = l.pending

-- the operation that a thread asks for
abbrev pub pending_at : List LocalView → ℕ → Option Op
pending_at ls t = pending_of (slice_get ls t)

abbrev pub may_do : WorldState → ℕ → Option Op → Bool
may_do w t None = false
may_do w t (Some o) = world.is_enabled w.declarations w.shared t o

abbrev pub may_turn : MachineView → ℕ → Bool
may_turn m t = may_do m.world t (pending_at m.locals t)

abbrev pub shown_end : MachineView → Option End
shown_end m =
    first_end m.world.shared.fault (list_all has_ended m.world.shared.rows) (not (list_any (may_turn m) (range_with_len 0 (length m.world.shared.rows))))
    (length m.world.history == m.world.budget)

abbrev pub shown_pick : MachineView → ℕ → ℕ → Option ℕ
shown_pick m t places = let u = moved_on (machine_of m) t places in find (may_turn m) (u ∷ ring_after (machine_of m) u)
