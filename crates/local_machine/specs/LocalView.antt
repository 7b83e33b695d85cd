-- A thread by itself as callers see it.
use Rattle.std.specs.Prelude.{◌≡◌, ℕ, zero, suc, ◌+◌, ◌-◌, Bool, true, false, if◌then◌else◌, Option, Some, None}
use Rattle.vm_model.specs.declared.limits.TheConstants.{MOST_LOCAL_STEPS}
use Rattle.vm_model.specs.declared.op.Op.{Op}
use Rattle.vm_model.specs.declared.op.Reply.{Reply}
use Rattle.vm_model.specs.Program.{PlainProgram}
use Rattle.machine_model.specs.Frames.{LocalState, Ended, Running}
use Rattle.machine_model.specs.LocalStep.{absorb, local_step, pending_operation, settled_within}
use Rattle.local_machine.specs.Completions.{Completion, Nothing, completion}

pub record LocalView : Type 0 where
  pub state : LocalState
  -- how many local steps were made since the last reply
  pub steps : ℕ
  -- the next operation was reached
  pub is_ready : Bool
  -- the operation that a ready thread asks for, if it asks for one
  pub pending : Option Op
  -- what is left to do once the reply to it is there
  pub completion : Completion

-- a thread in this state that made no step yet
abbrev pub fresh : LocalState → LocalView
fresh l = record { state = l; steps = 0; is_ready = false; pending = None; completion = Nothing }

abbrev pub is_running : LocalState → Bool
is_running Ended = false
is_running (Running frames phase) = true

-- a thread in this state after so many steps, which asks for its operation; an ended one asks for none and isn't ready
abbrev pub asking : PlainProgram → ℕ → LocalState → LocalView
asking p steps l = record { state = l; steps = steps; is_ready = is_running l; pending = pending_operation p l; completion = completion p l }

-- the thread asks for the operation of its state
pub record IsReady (p : PlainProgram) (l : LocalView) : Type 0 where
  pub is_ready : l.is_ready ≡ is_running l.state
  pub pending : l.pending ≡ pending_operation p l.state
  pub completion : l.completion ≡ completion p l.state

-- the state after the reply to the operation that was asked for; where none was, nothing changes
abbrev pub absorbed_by : PlainProgram → Option Op → LocalState → Reply → LocalState
absorbed_by p None l r = l
absorbed_by p (Some o) l r = absorb p l o r

abbrev pub one_more : Option LocalState → (LocalState → ℕ) → ℕ
one_more None count = 0
one_more (Some m) count = suc (count m)

-- how many local steps there are, of which at most n are counted
unfoldable pub steps_within : PlainProgram → ℕ → LocalState → ℕ
steps_within p zero l = 0
steps_within p (suc n) l = one_more (local_step p l) (steps_within p n)

-- the thread at its next operation, or after 4,096 local steps since the last reply; one that is ready stays as it is
abbrev pub advanced : PlainProgram → LocalView → LocalView
advanced p l = if l.is_ready then l else asking p (l.steps + steps_within p (MOST_LOCAL_STEPS - l.steps) l.state) (settled_within p (MOST_LOCAL_STEPS - l.steps) l.state)
