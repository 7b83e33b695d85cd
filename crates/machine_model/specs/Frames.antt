-- The local state of a thread.
use Rattle.std.specs.Prelude.{ℕ, List, Option}
use Rattle.vm_model.specs.declared.value.Value.{Value}
use Rattle.vm_model.specs.declared.value.Lock.{Lock}
use Rattle.vm_model.specs.declared.ends.FaultKind.{FaultKind}

-- one call of a method: where it stands, its locals, its operands with the top first, and the lock of a synchronized method
pub record Frame : Type 0 where
  pub method : ℕ
  pub place : ℕ
  pub locals : List Value
  pub stack : List Value
  pub lock : Option Lock

pub data Phase : Type 0 where
  Plain : Phase
  -- the first method is synchronized, and its lock isn't entered yet
  Entering : Phase
  -- the last frame gave up its lock
  Left : Phase
  -- it waits on the lock, which it had entered so often
  Waiting : Lock → ℕ → Phase
  -- the last reply raised this fault
  Raised : FaultKind → Phase

-- the top frame stands first; a frame below the top stands at its call
pub data LocalState : Type 0 where
  Ended : LocalState
  Running : List Frame → Phase → LocalState
