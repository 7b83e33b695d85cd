-- What is left to do once the reply to an operation is there.
use Rattle.std.specs.Prelude.{ℕ, List, [], ◌∷◌, take, drop, reverse, Option}
use Rattle.vm_model.specs.declared.value.Value.{Value}
use Rattle.vm_model.specs.Program.{PlainProgram, method_at}
use Rattle.machine_model.specs.Frames.{Frame, Plain, Entering, Left, Waiting, Raised, LocalState, Ended, Running}
use Rattle.machine_model.specs.Operands.{jump}
use Rattle.machine_model.specs.Effect.{action}
use Rattle.machine_model.specs.LocalStep.{arity_at, first_frame, given_back, with_reply}
use Rattle.frame_actions.specs.declared.acted.Acted.{Acted}
use Rattle.frame_actions.specs.declared.acted.Acted.TheVariants as acted
use Rattle.frame_actions.specs.Acts.{acted_of}

pub data Completion : Type 0 where
  Nothing : Completion
  -- the lock of the first method is entered, and its first instruction comes next
  Begins : Completion
  -- so many operands go, the value of the reply comes, and the next instruction is reached
  Takes : ℕ → Completion
  -- so many operands go, and this frame is put on top
  Calls : ℕ → Frame → Completion
  -- the frame gives back this value or none
  Gives : Option Value → Completion

-- what completes an instruction that does this
abbrev pub completion_with : PlainProgram → Acted → Frame → Completion
completion_with p acted.Goes f = Nothing
completion_with p (acted.Calls m l) f = Calls (arity_at (method_at p m)) (first_frame p m (reverse (take (arity_at (method_at p m)) f.stack)) l)
completion_with p (acted.Gives given) f = Gives given
completion_with p (acted.Asks o n) f = Takes n
completion_with p (acted.Fails kind) f = Nothing
completion_with p acted.Undefined f = Nothing

-- what completes the operation that a state asks for
abbrev pub completion : PlainProgram → LocalState → Completion
completion p Ended = Nothing
completion p (Running [] phase) = Nothing
completion p (Running (f ∷ below) Plain) = completion_with p (acted_of (action p f)) f
completion p (Running (f ∷ below) Entering) = Begins
completion p (Running (f ∷ below) Left) = Nothing
completion p (Running (f ∷ below) (Waiting l count)) = completion_with p (acted_of (action p f)) f
completion p (Running (f ∷ below) (Raised kind)) = Nothing

-- the state l, whose frames are f and those below, after that, with the value of the reply if it brought one
abbrev pub completed_by : Completion → Option Value → Frame → List Frame → LocalState → LocalState
completed_by Nothing brought f below l = l
completed_by Begins brought f below l = Running (f ∷ below) Plain
completed_by (Takes n) brought f below l = Running (with_reply n brought f ∷ below) Plain
completed_by (Calls n g) brought f below l = Running (g ∷ jump f f.place (drop n f.stack) ∷ below) Plain
completed_by (Gives given) brought f below l = given_back given f below
