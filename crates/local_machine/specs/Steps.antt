-- What the code's steps are, by the definitions.
use Rattle.std.specs.Prelude.{◌≡◌, ◌≢◌, ◌<◌, ◌≤◌, ℕ, ◌+◌, ◌-◌, Bool, true, false, List, [], ◌∷◌, Option, Some, None, ◌⊎◌}
use Rattle.vm_model.specs.declared.limits.TheConstants.{MOST_LOCAL_STEPS}
use Rattle.vm_model.specs.declared.instr.Instr.{Instr}
use Rattle.vm_model.specs.Program.{PlainMethod, PlainProgram}
use Rattle.machine_model.specs.Frames.{Frame, LocalState, Running, Plain}
use Rattle.machine_model.specs.Effect.{action}
use Rattle.machine_model.specs.LocalStep.{moved_back, moved_in, settled_within}
use Rattle.frame_actions.specs.declared.acted.Acted.{Acted}
use Rattle.frame_actions.specs.declared.acted.Acted.TheVariants as acted
use Rattle.frame_actions.specs.Acts.{acted_of, after}
use Rattle.local_machine.specs.Further.{after_steps}
use Rattle.local_machine.specs.LocalView.{steps_within}

-- the code of a method; none where there is no such method
abbrev pub code_in : Option PlainMethod → List Instr
code_in None = []
code_in (Some m) = m.code

-- the local step of an instruction that did this, and left the frame g on top; none where it makes none
abbrev pub followed : PlainProgram → Acted → Frame → List Frame → Option LocalState
followed p acted.Goes g below = Some (Running (g ∷ below) Plain)
followed p (acted.Calls m l) g below = moved_in p m l g below
followed p (acted.Gives given) g below = moved_back given g.lock below
followed p (acted.Asks o n) g below = None
followed p (acted.Fails kind) g below = None
followed p acted.Undefined g below = None

-- the step was made; or there is none, and the frames are the old ones
abbrev pub IsFollowed : Option LocalState → List Frame → Bool → List Frame → Type 0
IsFollowed step old true frames = step ≡ Some (Running frames Plain)
IsFollowed step old false frames = (step ≡ None) × (frames ≡ old)

-- the new state is some steps further, and both lead to the same state, after as many steps
pub record IsOnTheWay (p : PlainProgram) (old : LocalState) (steps : ℕ) (new : LocalState) (steps' : ℕ) : Type 0 where
  pub state : settled_within p (MOST_LOCAL_STEPS - steps') new ≡ settled_within p (MOST_LOCAL_STEPS - steps) old
  pub count : steps' + steps_within p (MOST_LOCAL_STEPS - steps') new ≡ steps + steps_within p (MOST_LOCAL_STEPS - steps) old
  pub more : steps ≤ steps'
  pub after : after_steps p (steps' - steps) old ≡ Some new

-- the state that another leads to was reached, and this is what the instruction of its top frame does
pub record IsSettled (p : PlainProgram) (old : LocalState) (steps : ℕ) (f : Frame) (below : List Frame) (steps' : ℕ) (a : Acted) : Type 0 where
  pub state : Running (f ∷ below) Plain ≡ settled_within p (MOST_LOCAL_STEPS - steps) old
  pub count : steps' ≡ steps + steps_within p (MOST_LOCAL_STEPS - steps) old
  pub acted : a ≡ acted_of (action p f)
  pub way : IsOnTheWay p old steps (Running (f ∷ below) Plain) steps'

-- What leads to the frame f after so many steps leads on to the frame g, whatever is below.
abbrev pub LeadsOn : PlainProgram → Frame → ℕ → Frame → ℕ → Type 0
LeadsOn p f now g then =
    (old : LocalState) (steps : ℕ) (below : List Frame) → IsOnTheWay p old steps (Running (f ∷ below) Plain) now → IsOnTheWay p old steps (Running (g ∷ below) Plain) then

-- The instruction of the frame g makes no step of the frame alone, and this is what it does; or all steps were made.
abbrev pub IsWalked : PlainProgram → Frame → ℕ → Acted → Type 0
IsWalked p g steps a = ((steps ≡ MOST_LOCAL_STEPS) × (a ≡ acted.Goes)) ⊎ ((steps < MOST_LOCAL_STEPS) × (a ≢ acted.Goes) × (a ≡ acted_of (action p g)))

-- where one step was left, the instruction of the frame f did this, and left the frame g
abbrev pub IsTried : PlainProgram → Frame → ℕ → Frame → Acted → Type 0
IsTried p f steps g a = steps + 1 ≡ MOST_LOCAL_STEPS → (a ≡ acted_of (action p f)) × (g ≡ after (action p f) f)
