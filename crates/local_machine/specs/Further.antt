-- Steps of the thread alone, and what stays as it is.
use Rattle.std.specs.Prelude.{◌≡◌, ◌≤◌, ◌-◌, ◌⊎◌, ℕ, zero, suc, true, false, Option, Some, None}
use Rattle.vm_model.specs.Program.{PlainProgram}
use Rattle.machine_model.specs.Frames.{LocalState, Ended}
use Rattle.machine_model.specs.LocalStep.{local_step}
use Rattle.local_machine.specs.LocalView.{LocalView}

abbrev pub one_step_more : PlainProgram → Option LocalState → Option LocalState
one_step_more p None = None
one_step_more p (Some l) = local_step p l

-- the state after exactly so many local steps, where there are so many
unfoldable pub after_steps : PlainProgram → ℕ → LocalState → Option LocalState
after_steps p zero l = Some l
after_steps p (suc n) l = one_step_more p (after_steps p n l)

-- the thread made some local steps, or none, and each is counted; it isn't ready
pub record IsFurther (p : PlainProgram) (old new : LocalView) : Type 0 where
  pub steps : old.steps ≤ new.steps
  pub state : after_steps p (new.steps - old.steps) old.state ≡ Some new.state
  pub is_ready : new.is_ready ≡ false

-- the thread is ready or ended
abbrev pub IsAtRest : LocalView → Type 0
IsAtRest l = (l.is_ready ≡ true) ⊎ (l.state ≡ Ended)
