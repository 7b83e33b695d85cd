-- Which instructions make a local step.
use Rattle.std.proofs.Common.{◌≡◌, ◌≢◌, List, length, reverse, None, refl, sym, ◌∙◌, ap}
use Rattle.std.proofs.lemmas.List.{length-reverse, length-map}
use Rattle.vm_model.specs.Program.{PlainProgram}
use Rattle.machine_model.specs.Frames.{Frame}
use Rattle.machine_model.specs.Operands.{Action, Goes, Calls, Gives, Asks, Fails, Undefined}
use Rattle.machine_model.specs.LocalStep.{moved}
use Rattle.frame_actions.specs.declared.acted.Acted.{Acted}
use Rattle.frame_actions.specs.declared.acted.Acted.TheVariants as acted
use Rattle.frame_actions.specs.declared.frame.Frame as code
use Rattle.frame_actions.specs.Acts.{acted_of, after}
use Rattle.local_machine.specs.Fields.{callers}
use Rattle.local_machine.specs.Steps.{followed}

pub length-callers : (below : List code.Frame) → length (callers below) ≡ length below
length-callers below = length-map (reverse below) _ ∙ length-reverse below

-- an instruction that did this makes the step of its action
pub step_is : (p : PlainProgram) (a : Action) (f g : Frame) (below : List Frame) (x : Acted) → x ≡ acted_of a → g ≡ after a f → moved p a f below ≡ followed p x g below
step_is p a f g below x e t = same a f below ∙ sym (ap (λ (y : Acted). followed p y g below) e ∙ ap (λ (h : Frame). followed p (acted_of a) h below) t)
  where
    same : (a : Action) (f : Frame) (below : List Frame) → moved p a f below ≡ followed p (acted_of a) (after a f) below
    same (Goes h) f below = refl
    same (Calls m l) f below = refl
    same (Gives given) f below = refl
    same (Asks o n) f below = refl
    same (Fails kind) f below = refl
    same Undefined f below = refl

-- only a step of the frame alone changes the frame
pub frame-stays : (a : Action) (f g : Frame) (x : Acted) → x ≡ acted_of a → g ≡ after a f → x ≢ acted.Goes → g ≡ f
frame-stays (Goes h) f g x e t n = absurd (n e)
frame-stays (Calls m l) f g x e t n = t
frame-stays (Gives given) f g x e t n = t
frame-stays (Asks o k) f g x e t n = t
frame-stays (Fails kind) f g x e t n = t
frame-stays Undefined f g x e t n = t

-- where there is no step, the frame isn't changed
pub no_goes : (p : PlainProgram) (g : Frame) (below : List Frame) (x : Acted) → followed p x g below ≡ None → x ≢ acted.Goes
no_goes p g below x none e =
    let goes : followed p acted.Goes g below ≡ None = sym (ap (λ (y : Acted). followed p y g below) e) ∙ none in
    cc
