-- Calls and returns of the code, by the definitions.
use Rattle.std.specs.Prelude.{◌≡◌, Bool, true, false, List, [], ◌∷◌, Option}
use Rattle.vm_model.specs.declared.value.Value.{Value}
use Rattle.machine_model.specs.Frames as model
use Rattle.machine_model.specs.LocalStep.{return_frames}
use Rattle.frame_actions.specs.declared.frame.Frame.{Frame}
use Rattle.local_machine.specs.Fields.{callers, frames_of}

abbrev pub ReturnsTo : Option Value → List model.Frame → List model.Frame → Type 0
ReturnsTo given [] frames = ⊥
ReturnsTo given (f ∷ below) frames = frames ≡ return_frames given f below

-- the caller took what the top frame gave back; or there is none, and nothing changed
abbrev pub GaveBack : Option Value → Frame → List Frame → Bool → Frame → List Frame → Type 0
GaveBack given top below true top' below' = ReturnsTo given (callers below) (frames_of top' below')
GaveBack given top below false top' below' = (callers below ≡ []) × (top' ≡ top) × (below' ≡ below)
