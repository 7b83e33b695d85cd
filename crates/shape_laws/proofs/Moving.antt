-- A frame that goes on inside its method.
use Rattle.std.proofs.Common.{◌≡◌, ℕ}
use Rattle.vm_model.specs.Program.{PlainProgram}
use Rattle.machine_model.specs.Frames.{Frame}
use Rattle.machine_model.specs.Shapes.{Shape}
use Rattle.shape_laws.specs.Fitting.{FitsShape}

-- the frame stands at this place of its method, and fits the shape
pub record Moves (p : PlainProgram) (f g : Frame) (place : ℕ) (s : Shape) : Type 0 where
  pub method : g.method ≡ f.method
  pub lock : g.lock ≡ f.lock
  pub place_is : g.place ≡ place
  pub fit : FitsShape p s g
