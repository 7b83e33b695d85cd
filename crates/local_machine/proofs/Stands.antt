-- What an instruction leaves of the frame.
use Rattle.std.proofs.Common.{◌≡◌, ℕ, ◌+◌, ◌<◌, ◌≤◌, ◌^◌, length, ap, arith}
use Rattle.machine_model.specs.Frames as model
use Rattle.machine_model.specs.Operands.{Action, Goes, Calls, Gives, Asks, Fails, Undefined}
use Rattle.frame_actions.specs.declared.frame.Frame.{Frame}
use Rattle.frame_actions.specs.Acts.{plain, HasRoom, acted_of, after}
use Rattle.local_machine.specs.Fields.{Stands}

fits : (m : model.Frame) (g : Frame) (room : ℕ) → plain g ≡ m → length m.stack + 2 ≤ room → room ≤ g.stack.room → m.place < 2 ^ 31 → HasRoom g × (g.place < 2 ^ 31)
fits m g room e h r l =
    let place : g.place ≡ m.place = ap (λ (f : model.Frame). f.place) e in
    let stack : length g.stack.values ≡ length m.stack = ap (λ (f : model.Frame). length f.stack) e in
    (omega arith, omega arith)

-- what waits for a reply has its room and a next place
pub stands : (a : Action) (m : model.Frame) (g : Frame) (room : ℕ) → plain g ≡ after a m → length m.stack + 2 ≤ room → room ≤ g.stack.room → m.place < 2 ^ 31 → Stands (acted_of a) g
stands (Goes f) m g room e h r l = tt
stands (Calls n lock) m g room e h r l = fits m g room e h r l
stands (Gives given) m g room e h r l = fits m g room e h r l
stands (Asks o n) m g room e h r l = fits m g room e h r l
stands (Fails kind) m g room e h r l = fits m g room e h r l
stands Undefined m g room e h r l = tt
