-- What the code says of an action, and what an action leaves of the frame.
use Rattle.std.specs.Prelude.{◌+◌, ◌≤◌, Bool, true, false, length}
use Rattle.machine_model.specs.Frames as model
use Rattle.machine_model.specs.Operands.{Action, Goes, Calls, Gives, Asks, Fails, Undefined}
use Rattle.frame_actions.specs.declared.frame.Frame.{Frame}
use Rattle.frame_actions.specs.declared.acted.Acted.{Acted}
use Rattle.frame_actions.specs.declared.acted.Acted.TheVariants as acted

-- the frame as the definitions see it
abbrev pub plain : Frame → model.Frame
plain f = record { method = f.method; place = f.place; locals = f.locals.items; stack = f.stack.values; lock = f.lock }

-- there is room for an instruction
abbrev pub HasRoom : Frame → Type 0
HasRoom f = length f.stack.values + 2 ≤ f.stack.room

-- the action without the frame
abbrev pub acted_of : Action → Acted
acted_of (Goes g) = acted.Goes
acted_of (Calls m l) = acted.Calls m l
acted_of (Gives given) = acted.Gives given
acted_of (Asks o n) = acted.Asks o n
acted_of (Fails kind) = acted.Fails kind
acted_of Undefined = acted.Undefined

-- what an instruction does that is done, or that missed an operand
abbrev pub goes_if : Bool → Acted
goes_if true = acted.Goes
goes_if false = acted.Undefined

-- the frame that a step of the thread alone leaves; every other action leaves the frame as it is
abbrev pub after : Action → model.Frame → model.Frame
after (Goes g) f = g
after (Calls m l) f = f
after (Gives given) f = f
after (Asks o n) f = f
after (Fails kind) f = f
after Undefined f = f
