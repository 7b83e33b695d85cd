-- The fields of a thread by itself, and what they stand for.
use Rattle.std.specs.Prelude.{ℕ, ◌<◌, ◌^◌, Bool, true, false, List, [], ◌∷◌, map, reverse}
use Rattle.std.specs.List.{AllByRecursion}
use Rattle.machine_model.specs.Frames as model
use Rattle.frame_actions.specs.declared.acted.Acted.{Acted}
use Rattle.frame_actions.specs.declared.acted.Acted.TheVariants as acted
use Rattle.frame_actions.specs.declared.frame.Frame.{Frame}
use Rattle.local_machine.specs.declared.completion.Completion.{Completion}
use Rattle.local_machine.specs.declared.completion.Completion.TheVariants as code
use Rattle.frame_actions.specs.Acts.{plain, HasRoom}
use Rattle.local_machine.specs.Completions as completions

-- the frames below the top one, the nearest first
abbrev pub callers : List Frame → List model.Frame
callers below = map plain (reverse below)

-- all frames, the top one first
abbrev pub frames_of : Frame → List Frame → List model.Frame
frames_of top below = plain top ∷ callers below

-- each frame that waits for a return has a next place
abbrev pub AreAtCalls : List model.Frame → Type 0
AreAtCalls frames = AllByRecursion (λ (f : model.Frame). f.place < 2 ^ 31) frames

abbrev pub completion_of : Completion → completions.Completion
completion_of code.Nothing = completions.Nothing
completion_of code.Begins = completions.Begins
completion_of (code.Takes n) = completions.Takes n
completion_of (code.Calls n callee) = completions.Calls n (plain callee.value)
completion_of (code.Gives given) = completions.Gives given

-- ---- room

abbrev pub CallerHasRoom : List Frame → Type 0
CallerHasRoom [] = Unit {0}
CallerHasRoom (f ∷ below) = HasRoom f

-- what is left to do has its room: the last two numbers are how many frames are below, and for how many there is room
abbrev pub HasRoomFor : Completion → Frame → List Frame → ℕ → ℕ → Type 0
HasRoomFor code.Nothing top below count room = Unit {0}
HasRoomFor code.Begins top below count room = Unit {0}
HasRoomFor (code.Takes n) top below count room = HasRoom top × (top.place < 2 ^ 31)
HasRoomFor (code.Calls n callee) top below count room = (count < room) × (top.place < 2 ^ 31)
HasRoomFor (code.Gives given) top below count room = CallerHasRoom (reverse below)

-- an instruction that waits for a reply has room for it and a next place
abbrev pub Stands : Acted → Frame → Type 0
Stands acted.Goes f = Unit {0}
Stands (acted.Calls m l) f = HasRoom f × (f.place < 2 ^ 31)
Stands (acted.Gives given) f = HasRoom f × (f.place < 2 ^ 31)
Stands (acted.Asks o n) f = HasRoom f × (f.place < 2 ^ 31)
Stands (acted.Fails kind) f = HasRoom f × (f.place < 2 ^ 31)
Stands acted.Undefined f = Unit {0}

-- the same, unless a step was made
abbrev pub StandsUnless : Bool → Acted → Frame → Type 0
StandsUnless true a f = Unit {0}
StandsUnless false a f = Stands a f
