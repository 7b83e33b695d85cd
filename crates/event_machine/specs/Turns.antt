-- What a turn answers and leaves.
use Rattle.std.specs.Prelude.{◌≡◌, ℕ, Bool, false, true, IsTrue, IsSome, List, [], ◌∷◌, ◌++◌, map, Option, Some, None, slice_get, slice_set, ◌⊎◌}
use Rattle.vm_model.specs.declared.ends.End.{End}
use Rattle.vm_model.specs.declared.op.Op.{Op}
use Rattle.vm_model.specs.declared.op.Reply.{Reply}
use Rattle.vm_model.specs.declared.op.Entry.{Entry}
use Rattle.vm_model.specs.Program.{PlainProgram}
use Rattle.machine_model.specs.Frames.{LocalState}
use Rattle.machine_model.specs.LocalStep.{absorb, settled}
use Rattle.machine_model.specs.Shared.{is_live}
use Rattle.machine_model.specs.Machine.{end_of, is_enabled, turn}
use Rattle.local_machine.specs.LocalView.{LocalView}
use Rattle.event_machine.specs.MachineView.{MachineView, machine_of, may_turn, shown_end, state_of}
use Rattle.event_machine.specs.declared.machine.Next.{Next}
use Rattle.event_machine.specs.declared.machine.Next.TheVariants as next
use Rattle.event_machine.specs.declared.machine.TurnFault.{TurnFault}
use Rattle.event_machine.specs.declared.machine.TurnFault.TheVariants as fault

-- a turn was made: the machine is the one after it, and this is its event
pub record Turned (p : PlainProgram) (old : MachineView) (t : ℕ) (e : Entry) (new : MachineView) : Type 0 where
  pub turned : turn p (machine_of old) t ≡ Some (machine_of new)
  pub entry : new.world.history ≡ old.world.history ++ e ∷ []
  pub of_thread : e.thread ≡ t
  pub budget : new.world.budget ≡ old.world.budget

-- the history is as it was, or has one event of this thread more
abbrev pub AddsAtMostOne : List Entry → ℕ → List Entry → Type 0
AddsAtMostOne old t new = (new ≡ old) ⊎ ((e : Entry) × (new ≡ old ++ e ∷ []) × (e.thread ≡ t))

-- memory ran out in a turn of this thread: no further turn can be made
pub record BreaksOff (old : MachineView) (t : ℕ) (new : MachineView) : Type 0 where
  pub broken : new.is_broken ≡ true
  pub budget : new.world.budget ≡ old.world.budget
  pub history : AddsAtMostOne old.world.history t new.world.history

-- why no turn was made
abbrev pub Refuses : PlainProgram → MachineView → ℕ → TurnFault → MachineView → Type 0
Refuses p old t fault.Over new = (old.is_broken ≡ false) × IsSome (end_of p (machine_of old) old.world.budget) × (new ≡ old)
Refuses p old t fault.NotLive new = (old.is_broken ≡ false) × (end_of p (machine_of old) old.world.budget ≡ None) × (is_live old.world.shared t ≡ false) × (new ≡ old)
Refuses p old t fault.NotEnabled new =
    (old.is_broken ≡ false) × (end_of p (machine_of old) old.world.budget ≡ None) × (is_live old.world.shared t ≡ true) × (is_enabled p (machine_of old) t ≡ false) × (new ≡ old)
Refuses p old t fault.NoMemory new = BreaksOff old t new

-- what comes next is the end, and where there is none the thread that is picked
abbrev pub IsNext : Option End → Option ℕ → Next → Type 0
IsNext ended picked (next.Ends e) = ended ≡ Some e
IsNext ended picked (next.Turns t) = (ended ≡ None) × (picked ≡ Some t)

-- the state of a thread after its operation and the reply, at its next operation
abbrev pub gone_on : PlainProgram → LocalState → Option Op → Reply → LocalState
gone_on p l None r = l
gone_on p l (Some o) r = settled p (absorb p l o r)

abbrev pub GoesOnIn : PlainProgram → Option LocalView → List LocalView → ℕ → Reply → List LocalView → Type 0
GoesOnIn p None old t r new = ⊥
GoesOnIn p (Some l) old t r new = map state_of new ≡ slice_set (map state_of old) t (gone_on p l.state l.pending r)

-- that thread went on after the reply, and the others stayed
abbrev pub GoesOnAt : PlainProgram → List LocalView → ℕ → Reply → List LocalView → Type 0
GoesOnAt p old t r new = GoesOnIn p (slice_get old t) old t r new

abbrev pub AsksFor : Option LocalView → Op → Type 0
AsksFor None o = ⊥
AsksFor (Some l) o = l.pending ≡ Some o
