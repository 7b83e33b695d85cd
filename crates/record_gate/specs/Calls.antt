-- What each call at the gate tells.
use Rattle.std.specs.Prelude.{◌≡◌, ◌⊎◌, ℕ, ◌<◌, ◌%◌, ◌==◌, ◌||◌, true, if◌then◌else◌, List, [], ◌∷◌, ◌++◌, ⊤, Some}
use Rattle.projection_laws.specs.Projections.{target_in}
use Rattle.machine_model.specs.Operations.{entry}
use Rattle.vm_model.specs.declared.op.Op.{Op}
use Rattle.vm_model.specs.declared.op.Entry.{Entry}
use Rattle.shared_world.specs.Worlds.{WorldState}
use Rattle.gate_core.specs.Seats.{placed}
use Rattle.gate_core.specs.declared.gate.Begun.{Begun}
use Rattle.gate_core.specs.declared.gate.Begun.TheVariants as begun
use Rattle.record_gate.specs.declared.answers.Committing.{Committing}
use Rattle.record_gate.specs.declared.answers.Committing.TheVariants as answer
use Rattle.record_gate.specs.declared.rule.RecordView.{RecordView}
use Rattle.record_gate.specs.Handled.{Commits, Leaves}
use Rattle.record_gate.specs.Judging.{Answers, world_after, begun_in}
use Rattle.gate_core.specs.Histories.{entries_of_lane}
use Rattle.record_gate.specs.Lanes.{has}
use Rattle.record_gate.specs.Steps.{Sat, Finds, history_in}
use Rattle.record_gate.specs.Views.{missing, seeing, tried}

-- the gate was free, and the answer is that of the world behind it
abbrev pub TriedOn : RecordView → RecordView → ℕ → Op → Committing → Type 0
TriedOn v v' t o a = (w : WorldState) × Finds v w × Answers w t o a × (v' ≡ tried v (world_after w t o a).history)

abbrev pub Tried : RecordView → RecordView → ℕ → Op → Committing → Type 0
Tried v v' t o (answer.Committed clock reply) = TriedOn v v' t o (answer.Committed clock reply)
Tried v v' t o answer.Busy = v' ≡ missing v
Tried v v' t o answer.Blocked = TriedOn v v' t o answer.Blocked
Tried v v' t o (answer.Over e) = TriedOn v v' t o (answer.Over e)
Tried v v' t o answer.Spent = TriedOn v v' t o answer.Spent
Tried v v' t o answer.NoMemory = TriedOn v v' t o answer.NoMemory

-- the gate was free, and the answer is that of the world behind it; or it was taken
abbrev pub Asked : RecordView → RecordView → ℕ → Begun → Type 0
Asked v v' t b = ((w : WorldState) × Finds v w × (b ≡ begun_in w t) × (v' ≡ tried v w.history)) ⊎ ((b ≡ begun.NotYet) × (v' ≡ missing v))

-- the seat holds the world as the answer left it
abbrev pub Ready : Sat → WorldState → Committing → Type 0
Ready m w (answer.Committed clock reply) = Commits m w
Ready m w answer.Busy = Leaves m w
Ready m w answer.Blocked = Leaves m w
Ready m w (answer.Over e) = Leaves m w
Ready m w answer.Spent = Leaves m w
Ready m w answer.NoMemory = Leaves m w

-- the seat after the event is counted, if there is one
abbrev pub settled : Sat → Committing → Sat
settled m (answer.Committed clock reply) = (seeing m.0 (history_in m.1), m.1)
settled m answer.Busy = m
settled m answer.Blocked = m
settled m (answer.Over e) = m
settled m answer.Spent = m
settled m answer.NoMemory = m

-- the seat has or may give each lane
abbrev pub HasAll : RecordView → Type 0
HasAll v = (lane : ℕ) → lane < v.lane_count → (has v.lanes lane || has v.spare lane) ≡ true

-- a history has no more entries of the seat's lanes than it has seen
abbrev pub KeepsOwn : RecordView → List Entry → Type 0
KeepsOwn v history = (lane : ℕ) → has v.lanes lane ≡ true → entries_of_lane v.lane_count lane history ≡ entries_of_lane v.lane_count lane v.seen

-- the seat's own entries after a call: the event is added to those of its lane, and all others are as they were
abbrev pub OwnAfter : RecordView → RecordView → ℕ → Op → Committing → Type 0
OwnAfter v v' t o (answer.Committed clock reply) =
    (lane : ℕ) → has v.lanes lane ≡ true
    → entries_of_lane v.lane_count lane v'.seen ≡ entries_of_lane v.lane_count lane v.seen ++ (if t % v.lane_count == lane then placed clock (entry t o reply) ∷ [] else [])
OwnAfter v v' t o answer.Busy = KeepsOwn v v'.seen
OwnAfter v v' t o answer.Blocked = KeepsOwn v v'.seen
OwnAfter v v' t o (answer.Over e) = KeepsOwn v v'.seen
OwnAfter v v' t o answer.Spent = KeepsOwn v v'.seen
OwnAfter v v' t o answer.NoMemory = KeepsOwn v v'.seen

-- the target that is told is that of the thread's Start
abbrev pub TellsTarget : RecordView → ℕ → Begun → Type 0
TellsTarget v t (begun.Yes target) = target_in v.seen t ≡ Some target
TellsTarget v t begun.NotYet = ⊤
TellsTarget v t begun.Over = ⊤
