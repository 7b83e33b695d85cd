-- What the run of a schedule shows against a fault (Zeller and Hildebrandt 2002: pass, fail, unresolved).
use Rattle.std.specs.Prelude.{◌≡◌, ℕ, ◌+◌, ◌==◌, Bool, true, false, ◌&&◌, not, if◌then◌else◌, List, Option, Some, None, count_by}
use Rattle.vm_model.specs.declared.ends.End.{End}
use Rattle.vm_model.specs.declared.ends.End.TheVariants as end
use Rattle.vm_model.specs.declared.ends.Fault.{Fault}
use Rattle.vm_model.specs.declared.ends.FaultKind.{FaultKind}
use Rattle.vm_model.specs.declared.ends.FaultKind.TheVariants as kind
use Rattle.vm_model.specs.Program.{PlainProgram}
use Rattle.machine_model.specs.Machine.{MachineState, end_of, run}
use Rattle.machine_model.specs.Ring.{schedule_threads}
use Rattle.schedule_model.specs.declared.outcome.Outcome.{Outcome}
use Rattle.schedule_model.specs.declared.outcome.Outcome.TheVariants.{Pass, Fail, Unresolved}
use Rattle.schedule_model.specs.Schedules.{Agree}

-- the kinds by number, those of thrown objects by the class after the others
abbrev pub kind_number : FaultKind → ℕ
kind_number kind.NullPointer = 0
kind_number kind.Arithmetic = 1
kind_number kind.ArrayIndex = 2
kind_number kind.NegativeSize = 3
kind_number kind.MonitorState = 4
kind_number kind.ThreadState = 5
kind_number kind.StackOverflow = 6
kind_number kind.HeapFull = 7
kind_number kind.OutputFull = 8
kind_number kind.ThreadsFull = 9
kind_number (kind.Thrown class) = 10 + class

-- all four parts are equal
abbrev pub is_same_fault : Fault → Fault → Bool
is_same_fault f g = (kind_number f.kind == kind_number g.kind) && (f.thread == g.thread) && (f.method == g.method) && (f.at == g.at)

-- what an end shows against a fault
abbrev pub outcome_of_end : Fault → Option End → Outcome
outcome_of_end fault None = Unresolved
outcome_of_end fault (Some end.Done) = Pass
outcome_of_end fault (Some (end.Fault other)) = if is_same_fault other fault then Fail else Unresolved
outcome_of_end fault (Some end.Stuck) = Unresolved
outcome_of_end fault (Some end.Spent) = Unresolved

-- the end of a run, where there is one
abbrev pub end_under : PlainProgram → ℕ → Option MachineState → Option End
end_under p events None = None
end_under p events (Some m) = end_of p m events

-- the end of the run of a schedule decides
unfoldable pub outcome_of : PlainProgram → ℕ → Fault → List ℕ → Outcome
outcome_of p events fault times = outcome_of_end fault (end_under p events (run p (schedule_threads p times events)))

-- it passes, or fails alike
abbrev pub is_resolved : Outcome → Bool
is_resolved Pass = true
is_resolved Fail = true
is_resolved Unresolved = false

-- how many of these schedules are unresolved
abbrev pub unresolved_among : (List ℕ → Outcome) → List (List ℕ) → ℕ
unresolved_among outcome schedules = count_by (λ schedule. not (is_resolved (outcome schedule))) schedules

-- schedules that agree below so many events have one outcome
abbrev pub ReadsCounts : ℕ → (List ℕ → Outcome) → Type 0
ReadsCounts events outcome = (xs ys : List ℕ) → Agree events xs ys → outcome xs ≡ outcome ys
