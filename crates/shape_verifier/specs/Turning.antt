-- What the steps of a turn answer, and what the pass keeps of its state.
use Rattle.std.specs.Prelude.{◌≡◌, ℕ, ◌+◌, ◌==◌, ◌<◌, Bool, true, false, if◌then◌else◌, nat_lt, List, [], ◌∷◌, length, map, Option, Some, None, slice_get, slice_set, Result, Ok, Err}
use Rattle.std.specs.List.{AllByRecursion}
use Rattle.vm_model.specs.declared.value.Kind.{Kind}
use Rattle.vm_model.specs.declared.value.Kind.TheVariants as kind
use Rattle.vm_model.specs.Program.{PlainMethod, PlainProgram, instr_at, locals_of}
use Rattle.machine_model.specs.Shapes.{Shape, Flow, Next, Jump, Branch, Leaves, Refused, IsWithinLimits, parameters}
use Rattle.shape_lattice.specs.declared.fault.ShapeKind.{ShapeKind}
use Rattle.shape_lattice.specs.declared.fault.ShapeKind.TheVariants as fault
use Rattle.shape_verifier.specs.declared.fault.Refusal.{Refusal}
use Rattle.shape_verifier.specs.declared.passing.Reached.{Reached}
use Rattle.shape_verifier.specs.declared.passing.Met.{Met}
use Rattle.shape_verifier.specs.declared.passing.Met.TheVariants as met
use Rattle.vm_model.specs.declared.memory.Failure.{Failure}
use Rattle.vm_model.specs.declared.memory.Failure.TheVariants as failure
use Rattle.vm_model.specs.Failures.{◌>>=◌, Fails}
use Rattle.shape_verifier.specs.Passing.{PassState, EndsWith, at_place, judged_at, least_new, pass_within, reached, spread}

-- ---- what is new

abbrev pub is_new_in : Option (Option Reached) → Bool
is_new_in None = false
is_new_in (Some None) = false
is_new_in (Some (Some r)) = r.is_new

-- no instruction before this one has a new shape
abbrev pub NoneNewBelow : ℕ → PassState → Type 0
NoneNewBelow from state = (k : ℕ) → k < from → is_new_in (slice_get state k) ≡ false

-- the least instruction with a new shape, where there is one, and the shape isn't new any more
abbrev pub TakenSo : Option (ℕ × Shape) → PassState → PassState → Type 0
TakenSo None old new = (least_new 0 old ≡ None) × (new ≡ old)
TakenSo (Some here) old new = (least_new 0 old ≡ Some here) × (new ≡ slice_set old here.0 (reached false here.1)) × NoneNewBelow (here.0 + 1) new

-- ---- what was reached

-- as many locals as this
abbrev pub HasLocals : ℕ → Option Reached → Type 0
HasLocals count None = Unit {0}
HasLocals count (Some r) = length r.shape.locals ≡ count

abbrev pub HaveLocals : ℕ → PassState → Type 0
HaveLocals count state = AllByRecursion (HasLocals count) state

-- as many locals as the shape that goes on
abbrev pub HaveLocalsOf : Flow → PassState → Type 0
HaveLocalsOf (Next s) state = HaveLocals (length s.locals) state
HaveLocalsOf (Jump to s) state = HaveLocals (length s.locals) state
HaveLocalsOf (Branch to s) state = HaveLocals (length s.locals) state
HaveLocalsOf Leaves state = Unit {0}
HaveLocalsOf Refused state = Unit {0}

-- each shape that was reached is within the limits of the method
abbrev pub IsWithin : PlainMethod → Option Reached → Type 0
IsWithin m None = Unit {0}
IsWithin m (Some r) = IsWithinLimits m r.shape

abbrev pub AreWithin : PlainMethod → PassState → Type 0
AreWithin m state = AllByRecursion (IsWithin m) state

-- ---- answers

-- a shape that was reached, where another one was merged into it
abbrev pub RaisedSo : Result Bool ShapeKind → Reached → Reached → Bool → Result Shape ShapeKind → Type 0
RaisedSo (Ok false) old new taken merged = (true ≡ taken) × (new ≡ old)
RaisedSo (Ok true) old new taken merged = (false ≡ taken) × (new.is_new ≡ true) × (merged ≡ Ok new.shape)
RaisedSo (Err kind) old new taken merged = (false ≡ taken) × (merged ≡ Err kind)

abbrev pub MetSo : Result Met Refusal → PassState → PassState → Option (Option Reached) → Result PassState Refusal → Type 0
MetSo (Ok met.Same) old new here answer = (answer ≡ Ok new) × (new ≡ old)
MetSo (Ok met.Raised) old new here answer = answer ≡ Ok new
MetSo (Ok met.Unreached) old new here answer = (here ≡ Some None) × (new ≡ old)
MetSo (Err refusal) old new here answer = answer ≡ Err refusal

-- the state where a shape arrived, and whether the shape is new there
abbrev pub ArrivedSo : Result Bool Refusal → PassState → PassState → Result PassState Refusal → Type 0
ArrivedSo (Ok true) old new answer = answer ≡ Ok new
ArrivedSo (Ok false) old new answer = (answer ≡ Ok new) × (new ≡ old)
ArrivedSo (Err refusal) old new answer = answer ≡ Err refusal

-- the same where memory may run out
abbrev pub CopiedSo : Result Bool (Failure Refusal) → PassState → PassState → Result PassState Refusal → Type 0
CopiedSo (Ok true) old new answer = answer ≡ Ok new
CopiedSo (Ok false) old new answer = (answer ≡ Ok new) × (new ≡ old)
CopiedSo (Err e) old new answer = Fails e answer

-- the state after a turn, in which nothing is new before this instruction
abbrev pub SpreadSo : Result ℕ (Failure Refusal) → PassState → Result PassState Refusal → Type 0
SpreadSo (Ok from) new answer = (answer ≡ Ok new) × NoneNewBelow from new
SpreadSo (Err e) new answer = Fails e answer

-- an instruction is judged with its shape, and what it makes is merged into its followers
abbrev pub gone_on : PlainProgram → ℕ → PlainMethod → PassState → ℕ → Shape → Result PassState Refusal
gone_on p n m state place s = at_place place (judged_at p n m place s (instr_at p n place)) >>= λ flow. spread p state place flow

-- ---- the beginning

abbrev pub receiver_local : PlainMethod → List (Option Kind)
receiver_local m = map Some (if m.is_static then [] else kind.Ref m.class ∷ [])

-- why a method is refused before the first turn
abbrev pub refused_first : PlainMethod → Option Refusal
refused_first m =
    if nat_lt (locals_of m) (length (parameters m)) then Some (record { kind = fault.Limit; at = 0 })
    else if length m.code == 0 then Some (record { kind = fault.FallsOff; at = 0 })
    else None

abbrev pub RefusedSo : (Failure Refusal) → Option Refusal → Type 0
RefusedSo failure.Memory refused = Unit {0}
RefusedSo (failure.Fault refusal) refused = refused ≡ Some refusal

-- from this state the pass ends so
abbrev pub EndsFrom : PlainProgram → ℕ → PlainMethod → PassState → Result PassState Refusal → Type 0
EndsFrom p n m state answer = (turns : ℕ) × (pass_within turns p n m state ≡ Some answer)

-- from the old state the pass ends with the new one or with this refusal, unless memory runs out
abbrev pub SettledSo : Result (Unit {0}) (Failure Refusal) → PlainProgram → ℕ → PlainMethod → PassState → PassState → Type 0
SettledSo (Ok _) p n m old new = EndsFrom p n m old (Ok new)
SettledSo (Err failure.Memory) p n m old new = Unit {0}
SettledSo (Err (failure.Fault refusal)) p n m old new = EndsFrom p n m old (Err refusal)

-- the pass ends with a state or with this refusal, unless memory runs out
abbrev pub PassedSo : Result (Unit {0}) (Failure Refusal) → PlainProgram → ℕ → PlainMethod → Type 0
PassedSo (Ok _) p n m = (state : PassState) × EndsWith p n m (Ok state)
PassedSo (Err failure.Memory) p n m = Unit {0}
PassedSo (Err (failure.Fault refusal)) p n m = EndsWith p n m (Err refusal)
