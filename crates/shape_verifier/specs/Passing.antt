-- The pass over a method: the least instruction whose shape is new is looked at, again and again, until none is new or a fault
-- stops it (JVMS SE 8 §4.10.2.2).
use Rattle.std.specs.Prelude.{◌≡◌, ℕ, zero, suc, ◌+◌, ◌==◌, ◌<◌, Bool, true, false, if◌then◌else◌, nat_lt, List, [], ◌∷◌, length, replicate, Option, Some, None, slice_get, slice_set, Result, Ok, Err}
use Rattle.vm_model.specs.declared.instr.Instr.{Instr}
use Rattle.vm_model.specs.Program.{PlainMethod, PlainProgram, instr_at, locals_of, method_at}
use Rattle.vm_model.specs.Failures.{◌>>=◌}
use Rattle.machine_model.specs.Shapes.{Shape, Table, Flow, Next, Jump, Branch, Leaves, Refused, first_shape, parameters, HasShapes}
use Rattle.shape_lattice.specs.declared.fault.ShapeKind.{ShapeKind}
use Rattle.shape_lattice.specs.declared.fault.ShapeKind.TheVariants as fault
use Rattle.shape_lattice.specs.Merging.{merged_shape, takes}
use Rattle.shape_verifier.specs.declared.fault.Refusal.{Refusal}
use Rattle.shape_verifier.specs.declared.passing.Reached.{Reached}
use Rattle.shape_verifier.specs.Judging.{judged}

-- what the pass knows: for each instruction the shape with which it was reached, if it was
abbrev pub PassState : Type 0
PassState = List (Option Reached)

-- a fault stands at a place
abbrev pub at_place : {A : Type 0} → ℕ → Result A ShapeKind → Result A Refusal
at_place place (Ok x) = Ok x
at_place place (Err kind) = Err (record { kind = kind; at = place })

-- the least instruction whose shape is new, and the shape
abbrev pub least_new : ℕ → PassState → Option (ℕ × Shape)
least_new place [] = None
least_new place (None ∷ rest) = least_new (place + 1) rest
least_new place (Some r ∷ rest) = if r.is_new then Some (place, r.shape) else least_new (place + 1) rest

abbrev pub reached : Bool → Shape → Option Reached
reached is_new s = Some (record { shape = s; is_new = is_new })

-- a shape that comes to an instruction where the pass knows this much: it is new where there was none, and where merging changes
-- the one that was there
abbrev pub merged_into : PlainProgram → PassState → ℕ → Shape → Option (Option Reached) → Result PassState Refusal
merged_into p state place s None = Ok state
merged_into p state place s (Some None) = Ok (slice_set state place (reached true s))
merged_into p state place s (Some (Some r)) =
    if takes p s r.shape then Ok state else (at_place place (merged_shape p s r.shape) >>= λ merged. Ok (slice_set state place (reached true merged)))

abbrev pub merged_at : PlainProgram → PassState → ℕ → Shape → Result PassState Refusal
merged_at p state place s = merged_into p state place s (slice_get state place)

-- the result of an instruction is merged into each of its followers, the next instruction first
abbrev pub spread : PlainProgram → PassState → ℕ → Flow → Result PassState Refusal
spread p state place (Next s) = merged_at p state (place + 1) s
spread p state place (Jump to s) = merged_at p state to s
spread p state place (Branch to s) = do
  behind ← merged_at p state (place + 1) s
  merged_at p behind to s
spread p state place Leaves = Ok state
spread p state place Refused = Ok state

abbrev pub judged_at : PlainProgram → ℕ → PlainMethod → ℕ → Shape → Option Instr → Result Flow ShapeKind
judged_at p n m place s None = Err fault.FallsOff
judged_at p n m place s (Some i) = judged p n m place i s

-- one instruction is looked at with its shape, which isn't new any more
abbrev pub looked_at : PlainProgram → ℕ → PlainMethod → PassState → ℕ → Shape → Result PassState Refusal
looked_at p n m state place s = do
  flow ← at_place place (judged_at p n m place s (instr_at p n place))
  spread p (slice_set state place (reached false s)) place flow

abbrev pub turned_at : PlainProgram → ℕ → PlainMethod → PassState → Option (ℕ × Shape) → Option (Result PassState Refusal)
turned_at p n m state None = None
turned_at p n m state (Some here) = Some (looked_at p n m state here.0 here.1)

-- one turn of the pass; none where no shape is new
unfoldable pub turned : PlainProgram → ℕ → PlainMethod → PassState → Option (Result PassState Refusal)
turned p n m state = turned_at p n m state (least_new 0 state)

abbrev pub passed_on : PassState → Option (Result PassState Refusal) → (PassState → Option (Result PassState Refusal)) → Option (Result PassState Refusal)
passed_on state None go = Some (Ok state)
passed_on state (Some (Err refusal)) go = Some (Err refusal)
passed_on state (Some (Ok next)) go = go next

-- how the pass ends, if it does so within so many turns
unfoldable pub pass_within : ℕ → PlainProgram → ℕ → PlainMethod → PassState → Option (Result PassState Refusal)
pass_within zero p n m state = None
pass_within (suc turns) p n m state = passed_on state (turned p n m state) (pass_within turns p n m)

-- at first the first instruction has the shape of the parameters
abbrev pub begun : PlainMethod → PassState
begun m = slice_set (replicate (length m.code) None) 0 (reached true (first_shape m))

-- parameters that need more locals than there are, and a method without instructions, are refused first
abbrev pub method_within : ℕ → PlainProgram → ℕ → PlainMethod → Option (Result PassState Refusal)
method_within turns p n m =
    if nat_lt (locals_of m) (length (parameters m)) then Some (Err (record { kind = fault.Limit; at = 0 }))
    else if length m.code == 0 then Some (Err (record { kind = fault.FallsOff; at = 0 }))
    else pass_within turns p n m (begun m)

-- the pass over a method ends so
abbrev pub EndsWith : PlainProgram → ℕ → PlainMethod → Result PassState Refusal → Type 0
EndsWith p n m answer = (turns : ℕ) × (method_within turns p n m ≡ Some answer)

-- the method of this number has a closed table, if it is there
abbrev pub HasTable : PlainProgram → ℕ → Type 0
HasTable p n = (table : Table) × HasShapes p table n (method_at p n)

-- The program can't be verified: this is the least method that has no closed table, and the pass over it stops here.
pub record IsRefused (p : PlainProgram) (n : ℕ) (refusal : Refusal) : Type 0 where
  pub method : PlainMethod
  pub is_method : method_at p n ≡ Some method
  pub stops : EndsWith p n method (Err refusal)
  pub none : HasTable p n → ⊥
  pub before : (k : ℕ) → k < n → HasTable p k
